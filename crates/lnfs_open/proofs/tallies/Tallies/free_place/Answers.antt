use Rattle.std.proofs.Common.{◌≡◌, ◌&&◌, Bool, Some, None, ap, sym, ◌∙◌}
use Rattle.std.specs.Prelude.{◌==◌}
use Rattle.std.specs.BTreeMap.{get}
use Rattle.lnfs_open.specs.declared.tallies.Tally.{Tally}
use Rattle.lnfs_open.specs.Tallies.{layer_cmp, no_tally, tally_in}
use Rattle.lnfs_open.proofs.Layers.{none_told, tally_stays}
use Rattle.lnfs_open.proofs.tallies.Tallies.free_place.Goals as goal

pub returns-then-eq : goal.returns-then-eq
returns-then-eq c =
    let there : Some c.in-Some.tally.now ≡ get layer_cmp c.args.self.now.layers c.args.layer = c.in-Some.ensures.value in
    let tally : Tally = c.in-Some.tally.now in
    let same : Tally → Bool = λ t. tally.opens == t.opens && (tally.reading == t.reading && (tally.writing == t.writing && (tally.reading_denied == t.reading_denied && tally.writing_denied == t.writing_denied))) in
    let empty : no_tally ≡ tally = none_told tally (sym (ap same c.none.ensures) ∙ sym c.eq.ensures ∙ c.if-eq.true) in
    tally_stays c.args.self.now.layers c.remove.new.self c.args.layer None c.remove.ensures.updates (empty ∙ ap tally_in there)
