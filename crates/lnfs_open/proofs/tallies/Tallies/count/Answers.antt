use Rattle.std.proofs.Common.{◌≡◌, Some, ap, ◌∙◌}
use Rattle.std.specs.BTreeMap.{get}
use Rattle.lnfs_open.specs.declared.tallies.Tally.{Tally}
use Rattle.lnfs_open.specs.Tallies.{layer_cmp, tally_in, more}
use Rattle.lnfs_open.proofs.Layers.{tally_updated}
use Rattle.lnfs_open.proofs.tallies.Tallies.count.Goals as goal

pub returns : goal.returns
returns c =
    let there : Some c.in-Some.tally.now ≡ get layer_cmp c.args.self.now.layers c.args.layer = c.in-Some.ensures.value in
    let new : Tally → Tally = λ t. more c.args.uses.access c.args.uses.deny t in
    tally_updated c.args.self.now.layers (c.get_mut.follows.lender c.with.result) c.args.layer (Some c.with.result) ((c.get_mut.follows.holds c.with.result).3 c.requires.place) new (c.with.ensures ∙ ap (λ x. new (tally_in x)) there)
