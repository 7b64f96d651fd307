use Rattle.std.proofs.Common.{◌≡◌, Some, ap, sym, ◌∙◌}
use Rattle.std.specs.Prelude.{is_some}
use Rattle.std.specs.BTreeMap.{get}
use Rattle.lnfs_open.specs.declared.tallies.Tally.{Tally}
use Rattle.lnfs_open.specs.Tallies.{layer_cmp, tally_in, less}
use Rattle.lnfs_open.proofs.Layers.{tally_updated}
use Rattle.lnfs_open.proofs.tallies.Tallies.take_off.Goals as goal

pub returns : goal.returns
returns c =
    let there : Some c.in-Some.tally.now ≡ get layer_cmp c.args.self.now.layers c.args.layer = c.in-Some.ensures.value in
    let new : Tally → Tally = λ t. less c.args.uses.access c.args.uses.deny t in
    tally_updated c.args.self.now.layers (c.get_mut.follows.lender c.without.result) c.args.layer (Some c.without.result) ((c.get_mut.follows.holds c.without.result).3 (ap is_some (sym there))) new (c.without.ensures.less ∙ ap (λ x. new (tally_in x)) there)
