use Rattle.std.proofs.Common.{◌≡◌, Some, None, ap, sym, ◌∙◌, arith}
use Rattle.std.specs.BTreeMap.{get}
use Rattle.lnfs_open.specs.Tallies.{layer_cmp, tally_in}
use Rattle.lnfs_open.proofs.Layers.{tally_stays}
use Rattle.lnfs_open.proofs.tallies.Tallies.make_place.Goals as goal

-- a tally of no open tells the same as none
pub returns-clause-same : goal.returns-clause-same
returns-clause-same c =
    let none : get layer_cmp c.args.self.now.layers c.args.layer ≡ None = grind arith in
    tally_stays c.args.self.now.layers c.insert.new.self c.args.layer (Some c.none.result) c.in_ok-insert.ensures.updates (c.none.ensures ∙ ap tally_in (sym none))
