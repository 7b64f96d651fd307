use Rattle.std.proofs.Common.{arith, sym, ◌∙◌}
use Rattle.lnfs_history.proofs.Moves.{looks_as}
use Rattle.lnfs_history.proofs.history.History.look.Goals as goal

pub load-requires : goal.load-requires
load-requires g c =
    let k = c.keeper.invariant in
    let h = c.args.self.now in
    (k.0 ∙ sym h.named, omega (arith, h.one_word), looks_as _ _ c.keeper.inside.seat.me _ _ k.1)
