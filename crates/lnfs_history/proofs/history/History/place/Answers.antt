use Rattle.std.proofs.Common.{arith, sym, ◌∙◌}
use Rattle.lnfs_history.proofs.Moves.{places_as}
use Rattle.lnfs_history.proofs.history.History.place.Goals as goal

pub split_seat-seat-requires : goal.split_seat-seat-requires
split_seat-seat-requires g c =
    let i = c.keeper.invariant in
    let h = c.args.self.now in
    (i.0 ∙ sym h.named, omega (arith, h.one_word), places_as _ c.keeper.inside.seat.me _ _ i.1)
