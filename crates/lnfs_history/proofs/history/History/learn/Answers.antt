use Rattle.lnfs_history.proofs.Moves.{can_take_in, taken_in, learns_as}
use Rattle.lnfs_history.proofs.history.History.learn.Goals as goal

pub join_seat-requires : goal.join_seat-requires
join_seat-requires g c =
    let k = c.keeper.invariant in
    let p = c.place.invariant in
    let h = c.args.self.now in
    can_take_in _ _ _ _ _ _ c.keeper.inside.seat.me c.place.inside.seat.me _ _ _ _ h.named h.one_word k.0 p.0 k.1 p.1

pub load-requires : goal.load-requires
load-requires g c =
    let k = c.keeper.invariant in
    let h = c.args.self.now in
    let j = c.join_seat.ensures in
    let now = taken_in _ _ _ _ _ _ c.join_seat.new.seat.me _ _ _ _ h.named h.one_word k.0 j.0 k.1 c.place.invariant.1 j.2 in
    (now.0, now.1, learns_as _ _ c.join_seat.new.seat.me _ _ _ _ now.2)
