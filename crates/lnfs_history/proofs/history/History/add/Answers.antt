use Rattle.std.proofs.Common.{sym, ap, ◌∙◌}
use Rattle.lnfs_history.specs.Rules.{with_entry}
use Rattle.lnfs_history.proofs.Moves.{can_take_in, taken_in, adds_as, parts_as}
use Rattle.lnfs_history.proofs.history.History.add.Goals as goal

pub join_seat-requires : goal.join_seat-requires
join_seat-requires g c =
    let k = c.keeper.invariant in
    let p = c.place.invariant in
    let h = c.args.self.now in
    can_take_in _ _ _ _ _ _ c.keeper.inside.seat.me c.place.inside.seat.me _ _ _ _ h.named h.one_word k.0 p.0 k.1 p.1

pub load-requires : goal.load-requires
load-requires g c =
    let k = c.keeper.invariant in
    let h = c.args.self.now in
    let j = c.join_seat.ensures in
    let now = taken_in _ _ _ _ _ _ c.join_seat.new.seat.me _ _ _ _ h.named h.one_word k.0 j.0 k.1 c.place.invariant.1 j.2 in
    (now.0, now.1, adds_as _ _ c.join_seat.new.seat.me _ _ _ _ g.E.Saying.entry now.2 (c.requires ∙ sym (ap (λ v. v.link) c.place.view_is)))

pub split_seat-seat-requires : goal.split_seat-seat-requires
split_seat-seat-requires g c =
    let k = c.keeper.invariant in
    let h = c.args.self.now in
    let j = c.join_seat.ensures in
    let l = c.load.ensures in
    let now = taken_in _ _ _ _ _ _ c.join_seat.new.seat.me _ _ _ _ h.named h.one_word k.0 j.0 k.1 c.place.invariant.1 j.2 in
    (l.0 ∙ now.0, now.1, parts_as _ c.load.new.seat.me _ _ _ _ (l.2 ∙ ap (λ m. (with_entry g.E.Saying.entry m.0, m.1)) now.2))
