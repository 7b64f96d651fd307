use Rattle.std.proofs.Common.{map, refl, sym, ◌∙◌}
use Rattle.lnfs_world.specs.World.{Id, session_at}
use Rattle.lnfs_counts.specs.Counters.{last_at, count_at, lasts_of}
use Rattle.lnfs_counts.proofs.Rows.{none_gone}
use Rattle.lnfs_counts.proofs.Counted.{told_same, dropped}
use Rattle.lnfs_session.specs.Listed.{session_id_of, session_of}
use Rattle.lnfs_session.specs.Sessions.{own_id}
use Rattle.lnfs_session.proofs.Ended.{none_is, some_is}
use Rattle.lnfs_session.proofs.sessions.Sessions.remove.Goals as goal

pub invariant_of-self : goal.invariant_of-self
invariant_of-self c =
    let counters = c.self.inside.counters in
    let rows = map session_of c.self.inside.rows.entries in
    let i : Id = session_id_of c.args.id in
    let none = none_is (session_at rows i) (sym c.if-not-drop_session.ensures.there) in
    told_same own_id rows (lasts_of counters.entries) (last_at counters) (count_at counters) c.self.invariant _ _ _ _
    (c.drop_session.ensures.left ∙ none_gone own_id i rows none) refl (λ l. refl) (λ l. refl)

pub invariant_of-self-2 : goal.invariant_of-self-2
invariant_of-self-2 c =
    let counters = c.self.inside.counters in
    let rows = map session_of c.self.inside.rows.entries in
    let i : Id = session_id_of c.args.id in
    let there = some_is (session_at rows i) (sym c.if-not-drop_session.ensures.there) in
    let off = c.count_off.ensures in
    told_same own_id _ _ _ _ (dropped own_id rows (lasts_of counters.entries) (last_at counters) (count_at counters) c.self.invariant i there.0 there.1) _ _ _ _
    c.drop_session.ensures.left off.lasts off.last off.count
