use Rattle.std.proofs.Common.{◌≡◌, ◌+◌, ℕ, cond, map, filter, sym, ap, ◌∙◌}
use Rattle.std.specs.Prelude.{◌==◌}
use Rattle.lnfs_world.specs.Rows.{inserted}
use Rattle.lnfs_world.specs.World.{Id, Session, session_order, level_order, last_of}
use Rattle.lnfs_counts.specs.Counters.{last_at, count_at, lasts_of}
use Rattle.lnfs_counts.proofs.Rows.{filter-inserted}
use Rattle.lnfs_counts.proofs.Counted.{told_same, added}
use Rattle.lnfs_session.specs.Listed.{session_of}
use Rattle.lnfs_session.specs.Sessions.{SessionLists, own_id}
use Rattle.lnfs_session.proofs.sessions.Sessions.add.Goals as goal

pub invariant_of-self-2 : goal.invariant_of-self-2
invariant_of-self-2 c =
    let counters = c.self.inside.counters in
    let rows = map session_of c.self.inside.rows.entries in
    let i : Id = record { level = c.args.level; number = c.last_given-number.result + 1 } in
    let row : ℕ → Session = λ n. session_of (record { level = c.args.level; number = n }, c.args.session) in
    let next : i.number ≡ last_at counters i.level + 1 = ap (λ (n : ℕ). n + 1) c.last_given-number.ensures in
    let told = c.in_ok-make_counter.ensures.same in
    let one = c.count_one.ensures in
    told_same own_id _ _ _ _ (added own_id rows (lasts_of counters.entries) (last_at counters) (count_at counters) c.self.invariant (row i.number) next) _ _ _ _
    (c.in_ok-add_session.ensures.added ∙ (λ t. inserted session_order (row (c.from.ensures t)) rows))
    (one.lasts ∙ ap (inserted level_order i) told.lasts)
    (λ l. one.last l ∙ ap (λ (n : ℕ). cond (i.level == l) i.number n) (told.last l))
    (λ l. one.count l ∙ (λ t. cond (i.level == l) (told.count i.level t + 1) (told.count l t)))

pub returns-clause-added_last : goal.returns-clause-added_last
returns-clause-added_last c = λ test passes.
    let level = c.args.level in
    let rows = map session_of c.self.inside.rows.entries in
    let row : ℕ → Session = λ n. session_of (record { level = level; number = n }, c.args.session) in
    let last : c.last_given-number.result ≡ last_of level c.args.self.now.lasts = c.last_given-number.ensures ∙ sym (c.self.invariant.lasting level) ∙ ap (λ (lists : SessionLists). last_of level lists.lasts) c.self.view_is in
    let next : c.from.result ≡ last_of level c.args.self.now.lasts + 1 = c.from.ensures ∙ ap (λ (n : ℕ). n + 1) last in
    ap (filter test) (c.in_ok-add_session.ensures.added ∙ (λ t. inserted session_order (row (next t)) rows))
    ∙ filter-inserted own_id test (row (last_of level c.args.self.now.lasts + 1)) passes rows c.self.invariant.rise
    ∙ ap (λ (lists : SessionLists). inserted session_order (row (last_of level c.args.self.now.lasts + 1)) (filter test lists.sessions)) c.self.view_is
