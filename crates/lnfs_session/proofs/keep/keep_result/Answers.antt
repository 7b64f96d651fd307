use Rattle.std.proofs.Common.{◌≡◌, Some, None, map, refl, ap, sym, subst, ◌∙◌}
use Rattle.std.specs.Option.{option_map}
use Rattle.lnfs_world.specs.Rows.{inserted}
use Rattle.lnfs_world.specs.World.{session_order, session_at}
use Rattle.lnfs_counts.proofs.Entries.{find-entries, set-entries}
use Rattle.lnfs_session.specs.declared.rows.Session.{Session}
use Rattle.lnfs_session.specs.Listed.{session_id_of, session_of, slot_of}
use Rattle.lnfs_session.specs.Standing.{settled, sessions_set}
use Rattle.lnfs_session.specs.Sessions.{AreCounted}
use Rattle.lnfs_session.proofs.Entries.{session_cmp, session_keys}
use Rattle.lnfs_session.proofs.Recounted.{counted_set}
use Rattle.lnfs_session.proofs.keep.keep_result.Goals as goal

pub returns-in_default-clause-set : goal.returns-in_default-clause-set
returns-in_default-clause-set c =
    let rows = map session_of c.args.sessions.now.entries in
    let key = c.args.at.session in
    let found = find-entries session_id_of session_cmp session_keys session_of (λ r. r.id) (λ e. refl) key c.args.sessions.now.entries in
    let gone : session_at rows (session_id_of key) ≡ None = found ∙ ap (option_map (λ v. session_of (key, v))) (sym c.in_default.ensures.value) in
    ap (λ m. map session_of m.entries) c.get_mut.follows.holds-at-none ∙ sym (ap (λ o. sessions_set (settled c.args.at.slot (slot_of c.args.filled)) o rows) gone)

pub returns-clause-set : goal.returns-clause-set
returns-clause-set c =
    let rows = map session_of c.args.sessions.now.entries in
    let key = c.args.at.session in
    let row : Session = record c.in-Some.session.now { slots = c.fill_slot.new.slots } in
    let found = find-entries session_id_of session_cmp session_keys session_of (λ r. r.id) (λ e. refl) key c.args.sessions.now.entries in
    let there : session_at rows (session_id_of key) ≡ Some (session_of (key, c.in-Some.session.now)) = found ∙ ap (option_map (λ v. session_of (key, v))) (sym c.in-Some.ensures.value) in
    let put = ap (map session_of) (c.get_mut.follows.holds row).0 ∙ set-entries session_id_of session_cmp session_keys session_of (λ r. r.id) (λ e. refl) key row c.in-Some.session.now c.args.sessions.now.entries c.get_mut.ensures.ordered (sym c.in-Some.ensures.value) in
    put ∙ ap (λ slots. inserted session_order (record (session_of (key, row)) { slots = slots }) rows) c.fill_slot.ensures ∙ sym (ap (λ o. sessions_set (settled c.args.at.slot (slot_of c.args.filled)) o rows) there)

pub returns-in_default-clause-counted : goal.returns-in_default-clause-counted
returns-in_default-clause-counted c = λ counters counted.
    subst (λ m. AreCounted m.entries counters) (sym c.get_mut.follows.holds-at-none) counted

pub returns-clause-counted : goal.returns-clause-counted
returns-clause-counted c =
    let row : Session = record c.in-Some.session.now { slots = c.fill_slot.new.slots } in
    counted_set c.args.at.session row c.in-Some.session.now c.args.sessions.now.entries _ c.get_mut.ensures.ordered (sym c.in-Some.ensures.value) (c.get_mut.follows.holds row).0
