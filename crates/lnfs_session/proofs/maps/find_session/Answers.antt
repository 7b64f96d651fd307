use Rattle.std.proofs.Common.{◌≡◌, Some, map, refl, ap, ◌∙◌, arith}
use Rattle.std.specs.Prelude.{◌==◌, filter}
use Rattle.std.specs.List.{find}
use Rattle.std.proofs.lemmas.Bool.Decides.{nat_tests}
use Rattle.lnfs_world.specs.World as world
use Rattle.lnfs_world.specs.Change.{is_session_of}
use Rattle.lnfs_session.specs.declared.rows.SessionRef.{SessionRef}
use Rattle.lnfs_session.specs.Listed.{id_of, session_id_of, session_of}
use Rattle.lnfs_session.proofs.Entries.{session_cmp, session_keys}
use Rattle.lnfs_session.proofs.Ended.{only_one}
use Rattle.lnfs_session.proofs.Ranges.{level_run, of_level}
use Rattle.lnfs_session.proofs.Mapped.{find-filtered}
use Rattle.lnfs_session.proofs.maps.find_session.Goals as goal

pub loop-id-init : goal.loop-id-init
loop-id-init c =
    let level = c.args.client.level in
    let first : SessionRef = record { level = level; number = 0 } in
    let entries = c.args.sessions.now.entries in
    let of = is_session_of (id_of c.args.client) in
    let run : level_run session_id_of level c.into_iter-id-iterator.result ≡ filter (λ e. e.0.level == level) entries =
    ap (level_run session_id_of level) (c.into_iter-id-iterator.ensures.into_iter_gives ∙ c.range-id-items.ensures.between tt)
    ∙ of_level session_id_of session_cmp session_keys level first refl entries c.range-id-items.ensures.ordered in
    ap (λ rows. find of (map session_of rows)) run ∙ find-filtered session_of of (λ e. e.0.level == level) (λ e other. grind (arith, nat_tests, other)) entries

pub returns-then-session-client-clause-only : goal.returns-then-session-client-clause-only
returns-then-session-client-clause-only c =
    let entries = c.args.sessions.now.entries in
    let of = is_session_of (id_of c.args.client) in
    let x : world.Session = session_of (c.in-Some.id.now, c.in-Some.session.now) in
    let found : find of (map session_of entries) ≡ Some x = grind arith in
    only_one of x entries c.range-id-items.ensures.ordered found
