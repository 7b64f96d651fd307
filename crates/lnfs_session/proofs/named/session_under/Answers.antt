use Rattle.std.proofs.Common.{◌≡◌, Bool, true, cond, [], ◌∷◌, None, drop, map, refl, ap, sym, ◌∙◌}
use Rattle.std.specs.Option.{option_map}
use Rattle.std.specs.Str.{bytes_eq}
use Rattle.std.specs.Ordering.{is_eq}
use Rattle.std.specs.Map.{lookup}
use Rattle.lnfs_world.specs.World.{session_at}
use Rattle.lnfs_counts.proofs.Entries.{find-entries}
use Rattle.lnfs_session.specs.declared.rows.SessionRef.{SessionRef}
use Rattle.lnfs_operations.specs.Identifiers.{session_named}
use Rattle.lnfs_session.specs.Listed.{session_id_of, session_of, session_key}
use Rattle.lnfs_session.proofs.Entries.{session_cmp, session_keys, at_copied}
use Rattle.lnfs_session.proofs.named.session_under.Goals as goal

pub returns : goal.returns
returns c =
    let id = c.args.id.now in
    let padded : bytes_eq (drop 12 id) (0 ∷ 0 ∷ 0 ∷ 0 ∷ []) ≡ true = cc in
    at_copied (λ v. session_of (session_key id, v)) c.get.result
    ∙ ap (option_map (λ v. session_of (session_key id, v))) (c.get.ensures.value ∙ ap (λ (i : SessionRef). lookup (λ k. is_eq (session_cmp i k)) c.args.sessions.now.entries) c.session_named.ensures)
    ∙ sym (find-entries session_id_of session_cmp session_keys session_of (λ r. r.id) (λ e. refl) (session_key id) c.args.sessions.now.entries)
    ∙ sym (ap (λ (b : Bool). cond b (session_at (map session_of c.args.sessions.now.entries) (session_named id)) None) padded)
