-- The counters tell of the sessions still where one got another state.
use Rattle.std.proofs.Common.{◌≡◌, List, Some, map, refl, ap, ◌∙◌}
use Rattle.std.specs.Option.{option_map}
use Rattle.std.specs.Ordering.{is_eq}
use Rattle.std.specs.List.Sorted.{IsStrictlySortedBy}
use Rattle.std.specs.Map.{lookup, set_value, keys_of}
use Rattle.lnfs_world.specs.World.{session_at}
use Rattle.lnfs_counts.specs.Counters.{Counters, last_at, count_at, lasts_of}
use Rattle.lnfs_counts.proofs.Entries.{find-entries, set-entries}
use Rattle.lnfs_counts.proofs.Counted.{told_same, set}
use Rattle.lnfs_session.specs.declared.rows.SessionRef.{SessionRef}
use Rattle.lnfs_session.specs.declared.rows.Session.{Session}
use Rattle.lnfs_session.specs.Listed.{session_id_of, session_of}
use Rattle.lnfs_session.specs.Sessions.{own_id, AreCounted}
use Rattle.lnfs_session.proofs.Entries.{session_cmp, session_keys}

pub counted_set : (key : SessionRef) (row old : Session) (es new : List (SessionRef × Session)) → IsStrictlySortedBy session_cmp (keys_of es) → lookup (λ k. is_eq (session_cmp key k)) es ≡ Some old → new ≡ set_value (λ k. is_eq (session_cmp key k)) es row → (counters : Counters) → AreCounted es counters → AreCounted new counters
counted_set key row old es new sorted found put counters counted =
    let rows = map session_of es in
    let there : session_at rows (session_id_of key) ≡ Some (session_of (key, old)) = find-entries session_id_of session_cmp session_keys session_of own_id (λ e. refl) key es ∙ ap (option_map (λ v. session_of (key, v))) found in
    let told = set own_id rows (lasts_of counters.entries) (last_at counters) (count_at counters) counted (session_of (key, row)) (session_of (key, old)) there in
    told_same own_id _ _ _ _ told (map session_of new) _ _ _
    (ap (map session_of) put ∙ set-entries session_id_of session_cmp session_keys session_of own_id (λ e. refl) key row old es sorted found)
    refl (λ l. refl) (λ l. refl)
