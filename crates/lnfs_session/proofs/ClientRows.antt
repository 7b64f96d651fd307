-- The rows of clients after one of them, where it is there, has another state.
use Rattle.std.proofs.Common.{◌≡◌, List, Some, None, map, refl, ap, sym, ◌∙◌}
use Rattle.std.specs.Option.{option_map}
use Rattle.std.specs.Ordering.{is_eq}
use Rattle.std.specs.List.Sorted.{IsStrictlySortedBy}
use Rattle.std.specs.Map.{lookup, set_value, keys_of}
use Rattle.lnfs_world.specs.Rows.{inserted}
use Rattle.lnfs_world.specs.World as world
use Rattle.lnfs_world.specs.World.{client_order, client_at}
use Rattle.lnfs_counts.proofs.Entries.{find-entries, set-entries}
use Rattle.lnfs_session.specs.declared.rows.ClientRef.{ClientRef}
use Rattle.lnfs_session.specs.declared.rows.Client.{Client}
use Rattle.lnfs_session.specs.Listed.{id_of, client_of}
use Rattle.lnfs_session.specs.Standing.{clients_set}
use Rattle.lnfs_session.proofs.Entries.{client_cmp, client_keys}

module _ (g : world.Client → world.Client) (id : ClientRef) (entries new : List (ClientRef × Client)) where
  found : client_at (map client_of entries) (id_of id) ≡ option_map (λ v. client_of (id, v)) (lookup (λ k. is_eq (client_cmp id k)) entries)
  found = find-entries id_of client_cmp client_keys client_of (λ r. r.id) (λ e. refl) id entries

  -- it isn't there
  pub set_nowhere : lookup (λ k. is_eq (client_cmp id k)) entries ≡ None → new ≡ entries → map client_of new ≡ clients_set g (client_at (map client_of entries) (id_of id)) (map client_of entries)
  set_nowhere none same = ap (map client_of) same ∙ sym (ap (λ o. clients_set g o (map client_of entries)) (found ∙ ap (option_map (λ v. client_of (id, v))) none))

  pub set_there : (old row : Client) → IsStrictlySortedBy client_cmp (keys_of entries) → lookup (λ k. is_eq (client_cmp id k)) entries ≡ Some old → new ≡ set_value (λ k. is_eq (client_cmp id k)) entries row → client_of (id, row) ≡ g (client_of (id, old)) → map client_of new ≡ clients_set g (client_at (map client_of entries) (id_of id)) (map client_of entries)
  set_there old row sorted there set state =
      ap (map client_of) set
      ∙ set-entries id_of client_cmp client_keys client_of (λ r. r.id) (λ e. refl) id row old entries sorted there
      ∙ ap (λ r. inserted client_order r (map client_of entries)) state
      ∙ sym (ap (λ o. clients_set g o (map client_of entries)) (found ∙ ap (option_map (λ v. client_of (id, v))) there))
