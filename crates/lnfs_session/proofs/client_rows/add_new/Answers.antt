use Rattle.std.proofs.Common.{ℕ, List, false, None, map, refl, ap, ◌∙◌}
use Rattle.lnfs_world.specs.Rows.{inserted}
use Rattle.lnfs_world.specs.World.{client_order}
use Rattle.lnfs_operations.specs.ExchangeId.{new_client}
use Rattle.lnfs_counts.proofs.Entries.{inserted-entries}
use Rattle.lnfs_session.specs.declared.rows.Client.{Client}
use Rattle.lnfs_session.specs.Listed.{id_of, client_of}
use Rattle.lnfs_session.proofs.Entries.{client_cmp, client_keys}
use Rattle.lnfs_session.proofs.client_rows.add_new.Goals as goal

pub returns-clause-added : goal.returns-clause-added
returns-clause-added c =
    let entries = c.args.rows.now.entries in
    let row : Client = record { owner = c.in_ok-from_slice.field-0; verifier = c.args.verifier; confirmed = false; sequence = 1; kept = None; reclaimed = false; seen = None } in
    ap (map client_of) c.in_ok-insert.ensures.entries
    ∙ inserted-entries id_of client_cmp client_keys client_of (λ r. r.id) (λ e. refl) c.args.id row entries
    ∙ ap (λ (owner : List ℕ). inserted client_order (new_client (id_of c.args.id) (record { verifier = c.args.verifier; owner = owner; flags = 0 })) (map client_of entries)) c.in_ok-from_slice.ensures
