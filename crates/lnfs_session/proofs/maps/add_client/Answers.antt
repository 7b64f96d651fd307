use Rattle.std.proofs.Common.{refl, ap, ◌∙◌}
use Rattle.std.specs.Prelude.{map}
use Rattle.lnfs_counts.proofs.Entries.{inserted-entries}
use Rattle.lnfs_session.specs.Listed.{id_of, client_of}
use Rattle.lnfs_session.proofs.Entries.{client_cmp, client_keys}
use Rattle.lnfs_session.proofs.maps.add_client.Goals as goal

pub returns-clause-added : goal.returns-clause-added
returns-clause-added c =
    ap (map client_of) c.in_ok-insert.ensures.entries
    ∙ inserted-entries id_of client_cmp client_keys client_of (λ r. r.id) (λ e. refl) c.args.id c.args.client c.args.clients.now.entries
