use Rattle.std.proofs.Common.{refl}
use Rattle.lnfs_counts.proofs.Entries.{removed-entries}
use Rattle.lnfs_session.specs.Listed.{id_of, client_of}
use Rattle.lnfs_session.proofs.Entries.{client_cmp, client_keys}
use Rattle.lnfs_session.proofs.maps.drop_client.Goals as goal

pub returns : goal.returns
returns c = removed-entries id_of client_cmp client_keys client_of (λ r. r.id) (λ e. refl) c.args.id c.args.clients.now.entries c.remove.new.self.entries c.remove.ensures.entries c.remove.ensures.updates.1
