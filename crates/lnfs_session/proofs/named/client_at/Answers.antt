use Rattle.std.proofs.Common.{refl, ap, sym, ◌∙◌}
use Rattle.std.specs.Option.{option_map}
use Rattle.lnfs_counts.proofs.Entries.{find-entries}
use Rattle.lnfs_session.specs.Listed.{id_of, client_of}
use Rattle.lnfs_session.proofs.Entries.{client_cmp, client_keys, at_copied}
use Rattle.lnfs_session.proofs.named.client_at.Goals as goal

pub returns : goal.returns
returns c =
    at_copied (λ v. client_of (c.args.id, v)) c.get.result
    ∙ ap (option_map (λ v. client_of (c.args.id, v))) c.get.ensures.value
    ∙ sym (find-entries id_of client_cmp client_keys client_of (λ r. r.id) (λ e. refl) c.args.id c.args.clients.now.entries)
