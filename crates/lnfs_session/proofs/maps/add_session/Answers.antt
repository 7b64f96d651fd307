use Rattle.std.proofs.Common.{refl, ap, ◌∙◌}
use Rattle.std.specs.Prelude.{map}
use Rattle.lnfs_counts.proofs.Entries.{inserted-entries}
use Rattle.lnfs_session.specs.Listed.{session_id_of, session_of}
use Rattle.lnfs_session.proofs.Entries.{session_cmp, session_keys}
use Rattle.lnfs_session.proofs.maps.add_session.Goals as goal

pub returns-clause-added : goal.returns-clause-added
returns-clause-added c =
    ap (map session_of) c.in_ok-insert.ensures.entries
    ∙ inserted-entries session_id_of session_cmp session_keys session_of (λ r. r.id) (λ e. refl) c.args.id c.args.session c.args.sessions.now.entries
