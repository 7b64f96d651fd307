use Rattle.std.proofs.Common.{refl, ap, sym, ◌∙◌}
use Rattle.std.specs.Prelude.{is_some}
use Rattle.lnfs_counts.proofs.Entries.{find-entries, removed-entries}
use Rattle.lnfs_session.specs.Listed.{session_id_of, session_of}
use Rattle.lnfs_session.proofs.Entries.{session_cmp, session_keys}
use Rattle.lnfs_session.proofs.Ended.{some_seen}
use Rattle.lnfs_session.proofs.maps.drop_session.Goals as goal

pub returns-clause-there : goal.returns-clause-there
returns-clause-there c =
    c.is_some.ensures ∙ ap is_some c.remove.ensures.value
    ∙ some_seen (λ v. session_of (c.args.id, v)) _
    ∙ sym (ap is_some (find-entries session_id_of session_cmp session_keys session_of (λ r. r.id) (λ e. refl) c.args.id c.args.sessions.now.entries))

pub returns-clause-left : goal.returns-clause-left
returns-clause-left c = removed-entries session_id_of session_cmp session_keys session_of (λ r. r.id) (λ e. refl) c.args.id c.args.sessions.now.entries c.remove.new.self.entries c.remove.ensures.entries c.remove.ensures.updates.1
