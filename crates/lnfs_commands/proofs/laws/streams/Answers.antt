use Rattle.lnfs_commands.proofs.Events.{out_is, audit_is}
use Rattle.lnfs_commands.proofs.laws.streams.Goals as goal

pub returns-clause-out : goal.returns-clause-out
returns-clause-out c = out_is

pub returns-clause-audit : goal.returns-clause-audit
returns-clause-audit c = audit_is
