use Rattle.std.proofs.Common.{rules, [], ap}
use Rattle.lnfs_gss3.specs.Mechanism.{keyed_digest}
use Rattle.lnfs_vault.specs.Kept.{Kept}
use Rattle.lnfs_stage.proofs.Reading.{opens_stop, opens_then}
use Rattle.lnfs_commands.specs.Commands.{replayed}
use Rattle.lnfs_further.specs.Further.{further}
use Rattle.lnfs_commands.proofs.Replaying.{stops_at_first}
use Rattle.lnfs_commands.proofs.perform.replay_file.Goals as goal

pub returns-in_err-open : goal.returns-in_err-open
returns-in_err-open g c = opens_stop _ (replayed further keyed_digest c.args.policy []) _ (search rules) c.in_err-open.ensures

pub returns-in_err-vault : goal.returns-in_err-vault
returns-in_err-vault g c = opens_then _ (replayed further keyed_digest c.args.policy []) _ c.in_ok-open.ensures (stops_at_first _ _ _ [] _ (search rules))

pub returns : goal.returns
returns g c =
    let journal = ap (λ (v : Kept). v.journal) c.in_ok-vault.ensures in
    let policy = ap (λ (v : Kept). v.policy) c.in_ok-vault.ensures in
    opens_then _ (replayed further keyed_digest c.args.policy []) _ c.in_ok-open.ensures (rw (policy, journal) at c.replay.ensures)
