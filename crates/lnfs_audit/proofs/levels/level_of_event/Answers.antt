use Rattle.std.proofs.Common.{◌≡◌, rules}
use Rattle.lnfs_audit.specs.Levels.{level_in, numbered}
use Rattle.lnfs_audit.proofs.Known.{level_known}
use Rattle.lnfs_audit.proofs.levels.level_of_event.Goals as goal

pub returns-clause-known : goal.returns-clause-known
returns-clause-known g c =
    let m = g.M.Mechanism.signing in
    let p = c.args.policy.now in
    let event = c.args.event.now in
    let own : numbered c.level_of_caller.result ≡ level_in m p event = search rules in
    level_known m p c.law_policy.ensures c.requires event.class event.message c.level_of_caller.result own
