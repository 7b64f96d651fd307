use Rattle.std.proofs.Common.{rules}
use Rattle.lnfs_checkpointing.proofs.Keeping.{kept_unread, kept_short, kept_then}
use Rattle.lnfs_checkpointing.proofs.saving.under.Goals as goal

pub returns-in_err-traffic : goal.returns-in_err-traffic
returns-in_err-traffic g c = kept_unread c.args.policy c.args.traffic.now _ (search rules) c.in_err-traffic.ensures

pub returns-in_err-server : goal.returns-in_err-server
returns-in_err-server g c = kept_short c.args.policy c.args.traffic.now _ c.in_ok-traffic.ensures (search rules)

pub returns : goal.returns
returns g c =
    kept_then c.args.policy c.args.traffic.now _ c.in_ok-traffic.ensures
    (rw (c.deref.ensures.value, c.in_ok-server.ensures.policy) at c.save.ensures.does)
    (rw (c.deref.ensures.value, c.in_ok-server.ensures.policy) at c.save.ensures.again)
