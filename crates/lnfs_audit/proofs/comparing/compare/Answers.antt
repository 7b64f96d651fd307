use Rattle.std.proofs.Common.{sym}
use Rattle.lnfs_audit.proofs.Compared.{goes_on, differs}
use Rattle.lnfs_audit.proofs.comparing.compare.Goals as goal

pub returns-in_default : goal.returns-in_default
returns-in_default c =
    differs c.args.due.now c.args.records.now c.loop-index.index c.loop-index.at c.index-due-index.result c.loop-index-test.true (sym c.index-due-index.is) c.loop-index.invariant (rw c.in_default.is at c.in_ok-next.ensures)

pub loop-index-preserved : goal.loop-index-preserved
loop-index-preserved c =
    goes_on c.args.due.now c.args.records.now c.loop-index.index c.loop-index.at c.index-due-index.result c.loop-index-test.true (sym c.index-due-index.is) c.loop-index.invariant c.in-Some.next (rw c.in-Some.is at c.in_ok-next.ensures)
