use Rattle.std.proofs.Common.{arith}
use Rattle.lnfs_script.proofs.Steps.{started, unstarted, few_left}
use Rattle.lnfs_script.proofs.script.read_script.Goals as goal

pub returns-in_default-clause-refused : goal.returns-in_default-clause-refused
returns-in_default-clause-refused c =
    unstarted c.args.policy.now c.args.text.now c.new-lines.result c.next.new.self c.new-lines.ensures c.next.result c.next.ensures
    (rw c.flatten.ensures at c.in_default.ensures)

pub loop-line-init : goal.loop-line-init
loop-line-init c =
    let first = rw c.flatten.ensures at c.in-Some.ensures in
    let few = few_left c.args.policy.now c.args.text.now c.new-lines.result c.next.new.self c.new-lines.ensures c.next.result c.in-Some.link c.next.ensures first in (
      rw c.new-actions.ensures.items
          (started c.args.policy.now c.args.text.now c.new-lines.result c.next.new.self c.new-lines.ensures c.next.result c.in-Some.link c.next.ensures first),
      omega arith,
    )
