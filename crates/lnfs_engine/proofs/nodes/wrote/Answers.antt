use Rattle.std.proofs.Common.{sym, subst}
use Rattle.std.proofs.lemmas.Result.{IfOk-weaker}
use Rattle.lnfs_engine.specs.declared.reply.Came.{Came}
use Rattle.lnfs_engine.specs.Replies.{SaysWritten}
use Rattle.lnfs_engine.proofs.nodes.wrote.Goals as goal

pub returns-in-Err : goal.returns-in-Err
returns-in-Err c =
    IfOk-weaker c.refuse.result _ (λ (came : Came). SaysWritten c.args.out.now c.refuse.new.out c.args.op.now c.args.answer came)
    (λ came says. subst (λ answer. SaysWritten c.args.out.now c.refuse.new.out c.args.op.now answer came) (sym c.in-Err.is) says)
    c.refuse.ensures
