use Rattle.lnfs_engine.proofs.Heads.{completed}
use Rattle.lnfs_engine.proofs.head.complete_head.Goals as goal

pub returns : goal.returns
returns c = λ before tag results was starts ends. completed c.args.bytes.now c.set_word.new.bytes c.set_word-2.new.bytes before tag results c.args.begin c.args.end c.args.status c.args.count was starts ends c.set_word.ensures c.set_word-2.ensures
