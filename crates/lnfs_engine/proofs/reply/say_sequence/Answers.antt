use Rattle.std.proofs.Common.{refl}
use Rattle.lnfs_engine.proofs.reply.say_sequence.Goals as goal

pub returns : goal.returns
returns c = λ begin keeper. (refl, refl, c.in_ok-append_sequence.ensures)
