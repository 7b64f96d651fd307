use Rattle.lnfs_policy.proofs.Spelled.{line_says, words_say}
use Rattle.lnfs_policy.proofs.laws.lines.Goals as goal

pub returns : goal.returns
returns c = λ words line. (line_says words line, words_say words line)
