use Rattle.lnfs_locks.proofs.GrammarLaws.{grammar_lawful, grammar_numbers}
use Rattle.lnfs_locks.proofs.laws.lock_grammar_is_lawful.Goals as goal

pub returns : goal.returns
returns c = record { laws = grammar_lawful; numbers = grammar_numbers }
