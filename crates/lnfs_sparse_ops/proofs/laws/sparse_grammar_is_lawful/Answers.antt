use Rattle.lnfs_sparse_ops.proofs.GrammarLaws.{grammar_lawful, grammar_numbers}
use Rattle.lnfs_sparse_ops.proofs.laws.sparse_grammar_is_lawful.Goals as goal

pub returns : goal.returns
returns c = record { laws = grammar_lawful; numbers = grammar_numbers }
