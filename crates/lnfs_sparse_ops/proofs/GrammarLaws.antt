-- The grammar of ALLOCATE, DEALLOCATE, SEEK and CLONE.
use Rattle.std.proofs.Common.{◌≡◌, ℕ, ◌≤◌, Bool, true, false, cond, refl, arith}
use Rattle.std.specs.Prelude.{◌==◌, ◌||◌}
use Rattle.lnfs_arguments.specs.Further.{IsLawful}
use Rattle.lnfs_arguments.specs.Lawful.{blocks_are_lawful}
use Rattle.lnfs_sparse_ops.specs.declared.numbers.TheConstants.{OP_ALLOCATE, OP_DEALLOCATE, OP_SEEK, OP_CLONE, PLAIN_BOUND, SEEK_BOUND}
use Rattle.lnfs_sparse_ops.specs.Arguments.{blocks, sparse_grammar}

room : (seeks : Bool) → 8 ≤ cond seeks SEEK_BOUND PLAIN_BOUND
room true = omega arith
room false = omega arith

pub grammar_lawful : IsLawful sparse_grammar
grammar_lawful = blocks_are_lawful blocks (λ number arguments. cond (number == OP_SEEK) SEEK_BOUND PLAIN_BOUND) (refl, refl, (refl, refl, (refl, refl, (refl, refl, tt)))) (λ number arguments. room (number == OP_SEEK))

pub grammar_numbers : (number : ℕ) → sparse_grammar.serves number ≡ (number == OP_ALLOCATE || number == OP_DEALLOCATE || number == OP_SEEK || number == OP_CLONE)
grammar_numbers number = grind arith
