-- The grammar of LOCK, LOCKT and LOCKU.
use Rattle.std.proofs.Common.{◌≡◌, ℕ, ◌≤◌, Bool, true, false, cond, refl, arith}
use Rattle.std.specs.Prelude.{◌==◌, ◌||◌}
use Rattle.lnfs_arguments.specs.Further.{IsLawful}
use Rattle.lnfs_arguments.specs.Lawful.{blocks_are_lawful}
use Rattle.lnfs_locks.specs.declared.numbers.TheConstants.{OP_LOCK, OP_LOCKT, OP_LOCKU, LOCK_BOUND, LOCKU_BOUND}
use Rattle.lnfs_locks.specs.Arguments.{blocks, lock_grammar}

room : (unlocks : Bool) → 8 ≤ cond unlocks LOCKU_BOUND LOCK_BOUND
room true = omega arith
room false = omega arith

pub grammar_lawful : IsLawful lock_grammar
grammar_lawful = blocks_are_lawful blocks (λ number arguments. cond (number == OP_LOCKU) LOCKU_BOUND LOCK_BOUND) (refl, refl, (refl, refl, (refl, refl, tt))) (λ number arguments. room (number == OP_LOCKU))

or_false : (b : Bool) → (b || false) ≡ b
or_false true = refl
or_false false = refl

pub grammar_numbers : (number : ℕ) → lock_grammar.serves number ≡ (number == OP_LOCK || number == OP_LOCKT || number == OP_LOCKU)
grammar_numbers number = grind arith
