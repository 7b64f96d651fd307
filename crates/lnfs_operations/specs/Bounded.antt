-- How long the result of an operation may be.
use Rattle.std.specs.Prelude.{◌≤◌, ℕ, length, Option, Some, None}
use Rattle.lnfs_arguments.specs.Further.{Further}
use Rattle.lnfs_arguments.specs.declared.types.Op.{Op}
use Rattle.lnfs_arguments.specs.declared.types.Op.TheVariants as ops
use Rattle.lnfs_results.specs.Answering.{op_bound}
use Rattle.lnfs_results.specs.Texts.{result_text}
use Rattle.lnfs_operations.specs.Chain.{Refusal}
use Rattle.lnfs_operations.specs.Served.{Reply, Own, Kept}

-- The most bytes of a success are the operation's bound. A refusal is a number and a status, and of SETATTR an empty bitmap behind
-- them; a further operation may say more, within its bound.
abbrev pub most_of : Further → Op → Option Refusal → ℕ
most_of x op None = op_bound x op
most_of x (ops.Extra number arguments) (Some why) = x.bound number arguments
most_of x op (Some why) = 12

-- of an operation's own result; what was kept is the result of a whole COMPOUND
abbrev pub IsBounded : Further → Op → Reply → Type 0
IsBounded x op (Own own keeper) = length (result_text own.result) ≤ most_of x op own.refusal
IsBounded x op (Kept reply) = Unit {0}
