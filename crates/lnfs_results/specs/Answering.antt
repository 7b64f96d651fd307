-- The most bytes of the result of an operation, its number and its status among them, and which results may answer it.
use Rattle.std.specs.Prelude.{◌≡◌, ◌⊎◌, ℕ, ◌+◌, ◌≤◌, List, [], length, min}
use Rattle.lnfs_arguments.specs.Further.{Further}
use Rattle.lnfs_arguments.specs.Numbered as asked
use Rattle.lnfs_arguments.specs.declared.types.Op.{Op}
use Rattle.lnfs_arguments.specs.declared.types.Op.TheVariants as ops
use Rattle.lnfs_results.specs.declared.limits.TheConstants.{MOST_DATA}
use Rattle.lnfs_results.specs.declared.types.OpResult.{OpResult}
use Rattle.lnfs_results.specs.declared.types.OpResult.TheVariants as results
use Rattle.lnfs_results.specs.Numbered as answered
use Rattle.lnfs_results.specs.Texts.{fields_text, further_text}
use Rattle.lnfs_results.specs.Fits.{IsOwn}
use Rattle.lnfs_results.specs.Bounds.{bound_at, rounded}

-- That of its row, and no more data than was asked for. What isn't run fails, and a further grammar has bounds of its own.
abbrev pub op_bound : Further → Op → ℕ
op_bound x (ops.Read id offset count) = 16 + rounded (min count MOST_DATA)
op_bound x (ops.ReadDir cookie verifier dircount maxcount asked) = 8 + min maxcount MOST_DATA
op_bound x (ops.Outside number status) = 8
op_bound x (ops.Extra number args) = x.bound number args
op_bound x op = bound_at (asked.number_of op)

-- ---- which results may answer an operation

abbrev pub IsFailure : OpResult → Type 0
IsFailure (results.Failed number status) = Unit {0}
IsFailure _ = ⊥

abbrev pub IsFurther : OpResult → Type 0
IsFurther (results.Extra number status bytes) = Unit {0}
IsFurther _ = ⊥

-- the data of READ
abbrev pub data_of : OpResult → List ℕ
data_of (results.Read eof content) = content
data_of _ = []

-- no more than was asked for
abbrev pub IsAsked : Further → Op → OpResult → Type 0
IsAsked x (ops.Read id offset count) r = IsOwn r × (length (data_of r) ≤ min count MOST_DATA)
-- the verifier, the entries and the two words behind them
IsAsked x (ops.ReadDir cookie verifier dircount maxcount asked) r = IsOwn r × (length (fields_text r) ≤ min maxcount MOST_DATA)
IsAsked x (ops.Outside number status) r = IsFailure r
-- or no more bytes than the further grammar says
IsAsked x (ops.Extra number args) r = IsFailure r ⊎ IsFurther r × (8 + length (further_text r) ≤ x.bound number args)
IsAsked x op r = IsOwn r

-- the result of the operation's number, or its failure
pub record MayAnswer (x : Further) (op : Op) (r : OpResult) : Type 0 where
  pub number : answered.number_of r ≡ asked.result_number op
  pub asked : IsAsked x op r
