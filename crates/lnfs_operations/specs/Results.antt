-- What operations answer in their COMPOUND: results, and what refused them.
use Rattle.std.specs.Prelude.{ℕ, ◌+◌, Bool, cond, List, Option, Some, None, codes}
use Rattle.lnfs_attrs.specs.Bitmaps.{no_attributes}
use Rattle.lnfs_arguments.specs.declared.types.Op.{Op}
use Rattle.lnfs_arguments.specs.declared.types.Op.TheVariants as ops
use Rattle.lnfs_arguments.specs.Identifiers.{client_id}
use Rattle.lnfs_arguments.specs.Numbered.{result_number}
use Rattle.lnfs_results.specs.declared.types.OpResult.{OpResult}
use Rattle.lnfs_results.specs.declared.types.OpResult.TheVariants as results
use Rattle.lnfs_operations.specs.declared.Gate.{Gate}
use Rattle.lnfs_operations.specs.declared.numbers.TheConstants.{EXCHGID4_FLAG_CONFIRMED_R, EXCHGID4_FLAG_USE_NON_PNFS}
use Rattle.lnfs_operations.specs.Chain.{Refusal}
use Rattle.lnfs_operations.specs.ExchangeId.{Told}
use Rattle.lnfs_operations.specs.Extra.{Said}

-- a result, and what refused the operation, if anything did
pub record Answered : Type 0 where
  pub result : OpResult
  pub refusal : Option Refusal

-- What was refused: the operation's place in its COMPOUND, from 1, and its number as it was sent;
-- both 0 where the COMPOUND as a whole was.
pub record Denial : Type 0 where
  pub place : ℕ
  pub number : ℕ
  pub gate : Gate
  pub status : ℕ

-- The result of an operation that failed: SETATTR's bitmap follows any status (RFC 8881 section 18.30.2).
abbrev pub failed : Op → ℕ → OpResult
failed (ops.SetAttr id attrs) status = results.SetAttr status no_attributes
failed op status = results.Failed (result_number op) status

-- ---- EXCHANGE_ID

-- the names under which the server goes
abbrev pub server_name : List ℕ
server_name = codes "labelled-nfs"

abbrev pub flags_of : Bool → ℕ
flags_of confirmed = EXCHGID4_FLAG_USE_NON_PNFS + cond confirmed EXCHGID4_FLAG_CONFIRMED_R 0

abbrev pub told_result : ℕ → Told → OpResult
told_result level t = results.ExchangeId (client_id level t.number) t.sequence (flags_of t.confirmed) 0 server_name server_name

-- ---- further operations

abbrev pub status_said : Option Refusal → ℕ
status_said None = 0
status_said (Some why) = why.status

abbrev pub said_result : ℕ → Said → Answered
said_result number said = record { result = results.Extra number (status_said said.refusal) said.bytes; refusal = said.refusal }
