-- What the code's answers of an operation stand for.
use Rattle.std.specs.Prelude.{◌≡◌, ℕ, List, ◌++◌, take, Option, Some, None, Result, Ok, Err}
use Rattle.lnfs_arguments.specs.declared.types.Op.{Op}
use Rattle.lnfs_arguments.specs.Numbered.{result_number}
use Rattle.lnfs_results.specs.declared.types.OpResult.{OpResult}
use Rattle.lnfs_results.specs.declared.types.OpResult.TheVariants as results
use Rattle.lnfs_results.specs.Numbered.{status_of}
use Rattle.lnfs_results.specs.Fits.{ResultSized}
use Rattle.lnfs_results.specs.Texts.{result_text}
use Rattle.lnfs_world.specs.World.{World}
use Rattle.lnfs_world.specs.Outcome.{Outcome, done_to}
use Rattle.lnfs_world.specs.Outcome as world
use Rattle.lnfs_operations.specs.Chain as chain
use Rattle.lnfs_operations.specs.Results.{Answered, failed}
use Rattle.lnfs_operations.specs.Served.{Keeper, Reply, Own, Kept}
use Rattle.lnfs_session.specs.declared.clients.SessionError.{SessionError}
use Rattle.lnfs_session.specs.declared.clients.SessionError.TheVariants.{Status, Memory}
use Rattle.lnfs_session.specs.Answers.{gate_of}
use Rattle.lnfs_operations.specs.declared.Refusal.{Refusal}
use Rattle.lnfs_engine.specs.declared.reply.Came.{Came}
use Rattle.lnfs_engine.specs.declared.reply.Came.TheVariants as came
use Rattle.lnfs_nodes.specs.Trees.{refusal_of}

-- the refusal of a test that failed, which isn't want of memory
abbrev pub IsRefusal : SessionError → Refusal → Type 0
IsRefusal (Status code foreign) why = refusal_of why ≡ record { gate = gate_of foreign; status = code }
IsRefusal Memory why = ⊥

abbrev pub answered_of : Op → Result OpResult Refusal → Answered
answered_of op (Ok result) = record { result = result; refusal = None }
answered_of op (Err why) = record { result = failed op why.status; refusal = Some (refusal_of why) }

-- an own result, and where the result of the whole COMPOUND is kept
abbrev pub own_of : Op → Keeper → Result OpResult Refusal → Reply
own_of op keeper answer = Own (answered_of op answer) keeper

-- a result that can be written, of success
abbrev pub IsPlain : Result OpResult Refusal → Type 0
IsPlain (Ok result) = ResultSized result × (status_of result ≡ 0)
IsPlain (Err why) = Unit {0}

-- a result of success that has nothing behind its status
abbrev pub IsBare : Op → OpResult → Type 0
IsBare op told = (status_of told ≡ 0) × (result_text told ≡ result_text (results.Failed (result_number op) 0))

-- what an operation of the table comes to: its reply, the place of the next one, and the world afterwards
pub record Acts (o : Outcome Reply) (reply : Reply) (next : world.Place) (old new : World) : Type 0 where
  pub answer : o.answer ≡ reply
  pub place : o.place ≡ next
  pub world : new ≡ done_to old o

-- What was appended of a reply, where the result of the COMPOUND begins at a mark, and what comes next.
abbrev pub SaysOwn : (old new : List ℕ) → OpResult → Option chain.Refusal → Came → Type 0
SaysOwn old new result refusal came.Done = (refusal ≡ None) × (status_of result ≡ 0) × (new ≡ old ++ result_text result)
SaysOwn old new result refusal (came.Refused why) = (refusal ≡ Some (refusal_of why)) × (status_of result ≡ why.status) × (new ≡ old ++ result_text result)
SaysOwn old new result refusal came.Again = ⊥

abbrev pub SaysKept : (begin : ℕ) → (old new : List ℕ) → List ℕ → Came → Type 0
SaysKept begin old new kept came.Again = new ≡ take begin old ++ kept
SaysKept begin old new kept _ = ⊥

abbrev pub Says : (begin : ℕ) → (old new : List ℕ) → Reply → Came → Type 0
Says begin old new (Own own keeper) came = SaysOwn old new own.result own.refusal came
Says begin old new (Kept kept) came = SaysKept begin old new kept came

-- what was appended behind a result that was written, or of a refusal
abbrev pub SaysWritten : (old new : List ℕ) → Op → Result (Unit {0}) Refusal → Came → Type 0
SaysWritten old new op (Ok it) comes = (comes ≡ came.Done) × (new ≡ old)
SaysWritten old new op (Err why) comes = SaysOwn old new (failed op why.status) (Some (refusal_of why)) comes
