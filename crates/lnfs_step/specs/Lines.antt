-- How the reply to an event ends, and what the line of the event tells of it.
use Rattle.std.specs.Prelude.{◌≡◌, ◌≢◌, ◌⊎◌, ℕ, ◌+◌, ◌==◌, Bool, true, false, not, List, length, Option, Some, None, codes, slice_get}
use Rattle.lnfs_types.specs.declared.event.Event.{Event}
use Rattle.lnfs_arguments.specs.declared.types.Op.{Op}
use Rattle.lnfs_arguments.specs.declared.types.Compound.{Compound}
use Rattle.lnfs_arguments.specs.declared.statuses.TheConstants.{NFS4ERR_ACCESS, NFS4ERR_STALE}
use Rattle.lnfs_arguments.specs.Numbered.{number_of}
use Rattle.lnfs_results.specs.declared.types.Results.{Results}
use Rattle.lnfs_results.specs.Texts.{results_text}
use Rattle.lnfs_policy.specs.Policy.{Policy}
use Rattle.lnfs_rpc.specs.Replies.{ReplyHead, accepted, version_mismatch, auth_error, reply_text}
use Rattle.lnfs_monitor.specs.declared.rule.Rule.TheVariants as rules
use Rattle.lnfs_operations.specs.declared.Gate.{Gate}
use Rattle.lnfs_operations.specs.declared.Gate.TheVariants.{Monitor}
use Rattle.lnfs_operations.specs.Extra.{Extra}
use Rattle.lnfs_gss3.specs.Mechanism.{Signing}
use Rattle.lnfs_gss3.specs.Grammar.{Assertion}
use Rattle.lnfs_step.specs.declared.numbers.TheConstants.{SUCCESS}
use Rattle.lnfs_step.specs.Wrapping.{Wrapping, answer_text, bare_text}
use Rattle.lnfs_step.specs.Request.{Call}
use Rattle.lnfs_step.specs.Step.{Line, letter, granted}
use Rattle.lnfs_step.specs.Journal.{reply_with, line_with}
use Rattle.lnfs_step.specs.Sessions.{Asks, IsAnswered, HasOrigin}

-- ---- a COMPOUND

-- Access is denied by a rule of labels and by nothing else; a node whose home isn't dominated is stale, and an identifier of
-- another level is one that isn't there (RFC 8881 section 15.1).
abbrev pub is_denied_by : Gate → ℕ → Bool
is_denied_by (Monitor rules.M8) status = status == NFS4ERR_STALE
is_denied_by (Monitor rules.M9) status = not (status == NFS4ERR_ACCESS)
is_denied_by (Monitor rule) status = status == NFS4ERR_ACCESS
is_denied_by gate status = not (status == NFS4ERR_ACCESS)

-- A line names an operation of a COMPOUND by its place there, from 1, and by its number as it was sent; or the COMPOUND as a
-- whole, by 0 and 0, where it is of another minor version (RFC 8881 section 16.2.3).
abbrev pub IsNamed : Compound → Line → Type 0
IsNamed c line =
    ((c.minor ≢ 2) × (line.place ≡ 0) × (line.number ≡ 0))
    ⊎ ((n : ℕ) × (op : Op) × (line.place ≡ n + 1) × (slice_get c.ops n ≡ Some op) × (line.number ≡ number_of op))

-- What a line tells of the result of a COMPOUND.
pub record TellsDenial (X : Extra) (c : Compound) (r : Results) (line : Line) : Type 0 where
  -- it failed, and the line bears its status
  pub failed : r.status ≢ 0
  pub status : line.status ≡ r.status
  -- the operation is the one that has the last of the results
  pub place : line.place ≡ length r.results
  pub named : IsNamed c line
  -- the gate that refused: for an operation of the table a rule of labels where access is denied, and only there
  pub by : Gate
  pub gate : line.gate ≡ letter by
  pub rule : X.grammar.serves line.number ≡ false → is_denied_by by line.status ≡ true

-- A COMPOUND without a line ended with status 0.
abbrev pub Tells : (X : Extra) → Compound → Results → Option Line → Type 0
Tells X c r None = r.status ≡ 0
Tells X c r (Some line) = TellsDenial X c r line

-- ---- a call that is refused as a whole

-- it isn't accepted, or it is accepted without success (RFC 5531 section 9)
abbrev pub IsFailure : ReplyHead → Type 0
IsFailure (accepted verifier stat) = stat ≢ SUCCESS
IsFailure version_mismatch = Unit {0}
IsFailure (auth_error stat) = Unit {0}

-- The status with which the head of a reply ends: the accept_stat, the auth_stat, or that the version is another one, which is the
-- reject_stat 0.
abbrev pub status_in : ReplyHead → ℕ
status_in (accepted verifier stat) = stat
status_in version_mismatch = 0
status_in (auth_error stat) = stat

-- what is called, the version of RPC, or who calls
abbrev pub gate_in : ReplyHead → List ℕ
gate_in (accepted verifier stat) = codes "P"
gate_in version_mismatch = codes "V"
gate_in (auth_error stat) = codes "C"

-- What a line tells of the head of a reply.
pub record TellsRefusal (head : ReplyHead) (line : Line) : Type 0 where
  pub failed : IsFailure head
  pub status : line.status ≡ status_in head
  pub gate : line.gate ≡ gate_in head
  -- no operation
  pub place : line.place ≡ 0
  pub number : line.number ≡ 0

-- ---- an event

-- What an event got, and its line.
pub data Recorded (X : Extra) (m : Signing) (p : Policy) (journal : List Event) (event : Event) : Type 0 where
  -- What is no call gets no reply, and has no line.
  Unanswered : reply_with X m p journal event ≡ None → line_with X m p journal event ≡ None → Recorded X m p journal event
  -- A call that is refused as a whole has one that tells of the head of its reply.
  Refused : (xid : ℕ) (head : ReplyHead) (results : List ℕ) (line : Line) → reply_with X m p journal event ≡ Some (reply_text xid head results) → line_with X m p journal event ≡ Some line → TellsRefusal head line → Recorded X m p journal event
  -- A call that is accepted and has no results, as NULL, has none.
  Bare : (xid : ℕ) (w : Wrapping) → reply_with X m p journal event ≡ Some (bare_text m w xid) → line_with X m p journal event ≡ None → Recorded X m p journal event
  -- One that made a context has none.
  Made : (call : Call) (parent : ℕ) (assertion : Assertion) (number : ℕ) → reply_with X m p journal event ≡ Some (answer_text m call.wrapping call.xid (granted call parent assertion number)) → line_with X m p journal event ≡ None → Recorded X m p journal event
  -- A COMPOUND that gets again what an event of the journal got for the same arguments has none.
  Resent : (call : Call) (arguments : List ℕ) (c : Compound) (result : List ℕ) → Asks X m p journal event call arguments c → HasOrigin X m p journal call.level (record { arguments = arguments; reply = result }) → IsAnswered X m p journal event call result → Recorded X m p journal event
  -- Any other has one exactly as its result tells.
  Ended : (call : Call) (arguments : List ℕ) (c : Compound) (r : Results) → Asks X m p journal event call arguments c → reply_with X m p journal event ≡ Some (answer_text m call.wrapping call.xid (results_text r)) → Tells X c r (line_with X m p journal event) → Recorded X m p journal event
