-- What is due of the two commands: the checkpoint of a new server behind a recording, and a recording behind a checkpoint.
use Rattle.std.specs.Prelude.{◌≡◌, ℕ, cond, List, [], ◌∷◌, ◌++◌, length, unwrap_or, Result, Ok, Err}
use Rattle.std.specs.declared.option.Option.{Option}
use Rattle.std.specs.declared.option.Option.TheVariants.{Some, None}
use Rattle.lnfs_types.specs.declared.event.Event.{Event}
use Rattle.lnfs_policy.specs.Policy.{Policy}
use Rattle.lnfs_policy.specs.PolicyText.{policy_of}
use Rattle.lnfs_world.specs.Both.{Both}
use Rattle.lnfs_gss3.specs.Mechanism.{keyed_digest}
use Rattle.lnfs_step.specs.Journal.{first_state, state_after, text_of}
use Rattle.lnfs_traffic.specs.Parts.{recorded, is_recording, place_of}
use Rattle.lnfs_layout.specs.Whole.{Told}
use Rattle.lnfs_checkpoint.specs.declared.errors.CheckpointError.{CheckpointError}
use Rattle.lnfs_checkpoint.specs.declared.errors.CheckpointError.TheVariants as errors
use Rattle.lnfs_checkpoint.specs.Checkpoint.{checkpoint_text}
use Rattle.lnfs_checkpoint.specs.Resumed.{Got, got_from, state_of}
use Rattle.lnfs_checkpoint.specs.Takes.{Verdict, IsVerdict, AreBytes}
use Rattle.lnfs_stage.specs.declared.ending.Ending.{Ending}
use Rattle.lnfs_stage.specs.declared.ending.Ending.TheVariants.{TrafficDamaged, CheckpointRefused}
use Rattle.lnfs_stage.specs.declared.ending.CheckpointCause.TheVariants as causes
use Rattle.lnfs_stage.specs.declared.status.Status.{Status}
use Rattle.lnfs_stage.specs.declared.status.Status.TheVariants as status
use Rattle.lnfs_stage.specs.declared.stop.Stop.{Stop}
use Rattle.lnfs_stage.specs.declared.stop.Stop.TheVariants.{Ends, Memory}
use Rattle.lnfs_stage.specs.Ending.{status_of, told_by}
use Rattle.lnfs_stage.specs.Seen.{Seen}
use Rattle.lnfs_stage.specs.Writes.{Write, to_out, to_audit}
use Rattle.lnfs_stage.specs.Due.{Due, written, given, and_then}
use Rattle.lnfs_stage.specs.Contents.{Contents, first, others, Follows}
use Rattle.lnfs_commands.specs.Commands.{judged, ends_by}
use Rattle.lnfs_commands.specs.Events.{framed}
use Rattle.lnfs_further.specs.Further.{further, locks_in}

-- ---- what is written for events that are served, one after another

-- the line, with the event's number
abbrev pub line_write : Got → Write
line_write got = to_audit (unwrap_or (text_of got.number got.line) [])

-- the line alone
abbrev pub line_alone : Got → List Write
line_alone got = line_write got ∷ []

-- the reply's frame, and then the line
abbrev pub reply_and_line : Got → List Write
reply_and_line got = to_out (framed got.reply) ∷ line_write got ∷ []

unfoldable pub writes_of : (each : Got → List Write) → List Got → List Write
writes_of each [] = []
writes_of each (got ∷ more) = each got ++ writes_of each more

-- a damage of a recording ends the run, behind the events before it
abbrev pub ending_after : (traffic : List ℕ) → Option Ending
ending_after traffic = cond (is_recording traffic) None (Some (TrafficDamaged (place_of traffic)))

-- the events of a recording, in a server of this state that so many events led to
abbrev pub served : (each : Got → List Write) → Policy → (before : ℕ) → Both (further).Row → (traffic : List ℕ) → Due
served each p before b traffic = record {
  writes = writes_of each (got_from further keyed_digest p before b (recorded traffic));
  ending = ending_after traffic;
}

-- ---- `checkpoint`: the lines of the events, and then the checkpoint of the server that served them

-- what the checkpoint of a new server behind these events tells: how many there were, and the world and the locks after them
abbrev pub told_behind : Policy → List Event → Told
told_behind p events =
    let b = state_after further keyed_digest p events in
    record { events = length events; world = b.world; locks = locks_in b.own }

-- its bytes
abbrev pub text_behind : Policy → List Event → List ℕ
text_behind p events = let t = told_behind p events in checkpoint_text p t.events t.world t.locks

-- the lines alone where the recording is damaged
abbrev pub saved : Policy → (traffic : List ℕ) → Due
saved p traffic = and_then (served line_alone p 0 (first_state further p) traffic) (written (to_out (text_behind p (recorded traffic)) ∷ []))

abbrev pub saving_due : (policy traffic : List ℕ) → Contents → Due
saving_due policy traffic files = given (first files) policy (λ text. judged (policy_of text) (λ p.
    given (first (others files)) traffic (saved p)))

-- these bytes are taken again, as that state
pub record IsTakenAgain (p : Policy) (events : List Event) : Type 0 where
  pub bytes : AreBytes (text_behind p events)
  pub verdict : IsVerdict p (text_behind p events) (Ok (told_behind p events))

-- where all went well: those behind the recording of the first file
pub record IsKept (p : Policy) (files : Contents) (ending : Status) : Type 0 where
  pub again : (traffic : List ℕ) → ending ≡ status.Ok → first files ≡ Some traffic → IsTakenAgain p (recorded traffic)

-- those behind the recording of the second file, under the policy that the text of the first one spells
pub record IsSaved (files : Contents) (ending : Status) : Type 0 where
  pub again : (text traffic : List ℕ) (p : Policy) → ending ≡ status.Ok → first files ≡ Some text → policy_of text ≡ Ok p → first (others files) ≡ Some traffic → IsTakenAgain p (recorded traffic)

-- The call did what is due for what the files hold, and that holds of its checkpoint.
pub record Saves {T : Type 0} (result : Result T Stop) (before after : Seen) (names : List (List ℕ)) (Kept : Contents → Status → Type 0) (due : Contents → Due) : Type 0 where
  pub follows : Follows result before after names due
  pub kept : Kept follows.contents (status_of result)

-- ---- `resume`: the replies and lines of the events, behind the state of the checkpoint

abbrev pub resumed : Policy → Told → (traffic : List ℕ) → Due
resumed p t traffic = served reply_and_line p t.events (state_of t.world t.locks) traffic

-- how a run stops whose checkpoint isn't taken
abbrev pub stop_of : CheckpointError → Stop
stop_of (errors.Damaged at) = Ends (CheckpointRefused (causes.Damaged at))
stop_of errors.Policy = Ends (CheckpointRefused causes.Policy)
stop_of errors.Unfit = Ends (CheckpointRefused causes.Unfit)
stop_of errors.Memory = Memory

-- the verdict on a checkpoint; none where the call gave up before
abbrev pub Ruling : Type 0
Ruling = Option Verdict

-- nothing is due without one
abbrev pub behind : Ruling → (Told → Due) → Due
behind (Some (Ok t)) next = next t
behind (Some (Err error)) next = ends_by (stop_of error)
behind None next = written []

-- the recording of the first file
abbrev pub resumption_behind : Policy → (traffic : List ℕ) → Ruling → Contents → Due
resumption_behind p traffic verdict files = behind verdict (λ t. given (first files) traffic (resumed p t))

-- The checkpoint is judged before the recording is opened.
abbrev pub resumption_under : Policy → (checkpoint traffic : List ℕ) → Ruling → Contents → Due
resumption_under p checkpoint traffic verdict files = given (first files) checkpoint (λ bytes. resumption_behind p traffic verdict (others files))

abbrev pub resumption_due : (policy checkpoint traffic : List ℕ) → Ruling → Contents → Due
resumption_due policy checkpoint traffic verdict files = given (first files) policy (λ text. judged (policy_of text) (λ p.
    resumption_under p checkpoint traffic verdict (others files)))

-- ---- the verdict

-- it is that of these bytes; there is none where the call gave up
abbrev pub IsSaid : Policy → (bytes : List ℕ) → Status → Ruling → Type 0
IsSaid p bytes status (Some verdict) = IsVerdict p bytes verdict
IsSaid p bytes status None = told_by status ≡ None

-- that on the bytes of the first file
pub record IsGiven (p : Policy) (files : Contents) (status : Status) (verdict : Ruling) : Type 0 where
  pub said : (bytes : List ℕ) → first files ≡ Some bytes → IsSaid p bytes status verdict

-- that on the bytes of the second file, under the policy that the text of the first one spells
pub record IsJudged (files : Contents) (status : Status) (verdict : Ruling) : Type 0 where
  pub said : (text bytes : List ℕ) (p : Policy) → first files ≡ Some text → policy_of text ≡ Ok p → first (others files) ≡ Some bytes → IsSaid p bytes status verdict

-- There is a verdict of which that holds, and the call did what is due by it.
pub record Resumes {T : Type 0} (result : Result T Stop) (before after : Seen) (names : List (List ℕ)) (Judged : Contents → Status → Ruling → Type 0) (due : Ruling → Contents → Due) : Type 0 where
  pub verdict : Ruling
  pub follows : Follows result before after names (due verdict)
  pub judged : Judged follows.contents (status_of result) verdict
