-- What calls of the two commands answer.
use Rattle.std.specs.Prelude.{◌≡◌, ◌+◌, ◌<◌, ◌≤◌, ℕ, List, [], ◌∷◌, ◌++◌, length, take, Result, Ok, Err}
use Rattle.std.specs.declared.option.Option.{Option}
use Rattle.lnfs_types.specs.declared.event.Event.{Event}
use Rattle.lnfs_policy.specs.Policy.{Policy}
use Rattle.lnfs_gss3.specs.Mechanism.{keyed_digest}
use Rattle.lnfs_step.specs.Step.{step_with}
use Rattle.lnfs_traffic.specs.Pieces.{Unread, fed_to}
use Rattle.lnfs_step.specs.Journal.{first_state, state_from}
use Rattle.lnfs_checkpoint.specs.declared.errors.CheckpointError.{CheckpointError}
use Rattle.lnfs_checkpoint.specs.Resumed.{Resumed, Got, state_of}
use Rattle.lnfs_checkpoint.specs.Takes.{Takes}
use Rattle.lnfs_stage.specs.declared.stop.Stop.{Stop}
use Rattle.lnfs_stage.specs.Writes.{Write, to_out, to_audit}
use Rattle.lnfs_commands.specs.Events.{framed}
use Rattle.lnfs_further.specs.Further.{further}
use Rattle.lnfs_checkpointing.specs.declared.serving.Shown.{Shown}
use Rattle.lnfs_checkpointing.specs.declared.serving.Shown.TheVariants.{LineAlone, ReplyAndLine}
use Rattle.lnfs_checkpointing.specs.Checkpoints.{line_alone, reply_and_line, stop_of}

-- what is written of a reply and a line
abbrev pub shown_of : Shown → (reply : Option (List ℕ)) → (line : List ℕ) → List Write
shown_of LineAlone reply line = to_audit line ∷ []
shown_of ReplyAndLine reply line = to_out (framed reply) ∷ to_audit line ∷ []

-- and of what an event gets
abbrev pub each_of : Shown → Got → List Write
each_of LineAlone = line_alone
each_of ReplyAndLine = reply_and_line

-- what a server gives to an event
abbrev pub got_of : Resumed → Event → Got
got_of r event =
    let step = step_with further keyed_digest r.policy (state_of r.world r.locks) event in
    record { reply = step.reply; line = step.line; number = r.events + 1 }

-- a server before all events
pub record IsNew (r : Resumed) : Type 0 where
  pub events : r.events ≡ 0
  pub state : state_of r.world r.locks ≡ first_state further r.policy

-- the same server, behind further events
pub record IsBehind (old new : Resumed) (events : List Event) : Type 0 where
  pub policy : new.policy ≡ old.policy
  pub count : new.events ≡ old.events + length events
  pub state : state_of new.world new.locks ≡ state_from further keyed_digest old.policy (state_of old.world old.locks) events

-- more of a recording was fed, in one piece: a byte at least, where one was left
pub record IsFedOn (traffic : List ℕ) (fed now : ℕ) (old new : Unread) : Type 0 where
  pub piece : List ℕ
  pub within : now ≤ length traffic
  pub on : fed < length traffic → fed < now
  pub parts : take now traffic ≡ take fed traffic ++ piece
  pub reader : new ≡ fed_to old piece

-- a server of what the bytes are, or why there is none
abbrev pub IsServer : Policy → (bytes : List ℕ) → Result Resumed Stop → Type 0
IsServer p bytes (Ok r) = Takes p bytes (Ok r) × (r.policy ≡ p)
IsServer p bytes (Err stop) = (error : CheckpointError) × (stop ≡ stop_of error) × Takes p bytes (Err error)
