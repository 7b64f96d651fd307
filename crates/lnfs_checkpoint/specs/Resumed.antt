-- What a server that goes on from a checkpoint is to its callers.
use Rattle.std.specs.Prelude.{ℕ, ◌+◌, Bool, List, [], ◌∷◌, ◌++◌, length, Option}
use Rattle.lnfs_types.specs.declared.event.Event.{Event}
use Rattle.lnfs_policy.specs.Policy.{Policy}
use Rattle.lnfs_gss3.specs.Mechanism.{Signing}
use Rattle.lnfs_world.specs.World.{World}
use Rattle.lnfs_world.specs.Both.{Both, both}
use Rattle.lnfs_operations.specs.Extra.{Extra}
use Rattle.lnfs_locks.specs.Locks.{Locks}
use Rattle.lnfs_further.specs.Further.{further, further_rows}
use Rattle.lnfs_step.specs.Step.{Line, step_with}
use Rattle.lnfs_step.specs.Journal.{line_with, answer_with}

-- its policy, how many events there were, those before the checkpoint among them, the world and the locks after them, and whether want of memory has stopped it
pub record Resumed : Type 0 where
  pub policy : Policy
  pub events : ℕ
  pub world : World
  pub locks : Locks
  pub stopped : Bool

-- the state that stands: the further rows are those of the locks
abbrev pub state_of : World → Locks → Both (further).Row
state_of w own = both w (further_rows own)

-- what an event gets: its reply, its line, and its number
pub record Got : Type 0 where
  pub reply : Option (List ℕ)
  pub line : Option Line
  pub number : ℕ

-- what events get that are served one after another, from a state on that so many events led to
unfoldable pub got_from : (X : Extra) → Signing → Policy → (before : ℕ) → Both X.Row → List Event → List Got
got_from X m p before b [] = []
got_from X m p before b (event ∷ more) =
    let step = step_with X m p b event in
    record { reply = step.reply; line = step.line; number = before + 1 } ∷ got_from X m p (before + 1) step.state more

-- The same told by the events before, not by a state: each reply is the one that its requester would get with every event
-- outside its dominance purged.
unfoldable pub got_after : (X : Extra) → Signing → Policy → (journal : List Event) → List Event → List Got
got_after X m p journal [] = []
got_after X m p journal (event ∷ more) =
    record { reply = answer_with X m p journal event; line = line_with X m p journal event; number = length journal + 1 } ∷ got_after X m p (journal ++ event ∷ []) more
