-- Journals: the state after one, and the answer on one that is purged.
use Rattle.std.specs.Prelude.{ℕ, List, [], ◌∷◌, ◌++◌, Option, Some, None}
use Rattle.std.specs.Fmt.{decimal}
use Rattle.lnfs_types.specs.declared.event.Event.{Event}
use Rattle.lnfs_policy.specs.Policy.{Policy, dominance}
use Rattle.lnfs_world.specs.Facts.{Facts}
use Rattle.lnfs_world.specs.Both.{Both, both, both_seen}
use Rattle.lnfs_operations.specs.Bounds.{IsSound}
use Rattle.lnfs_operations.specs.Extra.{Extra}
use Rattle.lnfs_gss3.specs.Mechanism.{Signing}
use Rattle.lnfs_step.specs.Purged.{purged_for}
use Rattle.lnfs_site.specs.Site.{site_of, first_world}
use Rattle.lnfs_step.specs.Step.{Line, step_with}

-- ---- with further operations

-- what holds of every state that is kept
pub record Holds (X : Extra) (p : Policy) (b : Both X.Row) : Type 0 where
  pub facts : Facts (dominance p) b.world
  pub own : X.Fact b.world b.own

-- and the same with the bounds of all rows, by the site of the policy
pub record IsKept (X : Extra) (p : Policy) (b : Both X.Row) : Type 0 where
  pub sound : IsSound (site_of p) b.world
  pub own : X.Fact b.world b.own

-- what a level sees of a state
abbrev pub seen_at : (X : Extra) → Policy → ℕ → Both X.Row → Both X.Row
seen_at X p level b = both_seen X.level_of (dominance p) level b

-- before all events there are no rows of further operations
abbrev pub first_state : (X : Extra) → Policy → Both X.Row
first_state X p = both (first_world p) []

-- events in order, from a state on
unfoldable pub state_from : (X : Extra) → Signing → Policy → Both X.Row → List Event → Both X.Row
state_from X m p b [] = b
state_from X m p b (event ∷ journal) = state_from X m p (step_with X m p b event).state journal

-- the world and the further rows after a journal
abbrev pub state_after : (X : Extra) → Signing → Policy → List Event → Both X.Row
state_after X m p journal = state_from X m p (first_state X p) journal

-- the reply and the line that an event gets after a journal
unfoldable pub reply_with : (X : Extra) → Signing → Policy → List Event → Event → Option (List ℕ)
reply_with X m p journal event = (step_with X m p (state_after X m p journal) event).reply

unfoldable pub line_with : (X : Extra) → Signing → Policy → List Event → Event → Option Line
line_with X m p journal event = (step_with X m p (state_after X m p journal) event).line

-- The reply that the requester would get with every event outside its dominance purged. One without a
-- level has the reply of the first world.
unfoldable pub answer_with : (X : Extra) → Signing → Policy → List Event → Event → Option (List ℕ)
answer_with X m p journal event = reply_with X m p (purged_for m p journal event) event

-- ---- audit lines

abbrev pub line_text : ℕ → Line → List ℕ
line_text event line = decimal event ++ 32 ∷ decimal line.place ++ 32 ∷ decimal line.number ++ 32 ∷ line.gate ++ 32 ∷ decimal line.status ++ 10 ∷ []

abbrev pub text_of : ℕ → Option Line → Option (List ℕ)
text_of event None = None
text_of event (Some line) = Some (line_text event line)
