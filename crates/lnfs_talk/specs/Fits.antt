-- What holds of every dialogue under a policy.
use Rattle.std.specs.Prelude.{ℕ, List, [], ◌∷◌, All, Option, Some, None}
use Rattle.std.specs.Global.{Vec}
use Rattle.lnfs_policy.specs.Policy.{Policy}
use Rattle.lnfs_script.specs.Fits.{ActionSuits}
use Rattle.lnfs_client.specs.Fits.{Suits}
use Rattle.lnfs_client.specs.declared.answer.Refusal.{Refusal}
use Rattle.lnfs_client.specs.declared.answer.Refusal.TheVariants as refusals
use Rattle.lnfs_talk.specs.Talk.{State}

-- The policy is that of the earlier calls, and it has the levels of the actions that are still to begin.
pub record Goes (p : Policy) (s : State) : Type 0 where
  pub client : Suits p s.client
  pub actions : All (ActionSuits p) s.actions

-- a text that may be there
abbrev pub texts_in : Option (Vec ℕ) → List (List ℕ)
texts_in None = []
texts_in (Some text) = text.items ∷ []

-- a refusal that is told: all but want of memory
abbrev pub IsTold : Refusal → Type 0
IsTold refusals.Memory = ⊥
IsTold cause = Unit {0}
