-- A run of `resume` behind one of `checkpoint`.
use Rattle.std.specs.Prelude.{◌≡◌, ℕ, List, Ok, IfSome}
use Rattle.std.specs.declared.option.Option.{Option}
use Rattle.std.specs.declared.option.Option.TheVariants.{Some}
use Rattle.lnfs_types.specs.declared.event.Event.{Event}
use Rattle.lnfs_policy.specs.Policy.{Policy}
use Rattle.lnfs_policy.specs.PolicyText.{policy_of}
use Rattle.lnfs_gss3.specs.Mechanism.{keyed_digest}
use Rattle.lnfs_stage.specs.declared.status.Status.{Status}
use Rattle.lnfs_stage.specs.Seen.{Seen}
use Rattle.lnfs_stage.specs.Writes.{Takes}
use Rattle.lnfs_stage.specs.Ending.{told_by}
use Rattle.lnfs_stage.specs.Due.{Due, told, given}
use Rattle.lnfs_commands.specs.Commands.{replayed}
use Rattle.lnfs_further.specs.Further.{further}

-- the file of a name spells the policy
pub record IsSpelledIn (look : List ℕ → Option (List ℕ)) (name : List ℕ) (p : Policy) : Type 0 where
  pub text : List ℕ
  pub is_text : look name ≡ Some text
  pub is_policy : policy_of text ≡ Ok p

-- It told the ending that is due, and the streams took what is due; or it gave up.
abbrev pub Completes : Status → (before after : Seen) → Due → Type 0
Completes ending before after due = IfSome (told_by ending) (λ e. (e ≡ due.ending) × Takes before after (told due).writes)

-- what `replay` writes for the recording that the file of a name holds, if there is one, behind these events
abbrev pub replay_behind : Policy → List Event → (name : List ℕ) → Option (List ℕ) → Due
replay_behind p events name found = given found name (replayed further keyed_digest p events)
