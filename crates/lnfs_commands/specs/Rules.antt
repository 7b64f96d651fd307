-- What the file of a policy comes to.
use Rattle.std.specs.Prelude.{◌≡◌, ℕ, List, [], Result, Ok, IfOk}
use Rattle.std.specs.declared.option.Option.{Option}
use Rattle.std.specs.declared.option.Option.TheVariants.{Some}
use Rattle.lnfs_policy.specs.Policy.{Policy}
use Rattle.lnfs_policy.specs.PolicyText.{policy_of}
use Rattle.lnfs_stage.specs.declared.stop.Stop.{Stop}
use Rattle.lnfs_stage.specs.Seen.{Seen}
use Rattle.lnfs_stage.specs.Due.{written, given}
use Rattle.lnfs_stage.specs.Does.{Does, Holds}
use Rattle.lnfs_commands.specs.Commands.{judged}

-- a text spells a policy, of which something is said
pub record IsTaken (policy : Option (List ℕ)) (Say : Policy → Type 0) : Type 0 where
  pub text : List ℕ
  pub rules : Policy
  pub is_text : policy ≡ Some text
  pub is_rules : policy_of text ≡ Ok rules
  pub say : Say rules

-- it gave the policy that the file of the name spells, or told that there is no such file, or why its text spells none
pub record RulesIn (result : Result Policy Stop) (before after : Seen) (name : List ℕ) : Type 0 where
  pub policy : Option (List ℕ)
  pub held : Holds before.content name policy
  pub does : Does result before after (given policy name (λ text. judged (policy_of text) (λ rules. written [])))
  pub taken : IfOk result (λ rules. IsTaken policy (λ spelled. spelled ≡ rules))
