-- What the code's values of a step stand for.
use Rattle.std.specs.Prelude.{◌≡◌, ℕ}
use Rattle.lnfs_gss3.specs.Mechanism.{Signing}
use Rattle.lnfs_step.specs.Step.{Step}
use Rattle.lnfs_vault.specs.Lines.{IsLineOf}
use Rattle.lnfs_vault.specs.Sealed.{sealed_of}
use Rattle.lnfs_vault.specs.declared.step.Said.{Said}

-- what was said comes to the reply of a step, and what stands then is its state; the line bears the event's place
pub record Says {S : Type 0} (m : Signing) (event : ℕ) (after : S) (s : Step S) (said : Said) : Type 0 where
  pub stands : after ≡ s.state
  pub reply : sealed_of m said.unsealed ≡ s.reply
  pub line : IsLineOf event s.line said.line
