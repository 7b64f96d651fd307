-- The levels of events are those of the policy.
use Rattle.std.proofs.Common.{◌≡◌, ℕ, true, List, length, nat_lt, Option, Some, None, sym, arith}
use Rattle.std.proofs.lemmas.Bool.Decides.{nat_tests}
use Rattle.lnfs_calipso.specs.declared.Level.{Level}
use Rattle.lnfs_policy.specs.Policy.{Policy}
use Rattle.lnfs_policy.specs.PolicyText.{IsPolicy}
use Rattle.lnfs_policy.specs.declared.mode.Mode.TheVariants.{Enforcing}
use Rattle.lnfs_gss3.specs.Mechanism.{Signing}
use Rattle.lnfs_step.specs.Level.{level_of}
use Rattle.lnfs_step.proofs.SiteLevels.{event_level}
use Rattle.lnfs_audit.specs.Levels.{IsKnown, numbered}

pub level_known : (m : Signing) (p : Policy) → IsPolicy p → p.mode ≡ Enforcing → (class : ℕ) (bytes : List ℕ) (level : Option Level) → numbered level ≡ level_of m p class bytes → IsKnown p level
level_known m p spelled enforces class bytes None is = tt
level_known m p spelled enforces class bytes (Some level) is =
    let of_site = event_level p p.text spelled m class bytes level.0 (sym is) in
    let below : nat_lt level.0 (length p.labels) ≡ true = rw enforces at of_site in
    grind (arith, nat_tests, below)
