-- The reply that what a step says comes to.
use Rattle.std.specs.Prelude.{ℕ, List, Option, Some, None}
use Rattle.lnfs_gss3.specs.Mechanism.{Signing}
use Rattle.lnfs_vault.specs.Requests.{seen_cause}
use Rattle.lnfs_vault.specs.Seals.{seen_sealing, answer_by, bare_by, refusal_by}
use Rattle.lnfs_vault.specs.declared.unsealed.Unsealed.{Unsealed}
use Rattle.lnfs_vault.specs.declared.unsealed.Unsealed.TheVariants.{Silent, Refused, Bare, Answered}

abbrev pub sealed_of : Signing → Unsealed → Option (List ℕ)
sealed_of m Silent = None
sealed_of m (Refused xid sealing cause) = Some (refusal_by (seen_sealing sealing) xid (seen_cause cause))
sealed_of m (Bare xid sealing) = Some (bare_by (seen_sealing sealing) xid)
sealed_of m (Answered a) = Some (answer_by m (seen_sealing a.sealing) a.xid a.built.items)
