use Rattle.std.proofs.Common.{List, subst}
use Rattle.lnfs_policy.specs.Guests.{AreLevelsOf}
use Rattle.lnfs_policy.specs.declared.rows.Guest.{Guest}
use Rattle.lnfs_policy.proofs.guests.Guests.of.Goals as goal

pub invariant_of-result : goal.invariant_of-result
invariant_of-result c = subst (λ (lines : List Guest). AreLevelsOf lines c.in_ok-levels.levels) c.deref.ensures.value c.in_ok-levels.ensures
