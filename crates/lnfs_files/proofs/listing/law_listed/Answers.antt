use Rattle.std.proofs.Common.{◌≤◌, ℕ, List, length, subst}
use Rattle.lnfs_calipso.specs.Label.{Label}
use Rattle.lnfs_calipso.specs.declared.lattice.TheConstants.{MAX_LEVELS}
use Rattle.lnfs_policy.specs.Policy.{Policy}
use Rattle.lnfs_files.proofs.Listed.{reading_is}
use Rattle.lnfs_files.proofs.listing.law_listed.Goals as goal

pub returns : goal.returns
returns c spelled level e =
    let few : length c.lattice.result.now ≤ MAX_LEVELS = subst (λ (n : ℕ). n ≤ MAX_LEVELS) c.len-levels.ensures.value c.len-levels.ensures.few in
    let labels : length c.policy.result.now.labels ≤ MAX_LEVELS = subst (λ (ls : List Label). length ls ≤ MAX_LEVELS) c.lattice.ensures few in
    reading_is c.args.site.now spelled level (subst (λ (p : Policy). length p.labels ≤ MAX_LEVELS) c.policy.ensures labels) e
