use Rattle.std.proofs.Common.{ℕ, ◌≤◌, sym, subst}
use Rattle.lnfs_operations.specs.Bounds.{IsGivenBy}
use Rattle.lnfs_site.specs.Site.{site_of}
use Rattle.lnfs_gss3.specs.declared.numbers.TheConstants.{CONTEXTS_OF_A_LEVEL}
use Rattle.lnfs_fit.specs.RowsOf.{AreIdsOf}
use Rattle.lnfs_fit.proofs.Mapped.{ids_all}
use Rattle.lnfs_fit.proofs.Tail.{told_as}
use Rattle.lnfs_sound.specs.RowsOf.{contexts_of}
use Rattle.lnfs_sound.proofs.Listed.{rows_counted}
use Rattle.lnfs_checkpoint.proofs.fit.are_few.Goals as goal

pub few_of_a_level-requires : goal.few_of_a_level-requires
few_of_a_level-requires c =
    let contexts = contexts_of c.args.rows.now in
    let are = subst (AreIdsOf (λ x. x.id) contexts) (sym c.deref.ensures.value) c.in_ok-ids.ensures in
    ids_all (λ x. x.id) contexts c.deref.result.now are (IsGivenBy (site_of c.args.site.now)) c.requires

pub returns : goal.returns
returns c =
    let contexts = contexts_of c.args.rows.now in
    let are = subst (AreIdsOf (λ x. x.id) contexts) (sym c.deref.ensures.value) c.in_ok-ids.ensures in
    let same = rows_counted (λ x. x.id) contexts c.deref.result.now are in
    told_as c.few_of_a_level.result _ _ c.few_of_a_level.ensures
    (λ few level. subst (λ (n : ℕ). n ≤ CONTEXTS_OF_A_LEVEL) (same level) (few level))
    (λ few level. subst (λ (n : ℕ). n ≤ CONTEXTS_OF_A_LEVEL) (sym (same level)) (few level))
