use Rattle.std.proofs.Common.{◌≡◌, ◌≤◌, ℕ, true, sym, subst, ◌∙◌}
use Rattle.std.specs.Prelude.{◌↔◌, ◌==◌, count_by, IfOk}
use Rattle.std.specs.List.{AllByRecursion}
use Rattle.std.proofs.lemmas.Bool.{false≢true}
use Rattle.lnfs_operations.specs.Bounds.{ContextBounds}
use Rattle.lnfs_site.specs.Site.{site_of}
use Rattle.lnfs_step.specs.ContextBounds.{HasParent}
use Rattle.lnfs_gss3.specs.declared.numbers.TheConstants.{CONTEXTS_OF_A_LEVEL}
use Rattle.lnfs_fit.proofs.Tail.{told_as}
use Rattle.lnfs_sound.specs.RowsOf.{contexts_of}
use Rattle.lnfs_checkpoint.proofs.fit.contexts_fit.Goals as goal

pub returns-then-not-have_parents : goal.returns-then-not-have_parents
returns-then-not-have_parents c =
    let told = subst (λ rows. (c.have_parents.result ≡ true) ↔ AllByRecursion (HasParent c.args.policy.now) (contexts_of rows)) c.deref.ensures.value c.have_parents.ensures in (
      λ never. absurd (false≢true never),
      λ fit. sym c.if-not-have_parents.true ∙ told.1 fit.parents,
    )

pub are_few-requires : goal.are_few-requires
are_few-requires c = subst (λ rows. AllByRecursion (ContextBounds (site_of c.args.site.now)) (contexts_of rows)) (sym c.deref-2.ensures.value) c.requires

pub returns : goal.returns
returns c =
    let parents = subst (λ rows. (c.have_parents.result ≡ true) ↔ AllByRecursion (HasParent c.args.policy.now) (contexts_of rows)) c.deref.ensures.value c.have_parents.ensures in
    let told = subst (λ rows. IfOk c.are_few.result (λ few. (few ≡ true) ↔ ((level : ℕ) → count_by (λ x. x.id.level == level) (contexts_of rows) ≤ CONTEXTS_OF_A_LEVEL))) c.deref-2.ensures.value c.are_few.ensures in
    told_as c.are_few.result _ _ told
    (λ few. record { parents = parents.0 c.if-not-have_parents.false; counts = few })
    (λ fit. fit.counts)
