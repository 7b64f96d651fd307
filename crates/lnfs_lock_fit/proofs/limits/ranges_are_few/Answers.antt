use Rattle.std.proofs.Common.{◌≡◌, ◌<◌, ◌≤◌, ℕ, refl, ap, ◌∙◌, subst, length, take, arith}
use Rattle.std.proofs.Math.Seq.{take-length}
use Rattle.std.proofs.lemmas.Bool.{false≢true}
use Rattle.std.proofs.lemmas.List.{length-map, get_or_default}
use Rattle.lnfs_site.specs.Site.{site_of}
use Rattle.lnfs_locks.specs.declared.numbers.TheConstants.{RANGES_OF_A_LEVEL}
use Rattle.lnfs_locks.specs.Facts.{ranges_at}
use Rattle.lnfs_lock_rows.specs.Told.{lock_of}
use Rattle.lnfs_lock_fit.specs.RowsOf.{locks_of}
use Rattle.lnfs_lock_fit.proofs.Sums.{all_few, many_at_least}
use Rattle.lnfs_lock_fit.proofs.limits.ranges_are_few.Goals as goal

pub returns-then-ranges-saturating_sub : goal.returns-then-ranges-saturating_sub
returns-then-ranges-saturating_sub c =
    let inv = c.loop-place.invariant in
    let locks = locks_of c.args.rows.now in
    let t = c.loop-place.place in
    let level = c.level_at-level.result in
    let less : t < length locks = omega (arith, length-map c.args.rows.now lock_of, c.loop-place-test.true) in
    let within = c.level_at-level.ensures.within in
    let sum = c.index-sum.ensures ∙ get_or_default c.loop-place.sums.items level c.index-sum.result.now 0 (omega (arith, inv.len, within)) ∙ inv.value level within in
    let least = many_at_least locks t less level c.ranges_at-ranges.result c.index-sum.result.now c.level_at-level.ensures.level c.ranges_at-ranges.ensures sum in (
      λ never. absurd (false≢true never),
      λ all. absurd (omega (arith, least, all level, c.saturating_sub.ensures, c.if-ranges-saturating_sub.true)),
    )

pub returns : goal.returns
returns c =
    let inv = c.loop-place.invariant in
    let site = site_of c.args.site.now in
    let locks = locks_of c.args.rows.now in
    let t = c.loop-place.place in
    let whole : t ≡ length locks = omega (arith, length-map c.args.rows.now lock_of, c.loop-place.auto.place-end, c.loop-place-test.false) in
    let all : take t locks ≡ locks = ap (λ (n : ℕ). take n locks) whole ∙ take-length locks in (
      λ _. all_few site locks c.requires RANGES_OF_A_LEVEL (λ k k_in. subst (λ (n : ℕ). n ≤ RANGES_OF_A_LEVEL) (inv.value k k_in ∙ ap (ranges_at k) all) (inv.few k k_in)),
      λ _. refl,
    )
