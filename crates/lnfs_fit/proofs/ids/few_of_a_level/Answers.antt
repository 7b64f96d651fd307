use Rattle.std.proofs.Common.{◌≡◌, ◌<◌, ◌≤◌, ◌+◌, ℕ, true, length, get_or, sym, subst, arith}
use Rattle.std.specs.Prelude.{◌==◌, ◌↔◌, count_by, IfOk}
use Rattle.std.proofs.lemmas.List.{length-map}
use Rattle.lnfs_climb.specs.Firsts.{AreBelow}
use Rattle.lnfs_site.specs.Site.{site_of}
use Rattle.lnfs_rows.specs.Told.{id_of}
use Rattle.lnfs_fit.specs.Ids.{nth_id}
use Rattle.lnfs_fit.specs.RowsOf.{ids_of}
use Rattle.lnfs_fit.proofs.Bounded.{below, to_few, of_few}
use Rattle.lnfs_fit.proofs.Tail.{told_as}
use Rattle.lnfs_fit.proofs.ids.few_of_a_level.Goals as goal

pub stand_at_most-requires : goal.stand_at_most-requires
stand_at_most-requires c =
    let len = length-map c.args.ids.now id_of in
    let same = c.deref.ensures.value in
    let all = below (site_of c.args.site.now) (ids_of c.args.ids.now) c.requires c.in_ok-levels.levels.items (omega (arith, len, c.in_ok-levels.ensures.len)) (λ k k_in. c.in_ok-levels.ensures.value k (omega (arith, len, k_in))) in
    subst (λ n. AreBelow (n + 1) c.deref.result.now) (sym c.levels.ensures) (subst (AreBelow ((site_of c.args.site.now).levels + 1)) (sym same) all)

pub returns : goal.returns
returns c =
    let site = site_of c.args.site.now in
    let ids = ids_of c.args.ids.now in
    let len = length-map c.args.ids.now id_of in
    let same = c.deref.ensures.value in
    let levels = c.in_ok-levels.levels.items in
    let many : length levels ≡ length ids = omega (arith, len, c.in_ok-levels.ensures.len) in
    let are : (k : ℕ) → k < length ids → get_or levels k 0 ≡ (nth_id ids k).level = λ k k_in. c.in_ok-levels.ensures.value k (omega (arith, len, k_in)) in
    let told = subst (λ ns. IfOk c.stand_at_most.result (λ few. (few ≡ true) ↔ ((k : ℕ) → k < c.levels.result + 1 → count_by (λ x. x == k) ns ≤ c.args.most))) same c.stand_at_most.ensures in
    told_as c.stand_at_most.result _ _ told
    (λ few. to_few site ids c.requires levels many are c.args.most (λ k k_in. few k (omega (arith, c.levels.ensures, k_in))))
    (λ few k k_in. of_few site ids c.requires levels many are c.args.most few k (omega (arith, c.levels.ensures, k_in)))
