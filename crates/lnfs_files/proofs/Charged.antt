-- Totals from which a node is taken, and how many rows there are of levels that are charged.
use Rattle.std.proofs.Common.{◌≡◌, ◌+◌, ◌<◌, ◌≤◌, ◌==◌, ℕ, Bool, cond, List, length, map, sym, ap, ◌∙◌, refl, arith}
use Rattle.std.proofs.lemmas.Bool.Decides.{nat_tests}
use Rattle.std.proofs.lemmas.List.{map-set, set-get_or, get_or-map, length-set}
use Rattle.std.specs.Prelude.{slice_set, slice_index_or}
use Rattle.lnfs_calipso.specs.declared.lattice.TheConstants.{MAX_LEVELS}
use Rattle.lnfs_world.specs.World.{Node}
use Rattle.lnfs_world.specs.Usage.{nodes_used, bytes_used}
use Rattle.lnfs_quota.specs.declared.quota.Row.{Row}
use Rattle.lnfs_quota.specs.Quota.{row_at, unused, node_credited}
use Rattle.lnfs_quota.specs.Totals.{AreTotals}
use Rattle.lnfs_quota.proofs.Kept.{credited_levels, resized_levels, sums_of, totals_of, sums-credited, sums-resized}
use Rattle.lnfs_files.specs.Charges.{AreBytesHeld, IsLess, released}

-- ---- what a row that is set leaves of the others

module _ {A : Type 0} (f : Row → A) (rows : List Row) (level : ℕ) (r : Row) (same : f r ≡ f (row_at rows level)) where
  maps_alike : map f (slice_set rows level r) ≡ map f rows
  maps_alike =
      map-set f rows level r
      ∙ ap (λ (x : A). slice_set (map f rows) level x) same
      ∙ sym (map-set f rows level (row_at rows level))
      ∙ ap (map f) (set-get_or rows level unused)

pub released_levels : (rows : List Row) (home label bytes : ℕ) → length (released rows home label bytes) ≡ length rows
released_levels rows home label bytes = resized_levels (node_credited rows home) label bytes 0 ∙ length-set rows home _

-- a node that is taken away leaves the bytes
pub credited_bytes : (rows : List Row) (home label bytes : ℕ) → AreBytesHeld rows label bytes → AreBytesHeld (node_credited rows home) label bytes
credited_bytes rows home label bytes held =
    let after : label < length (node_credited rows home) = rw credited_levels held.0 in
    let same : (row_at (node_credited rows home) label).bytes ≡ (row_at rows label).bytes =
    sym (get_or-map (λ (r : Row). r.bytes) (node_credited rows home) label unused 0 after)
    ∙ ap (λ (bytes : List ℕ). slice_index_or bytes label 0) (maps_alike (λ (r : Row). r.bytes) rows home _ refl)
    ∙ get_or-map (λ (r : Row). r.bytes) rows label unused 0 held.0 in
    let enough : bytes ≤ (row_at rows label).bytes = held.1 in
    (after, omega arith)

-- ---- a node that goes

nothing_more : (total : ℕ) (b : Bool) → total + cond b 0 0 ≡ total
nothing_more total b = grind arith

pub less_totals : (rows : List Row) (before after : List Node) (home label bytes : ℕ) → AreTotals rows before → IsLess home label bytes before after → AreTotals (released rows home label bytes) after
less_totals rows before after home label bytes totals less =
    let sum : bytes_used after label + cond (label == label) bytes 0 ≡ bytes_used before label = less.less_bytes label in
    let held : bytes ≤ bytes_used before label = grind (arith, nat_tests, sum) in
    let many : length rows ≡ MAX_LEVELS = totals.levels in
    let home_listed : home < MAX_LEVELS = less.home_listed totals.bounds in
    let label_listed : label < MAX_LEVELS = less.label_listed totals.bounds in
    let home_known : home < length rows = omega arith in
    let label_known : label < length rows = omega arith in
    totals_of after (sums-resized (sums-credited (sums_of totals) home (nodes_used after) home_known less.less_nodes) label bytes 0 (bytes_used after) (rw credited_levels label_known) held (λ k. less.less_bytes k ∙ sym (nothing_more (bytes_used before k) (label == k)))) (λ level. refl) (λ level. refl)
    (released_levels rows home label bytes ∙ totals.levels) (less.bounds totals.bounds)
