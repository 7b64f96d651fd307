use Rattle.std.proofs.Common.{refl, ◌≡◌, ◌+◌, ◌<◌, ◌≤◌, ◌==◌, ℕ, Bool, cond, List, length, not, sym, subst, ◌∙◌, ap, arith}
use Rattle.std.specs.Prelude.{◌++◌, [], ◌∷◌, sum_by}
use Rattle.std.specs.List.{AllByRecursion}
use Rattle.std.proofs.lemmas.List.{length-replicate}
use Rattle.std.proofs.lemmas.List.Sums.{sum_by-cons}
use Rattle.lnfs_calipso.specs.declared.lattice.TheConstants.{MAX_LEVELS}
use Rattle.lnfs_world.specs.declared.numbers.TheConstants.{LAST_NUMBER}
use Rattle.lnfs_world.specs.World.{Id, Node, same_id}
use Rattle.lnfs_world.proofs.Seen.{node_at-id}
use Rattle.lnfs_world.specs.Change.{apply, Make, Drop, Touch, Relabel}
use Rattle.lnfs_world.specs.Usage.{nodes_used, bytes_used, bytes_of}
use Rattle.lnfs_quota.specs.declared.quota.Row.{Row}
use Rattle.lnfs_quota.specs.Quota.{row_at, unused, node_credited}
use Rattle.lnfs_quota.specs.Totals.{AreTotals, IsInBounds, home_share, label_share}
use Rattle.lnfs_quota.proofs.Counting.{sum-made, sum-dropped, sum-updated, sum-updated_alike, sum-held}
use Rattle.lnfs_quota.proofs.Bounded.{bounds_found, bounds_made, bounds_left, bounds_updated, bounds_touched, bounds_kept, bounds_relabelled}
use Rattle.lnfs_quota.proofs.Kept.{charged_levels, credited_levels, resized_levels, moved_levels, home_own, label_own, label_empty, label_alike, unused_row, sums_of, totals_of, sums-charged, sums-credited, sums-resized, sums-moved}
use Rattle.lnfs_quota.proofs.laws.law_totals.Goals as goal

nothing_more : (total : ℕ) (b : Bool) → total + cond b 0 0 ≡ total
nothing_more total b = grind arith

-- a level that a policy may list has a row
has_row : (rows : List Row) (nodes : List Node) → AreTotals rows nodes → (level : ℕ) → level < MAX_LEVELS → level < length rows
has_row rows nodes totals level known = let many : length rows ≡ MAX_LEVELS = totals.levels in omega arith

pub returns-clause-none : goal.returns-clause-none
returns-clause-none c = record {
  levels = length-replicate MAX_LEVELS unused;
  homes = λ k. ap (λ (r : Row). r.nodes) (unused_row MAX_LEVELS k);
  labels = λ k. ap (λ (r : Row). r.bytes) (unused_row MAX_LEVELS k);
  bounds = tt;
}

pub returns-clause-next : goal.returns-clause-next
returns-clause-next c rows nodes n totals here empty =
    let after = nodes ++ n ∷ [] in
    totals_of after (sums-charged (sums_of totals) n.id.level (nodes_used after) (has_row rows nodes totals n.id.level here.home) (λ k. one_more (λ m. home_share m k) nodes)) (λ k. refl)
    (λ k. let sum : bytes_used after k ≡ bytes_used nodes k + label_share n k = one_more (λ m. label_share m k) nodes in let nothing : label_share n k ≡ 0 = label_empty n k empty in omega arith)
    (charged_levels rows n.id.level ∙ totals.levels) (all_last nodes totals.bounds)
  where
    one_more : (f : Node → ℕ) (nodes : List Node) → sum_by f (nodes ++ n ∷ []) ≡ sum_by f nodes + f n
    one_more f [] = rw sum_by-cons (omega arith)
    one_more f (x ∷ xs) = let rest : sum_by f (xs ++ n ∷ []) ≡ sum_by f xs + f n = one_more f xs in rw (sum_by-cons f x (xs ++ n ∷ []), sum_by-cons f x xs) (omega arith)

    all_last : (nodes : List Node) → AllByRecursion IsInBounds nodes → AllByRecursion IsInBounds (nodes ++ n ∷ [])
    all_last [] all = (here, tt)
    all_last (x ∷ xs) all = (all.0, all_last xs all.1)

pub returns-clause-held_bounds : goal.returns-clause-held_bounds
returns-clause-held_bounds c rows nodes i n totals found = bounds_found i n nodes totals.bounds found

pub returns-clause-held_node : goal.returns-clause-held_node
returns-clause-held_node c rows nodes i n totals found =
    let own : home_share n n.id.level ≡ 1 = home_own n in
    let held : home_share n n.id.level ≤ nodes_used nodes n.id.level = sum-held (λ m. home_share m n.id.level) i n nodes found in
    let total : (row_at rows n.id.level).nodes ≡ nodes_used nodes n.id.level = totals.homes n.id.level in
    omega arith

pub returns-clause-held_bytes : goal.returns-clause-held_bytes
returns-clause-held_bytes c rows nodes i n totals found =
    let own : label_share n n.label ≡ bytes_of n n.kind = label_own n in
    let held : label_share n n.label ≤ bytes_used nodes n.label = sum-held (λ m. label_share m n.label) i n nodes found in
    let total : (row_at rows n.label).bytes ≡ bytes_used nodes n.label = totals.labels n.label in
    omega arith

pub returns-clause-made : goal.returns-clause-made
returns-clause-made c rows n entry w totals none here empty =
    let after = (apply (Make n entry) w).nodes in
    totals_of after (sums-charged (sums_of totals) n.id.level (nodes_used after) (has_row rows w.nodes totals n.id.level here.home) (λ k. sum-made (λ m. home_share m k) n w.nodes none)) (λ k. refl)
    (λ k. let bytes : bytes_used after k ≡ bytes_used w.nodes k + label_share n k = sum-made (λ m. label_share m k) n w.nodes none in let nothing : label_share n k ≡ 0 = label_empty n k empty in omega arith)
    (charged_levels rows n.id.level ∙ totals.levels) (bounds_made n w.nodes here totals.bounds)

pub returns-clause-dropped : goal.returns-clause-dropped
returns-clause-dropped c rows entry n w totals rising found =
    let after = (apply (Drop entry) w).nodes in
    let here : IsInBounds n = bounds_found entry.node n w.nodes totals.bounds found in
    let rows' = node_credited rows n.id.level in
    let label : n.label < length rows' = rw credited_levels (has_row rows w.nodes totals n.label here.label) in
    let held : label_share n n.label ≤ bytes_used w.nodes n.label = sum-held (λ m. label_share m n.label) entry.node n w.nodes found in
    let counted = sums-credited (sums_of totals) n.id.level (nodes_used after) (has_row rows w.nodes totals n.id.level here.home) (λ k. sum-dropped (λ m. home_share m k) entry.node n w.nodes rising found) in
    totals_of after (sums-resized counted n.label (bytes_of n n.kind) 0 (bytes_used after) label (rw label_own at held) (λ k. sum-dropped (λ m. label_share m k) entry.node n w.nodes rising found ∙ sym (nothing_more (bytes_used w.nodes k) (n.label == k)))) (λ k. refl) (λ k. refl)
    (resized_levels rows' n.label (bytes_of n n.kind) 0 ∙ credited_levels rows n.id.level ∙ totals.levels) (bounds_left (λ x. not (same_id entry.node x.id)) w.nodes totals.bounds)

pub returns-clause-dropped_empty : goal.returns-clause-dropped_empty
returns-clause-dropped_empty c rows entry n w totals rising found empty =
    let after = (apply (Drop entry) w).nodes in
    let here : IsInBounds n = bounds_found entry.node n w.nodes totals.bounds found in
    totals_of after (sums-credited (sums_of totals) n.id.level (nodes_used after) (has_row rows w.nodes totals n.id.level here.home) (λ k. sum-dropped (λ m. home_share m k) entry.node n w.nodes rising found)) (λ k. refl)
    (λ k. let bytes : bytes_used after k + label_share n k ≡ bytes_used w.nodes k = sum-dropped (λ m. label_share m k) entry.node n w.nodes rising found in let nothing : label_share n k ≡ 0 = label_empty n k empty in omega arith)
    (credited_levels rows n.id.level ∙ totals.levels) (bounds_left (λ x. not (same_id entry.node x.id)) w.nodes totals.bounds)

pub returns-clause-touched : goal.returns-clause-touched
returns-clause-touched c rows i inner n w totals found few number =
    let after = (apply (Touch i inner) w).nodes in
    let here : IsInBounds n = bounds_found i n w.nodes totals.bounds found in
    let held : label_share n n.label ≤ bytes_used w.nodes n.label = sum-held (λ m. label_share m n.label) i n w.nodes found in
    let renew : Node → Node = λ m. record m { inner = inner } in
    totals_of after (sums-resized (sums_of totals) n.label (bytes_of n n.kind) (bytes_of (renew n) n.kind) (bytes_used after) (has_row rows w.nodes totals n.label here.label) (rw label_own at held) (λ k. sum-updated (λ m. label_share m k) renew i n w.nodes found))
    (λ k. sum-updated_alike (λ m. home_share m k) renew i w.nodes (λ x. refl)) (λ k. refl)
    (resized_levels rows n.label _ _ ∙ totals.levels) (bounds_updated renew i n w.nodes found (bounds_touched n inner here few (subst (λ (j : Id). j.number ≤ LAST_NUMBER) (sym (node_at-id i w.nodes n found)) number)) totals.bounds)

pub returns-clause-touched_alike : goal.returns-clause-touched_alike
returns-clause-touched_alike c rows i inner n w totals found same =
    let after = (apply (Touch i inner) w).nodes in
    let here : IsInBounds n = bounds_found i n w.nodes totals.bounds found in
    let renew : Node → Node = λ m. record m { inner = inner } in
    totals_of after (sums_of totals) (λ k. sum-updated_alike (λ m. home_share m k) renew i w.nodes (λ x. refl))
    (λ k. let bytes : bytes_used after k + label_share n k ≡ bytes_used w.nodes k + label_share (renew n) k = sum-updated (λ m. label_share m k) renew i n w.nodes found in let equal : label_share (renew n) k ≡ label_share n k = label_alike (renew n) n k refl same in omega arith)
    totals.levels (bounds_updated renew i n w.nodes found (bounds_kept n inner here same) totals.bounds)

pub returns-clause-relabelled : goal.returns-clause-relabelled
returns-clause-relabelled c rows i label inner n w totals found known same =
    let after = (apply (Relabel i label inner) w).nodes in
    let here : IsInBounds n = bounds_found i n w.nodes totals.bounds found in
    let held : label_share n n.label ≤ bytes_used w.nodes n.label = sum-held (λ m. label_share m n.label) i n w.nodes found in
    let renew : Node → Node = λ m. record m { label = label; inner = inner } in
    let shares : (k : ℕ) → label_share (renew n) k ≡ cond (label == k) (bytes_of n n.kind) 0 = λ k. ap (λ b. cond (label == k) b 0) same in
    totals_of after (sums-moved (sums_of totals) n.label label (bytes_of n n.kind) (bytes_used after) (has_row rows w.nodes totals n.label here.label) (has_row rows w.nodes totals label known) (rw label_own at held) (λ k. sum-updated (λ m. label_share m k) renew i n w.nodes found ∙ ap (λ b. bytes_used w.nodes k + b) (shares k)))
    (λ k. sum-updated_alike (λ m. home_share m k) renew i w.nodes (λ x. refl)) (λ k. refl)
    (moved_levels rows n.label label _ ∙ totals.levels) (bounds_updated renew i n w.nodes found (bounds_relabelled n label inner here known same) totals.bounds)
