-- Totals that are counted from the homes of nodes without bytes.
use Rattle.std.proofs.Common.{◌≡◌, ◌+◌, ◌<◌, ◌≤◌, ◌==◌, ℕ, Bool, true, false, cond, List, [], ◌∷◌, length, map, take, replicate, slice_index_or, refl, sym, ◌∙◌, ap, arith}
use Rattle.std.specs.Prelude.{count_by, nat_lt}
use Rattle.std.specs.List.{AllByRecursion}
use Rattle.std.proofs.lemmas.Bool.Decides.{nat_tests}
use Rattle.std.proofs.lemmas.List.{length-set, length-replicate}
use Rattle.std.proofs.lemmas.List.Sums.{sum_by-cons, sum_by_more}
use Rattle.lnfs_calipso.specs.declared.Level.{Level}
use Rattle.lnfs_calipso.specs.declared.lattice.TheConstants.{MAX_LEVELS}
use Rattle.lnfs_world.specs.World.{Node}
use Rattle.lnfs_world.specs.Usage.{bytes_of, nodes_used, bytes_used}
use Rattle.lnfs_quota.specs.declared.quota.Row.{Row}
use Rattle.lnfs_quota.specs.Quota.{unused, node_charged}
use Rattle.lnfs_quota.specs.Totals.{IsInBounds, AreTotals, home_share, label_share}
use Rattle.lnfs_quota.proofs.Kept.{Sums, label_empty, unused_row, sums-charged, totals_of}

-- how many homes a level is
abbrev pub homes_at : List Level → (level : ℕ) → ℕ
homes_at homes level = count_by (λ h. h.0 == level) homes

-- those that are among so many levels
abbrev pub counted_at : (levels : ℕ) → List Level → (level : ℕ) → ℕ
counted_at levels homes level = cond (nat_lt level levels) (homes_at homes level) 0

-- rows of so many levels, in which the homes are counted that are among them
pub record IsCounted (levels : ℕ) (homes : List Level) (rows : List Row) : Type 0 where
  pub sums : Sums rows (counted_at levels homes) (λ level. 0)
  pub as_many : length rows ≡ levels

pub counted-none : (levels : ℕ) (homes : List Level) → IsCounted levels (take 0 homes) (replicate levels unused)
counted-none levels homes = record {
  sums = record {
    nodes_sum = λ k. ap (λ (r : Row). r.nodes) (unused_row levels k) ∙ none (nat_lt k levels);
    bytes_sum = λ k. ap (λ (r : Row). r.bytes) (unused_row levels k);
  };
  as_many = length-replicate levels unused;
}
  where
    none : (b : Bool) → ◌≡◌ {A = ℕ} 0 (cond b 0 0)
    none true = refl
    none false = refl

-- one more home
more : (homes : List Level) (i : ℕ) (d : Level) → i < length homes → (k : ℕ) → homes_at (take (i + 1) homes) k ≡ homes_at (take i homes) k + cond ((slice_index_or homes i d).0 == k) 1 0
more homes i d below k = sum_by_more (λ h. cond (h.0 == k) 1 0) homes i d below

pub counted-more : (levels : ℕ) (homes : List Level) (rows : List Row) (i : ℕ) (d : Level) → i < length homes → nat_lt (slice_index_or homes i d).0 (length rows) ≡ true → IsCounted levels (take i homes) rows → IsCounted levels (take (i + 1) homes) (node_charged rows (slice_index_or homes i d).0)
counted-more levels homes rows i d below known was = record {
  sums = sums-charged was.sums home (counted_at levels (take (i + 1) homes)) (grind (arith, nat_tests, known)) (λ k. at k (nat_lt k levels) refl (more homes i d below k));
  as_many = length-set rows home _ ∙ was.as_many;
}
  where
    home : ℕ
    home = (slice_index_or homes i d).0

    at : (k : ℕ) (b : Bool) → nat_lt k levels ≡ b → homes_at (take (i + 1) homes) k ≡ homes_at (take i homes) k + cond (home == k) 1 0 → cond b (homes_at (take (i + 1) homes) k) 0 ≡ cond b (homes_at (take i homes) k) 0 + cond (home == k) 1 0
    at k true among e = e
    at k false past e = let many : length rows ≡ levels = was.as_many in grind (arith, nat_tests, known, past, many)

-- a home that has no row
pub counted-passed : (levels : ℕ) (homes : List Level) (rows : List Row) (i : ℕ) (d : Level) → i < length homes → nat_lt (slice_index_or homes i d).0 (length rows) ≡ false → IsCounted levels (take i homes) rows → IsCounted levels (take (i + 1) homes) rows
counted-passed levels homes rows i d below past was = record {
  sums = record { nodes_sum = λ k. was.sums.nodes_sum k ∙ at k (nat_lt k levels) refl (more homes i d below k); bytes_sum = was.sums.bytes_sum };
  as_many = was.as_many;
}
  where
    home : ℕ
    home = (slice_index_or homes i d).0

    other : (k : ℕ) → nat_lt k levels ≡ true → (b : Bool) → (home == k) ≡ b → homes_at (take (i + 1) homes) k ≡ homes_at (take i homes) k + cond b 1 0 → homes_at (take i homes) k ≡ homes_at (take (i + 1) homes) k
    other k among true same e = let many : length rows ≡ levels = was.as_many in absurd (grind (arith, nat_tests, past, among, same, many))
    other k among false differ e = omega arith

    at : (k : ℕ) (b : Bool) → nat_lt k levels ≡ b → homes_at (take (i + 1) homes) k ≡ homes_at (take i homes) k + cond (home == k) 1 0 → cond b (homes_at (take i homes) k) 0 ≡ cond b (homes_at (take (i + 1) homes) k) 0
    at k true among e = other k among (home == k) refl e
    at k false beyond e = refl

-- ---- nodes with these homes

used-homes : (nodes : List Node) (homes : List Level) → map (λ n. n.id.level) nodes ≡ map (λ (l : Level). l.0) homes → (k : ℕ) → nodes_used nodes k ≡ homes_at homes k
used-homes nodes homes are k = by_levels nodes ∙ ap (count_by (λ l. l == k)) are ∙ sym (by_homes homes)
  where
    by_levels : (nodes : List Node) → nodes_used nodes k ≡ count_by (λ l. l == k) (map (λ n. n.id.level) nodes)
    by_levels [] = refl
    by_levels (n ∷ ns) = sum_by-cons (λ (m : Node). cond (m.id.level == k) 1 0) n ns ∙ ap (λ more. cond (n.id.level == k) 1 0 + more) (by_levels ns) ∙ sym (sum_by-cons (λ l. cond (l == k) 1 0) n.id.level (map (λ n. n.id.level) ns))

    by_homes : (homes : List Level) → homes_at homes k ≡ count_by (λ l. l == k) (map (λ (l : Level). l.0) homes)
    by_homes [] = refl
    by_homes (h ∷ hs) = sum_by-cons (λ (m : Level). cond (m.0 == k) 1 0) h hs ∙ ap (λ more. cond (h.0 == k) 1 0 + more) (by_homes hs) ∙ sym (sum_by-cons (λ l. cond (l == k) 1 0) h.0 (map (λ (l : Level). l.0) hs))

no_bytes : (nodes : List Node) → AllByRecursion (λ n. bytes_of n n.kind ≡ 0) nodes → (k : ℕ) → bytes_used nodes k ≡ 0
no_bytes [] all k = refl
no_bytes (n ∷ ns) all k =
    let here : label_share n k ≡ 0 = label_empty n k all.0 in
    let rest : bytes_used ns k ≡ 0 = no_bytes ns all.1 k in
    rw (sum_by-cons (λ m. label_share m k) n ns) (omega arith)

-- no node has a home that no policy may list
none_beyond : (nodes : List Node) → AllByRecursion IsInBounds nodes → (k : ℕ) → MAX_LEVELS ≤ k → nodes_used nodes k ≡ 0
none_beyond [] bounds k beyond = refl
none_beyond (n ∷ ns) bounds k beyond =
    let here : home_share n k ≡ 0 = at (n.id.level == k) refl in
    let rest : nodes_used ns k ≡ 0 = none_beyond ns bounds.1 k beyond in
    rw (sum_by-cons (λ m. home_share m k) n ns) (omega arith)
  where
    at : (b : Bool) → (n.id.level == k) ≡ b → ◌≡◌ {A = ℕ} (cond b 1 0) 0
    at true same = let home : n.id.level < MAX_LEVELS = bounds.0.home in absurd (grind (arith, nat_tests, same, home, beyond))
    at false differ = refl

pub counted-totals : (homes : List Level) (rows : List Row) (nodes : List Node) → IsCounted MAX_LEVELS homes rows → map (λ n. n.id.level) nodes ≡ map (λ (l : Level). l.0) homes → AllByRecursion (λ n. bytes_of n n.kind ≡ 0) nodes → AllByRecursion IsInBounds nodes → AreTotals rows nodes
counted-totals homes rows nodes was are empty bounds = totals_of nodes was.sums (λ k. at k (nat_lt k MAX_LEVELS) refl) (no_bytes nodes empty) was.as_many bounds
  where
    at : (k : ℕ) (b : Bool) → nat_lt k MAX_LEVELS ≡ b → nodes_used nodes k ≡ cond b (homes_at homes k) 0
    at k true among = used-homes nodes homes are k
    at k false past = none_beyond nodes bounds k (grind (arith, nat_tests, past))
