-- Each change of a world with the call that goes with it: totals stay those of the nodes.
use Rattle.std.proofs.Common.{◌≡◌, ◌+◌, ◌-◌, ◌<◌, ◌≤◌, ◌==◌, nat_lt, ℕ, Bool, true, false, cond, List, length, replicate, refl, sym, ◌∙◌, ap, arith}
use Rattle.std.specs.Prelude.{slice_set}
use Rattle.std.proofs.lemmas.Bool.Decides.{nat_tests}
use Rattle.std.specs.List.{AllByRecursion}
use Rattle.std.proofs.lemmas.List.{get_or-set_same, get_or-set_other, get_or_past, length-set, get_or-replicate, length-replicate}
use Rattle.lnfs_calipso.specs.declared.lattice.TheConstants.{MAX_LEVELS}
use Rattle.lnfs_world.specs.World.{Node}
use Rattle.lnfs_world.specs.Usage.{bytes_of, nodes_used, bytes_used}
use Rattle.lnfs_quota.specs.declared.quota.Row.{Row}
use Rattle.lnfs_quota.specs.Quota.{row_at, unused, with_nodes, with_bytes, node_charged, node_credited, resized, moved}
use Rattle.lnfs_quota.specs.Totals.{IsInBounds, AreTotals, home_share, label_share}

-- ---- what a node counts for in its home and in its label

pub home_own : (n : Node) → home_share n n.id.level ≡ 1
home_own n = grind (arith, nat_tests)

pub label_own : (n : Node) → label_share n n.label ≡ bytes_of n n.kind
label_own n = grind (arith, nat_tests)

pub label_empty : (n : Node) (k : ℕ) → bytes_of n n.kind ≡ 0 → label_share n k ≡ 0
label_empty n k empty = at (n.label == k)
  where
    at : (b : Bool) → cond b (bytes_of n n.kind) 0 ≡ 0
    at true = empty
    at false = refl

-- nodes with the same label and as many bytes
pub label_alike : (n m : Node) (k : ℕ) → n.label ≡ m.label → bytes_of n n.kind ≡ bytes_of m m.kind → label_share n k ≡ label_share m k
label_alike n m k label same = ap (λ l. cond (l == k) (bytes_of n n.kind) 0) label ∙ ap (λ b. cond (m.label == k) b 0) same

-- ---- rows of which one is set

row_set : (rows : List Row) (level : ℕ) (r : Row) (k : ℕ) → level < length rows → row_at (slice_set rows level r) k ≡ cond (level == k) r (row_at rows k)
row_set rows level r k known = at (level == k) refl
  where
    at : (b : Bool) → (level == k) ≡ b → row_at (slice_set rows level r) k ≡ cond b r (row_at rows k)
    at true same = let is : level ≡ k = grind (arith, nat_tests) in rw is (get_or-set_same rows k r unused (rw is at known))
    at false differ = get_or-set_other rows level k r unused (grind (arith, nat_tests))

nodes_of_two : (b : Bool) (r x : Row) → (cond b r x).nodes ≡ cond b r.nodes x.nodes
nodes_of_two true r x = refl
nodes_of_two false r x = refl

bytes_of_two : (b : Bool) (r x : Row) → (cond b r x).bytes ≡ cond b r.bytes x.bytes
bytes_of_two true r x = refl
bytes_of_two false r x = refl

pub unused_row : (levels k : ℕ) → row_at (replicate levels unused) k ≡ unused
unused_row levels k = at (nat_lt k levels) refl
  where
    at : (b : Bool) → nat_lt k levels ≡ b → row_at (replicate levels unused) k ≡ unused
    at true below = get_or-replicate levels k unused unused (grind (arith, nat_tests))
    at false past = let beyond : levels ≤ k = grind (arith, nat_tests) in get_or_past (replicate levels unused) k unused (rw length-replicate beyond)

pub charged_levels : (rows : List Row) (home : ℕ) → length (node_charged rows home) ≡ length rows
charged_levels rows home = length-set rows home _

pub credited_levels : (rows : List Row) (home : ℕ) → length (node_credited rows home) ≡ length rows
credited_levels rows home = length-set rows home _

pub resized_levels : (rows : List Row) (level old new : ℕ) → length (resized rows level old new) ≡ length rows
resized_levels rows level old new = length-set rows level _

pub moved_levels : (rows : List Row) (from to bytes : ℕ) → length (moved rows from to bytes) ≡ length rows
moved_levels rows from to bytes = resized_levels (resized rows from bytes 0) to 0 bytes ∙ resized_levels rows from bytes 0

-- ---- totals as sums, level by level

pub record Sums (rows : List Row) (homes labels : ℕ → ℕ) : Type 0 where
  pub nodes_sum : (k : ℕ) → (row_at rows k).nodes ≡ homes k
  pub bytes_sum : (k : ℕ) → (row_at rows k).bytes ≡ labels k

pub sums_of : {rows : List Row} {nodes : List Node} → AreTotals rows nodes → Sums rows (nodes_used nodes) (bytes_used nodes)
sums_of totals = record { nodes_sum = totals.homes; bytes_sum = totals.labels }

pub totals_of : {rows : List Row} {homes labels : ℕ → ℕ} (nodes : List Node) → Sums rows homes labels → ((k : ℕ) → nodes_used nodes k ≡ homes k) → ((k : ℕ) → bytes_used nodes k ≡ labels k) → length rows ≡ MAX_LEVELS → AllByRecursion IsInBounds nodes → AreTotals rows nodes
totals_of nodes sums h b levels bounds = record {
  levels = levels;
  homes = λ k. sums.nodes_sum k ∙ sym (h k);
  labels = λ k. sums.bytes_sum k ∙ sym (b k);
  bounds = bounds;
}

module _ {rows : List Row} {homes labels : ℕ → ℕ} (sums : Sums rows homes labels) where
  -- the row of a level is set, and only its nodes or only its bytes differ
  set_nodes : (level v : ℕ) (homes' : ℕ → ℕ) → level < length rows → ((k : ℕ) → cond (level == k) v (homes k) ≡ homes' k) → Sums (with_nodes rows level v) homes' labels
  set_nodes level v homes' known is = record {
    nodes_sum = λ k. ap (λ (r : Row). r.nodes) (row_set rows level (record (row_at rows level) { nodes = v }) k known)
        ∙ nodes_of_two (level == k) (record (row_at rows level) { nodes = v }) (row_at rows k) ∙ ap (cond (level == k) v) (sums.nodes_sum k) ∙ is k;
    bytes_sum = λ k. ap (λ (r : Row). r.bytes) (row_set rows level (record (row_at rows level) { nodes = v }) k known)
        ∙ bytes_of_two (level == k) (record (row_at rows level) { nodes = v }) (row_at rows k) ∙ same_anyway level k ∙ sums.bytes_sum k;
  }
    where
      same_anyway : (level k : ℕ) → cond (level == k) (row_at rows level).bytes (row_at rows k).bytes ≡ (row_at rows k).bytes
      same_anyway level k = grind (arith, nat_tests)

  set_bytes : (level v : ℕ) (labels' : ℕ → ℕ) → level < length rows → ((k : ℕ) → cond (level == k) v (labels k) ≡ labels' k) → Sums (with_bytes rows level v) homes labels'
  set_bytes level v labels' known is = record {
    nodes_sum = λ k. ap (λ (r : Row). r.nodes) (row_set rows level (record (row_at rows level) { bytes = v }) k known)
        ∙ nodes_of_two (level == k) (record (row_at rows level) { bytes = v }) (row_at rows k) ∙ same_anyway level k ∙ sums.nodes_sum k;
    bytes_sum = λ k. ap (λ (r : Row). r.bytes) (row_set rows level (record (row_at rows level) { bytes = v }) k known)
        ∙ bytes_of_two (level == k) (record (row_at rows level) { bytes = v }) (row_at rows k) ∙ ap (cond (level == k) v) (sums.bytes_sum k) ∙ is k;
  }
    where
      same_anyway : (level k : ℕ) → cond (level == k) (row_at rows level).nodes (row_at rows k).nodes ≡ (row_at rows k).nodes
      same_anyway level k = grind (arith, nat_tests)

  -- one node more, one less, and other bytes
  pub sums-charged : (home : ℕ) (homes' : ℕ → ℕ) → home < length rows → ((k : ℕ) → homes' k ≡ homes k + cond (home == k) 1 0) → Sums (node_charged rows home) homes' labels
  sums-charged home homes' known is = set_nodes home ((row_at rows home).nodes + 1) homes' known (λ k. at k (home == k) refl (is k))
    where
      at : (k : ℕ) (b : Bool) → (home == k) ≡ b → homes' k ≡ homes k + cond b 1 0 → cond b ((row_at rows home).nodes + 1) (homes k) ≡ homes' k
      at k true same e = let one : home ≡ k = grind (arith, nat_tests) in let own : (row_at rows k).nodes ≡ homes k = sums.nodes_sum k in rw one (omega arith)
      at k false differ e = omega arith

  pub sums-credited : (home : ℕ) (homes' : ℕ → ℕ) → home < length rows → ((k : ℕ) → homes' k + cond (home == k) 1 0 ≡ homes k) → Sums (node_credited rows home) homes' labels
  sums-credited home homes' known is = set_nodes home ((row_at rows home).nodes - 1) homes' known (λ k. at k (home == k) refl (is k))
    where
      at : (k : ℕ) (b : Bool) → (home == k) ≡ b → homes' k + cond b 1 0 ≡ homes k → cond b ((row_at rows home).nodes - 1) (homes k) ≡ homes' k
      at k true same e = let one : home ≡ k = grind (arith, nat_tests) in let own : (row_at rows k).nodes ≡ homes k = sums.nodes_sum k in rw one (omega arith)
      at k false differ e = omega arith

  pub sums-resized : (label old new : ℕ) (labels' : ℕ → ℕ) → label < length rows → old ≤ labels label → ((k : ℕ) → labels' k + cond (label == k) old 0 ≡ labels k + cond (label == k) new 0) → Sums (resized rows label old new) homes labels'
  sums-resized label old new labels' known held is = set_bytes label ((row_at rows label).bytes - old + new) labels' known (λ k. at k (label == k) refl (is k))
    where
      at : (k : ℕ) (b : Bool) → (label == k) ≡ b → labels' k + cond b old 0 ≡ labels k + cond b new 0 → cond b ((row_at rows label).bytes - old + new) (labels k) ≡ labels' k
      at k true same e = let one : label ≡ k = grind (arith, nat_tests) in let own : (row_at rows k).bytes ≡ labels k = sums.bytes_sum k in let enough : old ≤ labels k = rw one at held in rw one (omega arith)
      at k false differ e = omega arith

-- bytes go from one level to another
pub sums-moved : {rows : List Row} {homes labels : ℕ → ℕ} → Sums rows homes labels → (from to bytes : ℕ) (labels' : ℕ → ℕ) → from < length rows → to < length rows → bytes ≤ labels from → ((k : ℕ) → labels' k + cond (from == k) bytes 0 ≡ labels k + cond (to == k) bytes 0) → Sums (moved rows from to bytes) homes labels'
sums-moved {rows} {homes} {labels} sums from to bytes labels' from_known to_known held is =
    let known : to < length (resized rows from bytes 0) = rw resized_levels to_known in
    sums-resized (sums-resized sums from bytes 0 without from_known held (λ k. taken k (from == k) refl)) to 0 bytes labels' known (omega arith) (λ k. given k (from == k) refl (to == k) (is k))
  where
    without : ℕ → ℕ
    without k = labels k - cond (from == k) bytes 0

    taken : (k : ℕ) (b : Bool) → (from == k) ≡ b → labels k - cond b bytes 0 + cond b bytes 0 ≡ labels k + cond b 0 0
    taken k true same = let one : from ≡ k = grind (arith, nat_tests) in let enough : bytes ≤ labels k = rw one at held in omega arith
    taken k false differ = omega arith

    given : (k : ℕ) (b : Bool) → (from == k) ≡ b → (t : Bool) → labels' k + cond b bytes 0 ≡ labels k + cond t bytes 0 → labels' k + cond t 0 0 ≡ labels k - cond b bytes 0 + cond t bytes 0
    given k true same t e = let one : from ≡ k = grind (arith, nat_tests) in let enough : bytes ≤ labels k = rw one at held in grind (arith, enough, e)
    given k false differ t e = grind (arith, e)
