-- What each change of the nodes does to a sum over them.
use Rattle.std.proofs.Common.{◌≡◌, ◌+◌, ◌≤◌, ℕ, Bool, true, false, cond, not, List, [], ◌∷◌, Some, None, refl, ◌∙◌, ap, arith}
use Rattle.std.specs.Prelude.{filter, sum_by}
use Rattle.std.specs.List.{AllByRecursion}
use Rattle.std.specs.Ordering.{match_ordering}
use Rattle.std.specs.declared.cmp.Ordering.{Ordering}
use Rattle.std.specs.declared.cmp.Ordering.TheVariants.{Less, Equal, Greater}
use Rattle.std.proofs.lemmas.Bool.Decides.{nat_tests}
use Rattle.std.proofs.lemmas.List.Sums.{sum_by-cons}
use Rattle.lnfs_world.specs.Rows.{inserted, updated, Rising}
use Rattle.lnfs_world.specs.World.{Id, Node, node_order, same_id, node_at}
use Rattle.lnfs_world.proofs.Keys.{id_equal, id_same}

module _ (f : Node → ℕ) where
  pub sum-made : (n : Node) (nodes : List Node) → node_at nodes n.id ≡ None → sum_by f (inserted node_order n nodes) ≡ sum_by f nodes + f n
  sum-made n [] none = rw sum_by-cons (omega arith)
  sum-made n (x ∷ xs) none = at (node_order n x) refl (same_id n.id x.id) refl none (sum-made n xs)
    where
      at : (o : Ordering) → node_order n x ≡ o → (b : Bool) → same_id n.id x.id ≡ b → cond b (Some x) (node_at xs n.id) ≡ None → (node_at xs n.id ≡ None → sum_by f (inserted node_order n xs) ≡ sum_by f xs + f n) → sum_by f (match_ordering o (n ∷ x ∷ xs) (n ∷ xs) (x ∷ inserted node_order n xs)) ≡ sum_by f (x ∷ xs) + f n
      at Less is b same e rest = rw (sum_by-cons f n (x ∷ xs)) (omega arith)
      at Equal is true same e rest = absurd cc
      at Equal is false same e rest = let one : same_id n.id x.id ≡ true = id_equal n.id x.id is in absurd cc
      at Greater is true same e rest = absurd cc
      at Greater is false same e rest = rw (sum_by-cons f x (inserted node_order n xs), sum_by-cons f x xs) (let more : sum_by f (inserted node_order n xs) ≡ sum_by f xs + f n = rest e in omega arith)

  -- a node is found by its own identifier
  pub node_found : (nodes : List Node) (i : Id) (n : Node) → node_at nodes i ≡ Some n → i ≡ n.id
  node_found [] i n found = absurd cc
  node_found (x ∷ xs) i n found = at (same_id i x.id) refl found (node_found xs i n)
    where
      at : (b : Bool) → same_id i x.id ≡ b → cond b (Some x) (node_at xs i) ≡ Some n → (node_at xs i ≡ Some n → i ≡ n.id) → i ≡ n.id
      at true same e rest = let is : x ≡ n = cc in id_same i x.id same ∙ ap (λ (m : Node). m.id) is
      at false same e rest = rest e

  sum-others : (i : Id) (nodes : List Node) → AllByRecursion (λ x. same_id i x.id ≡ false) nodes → sum_by f (filter (λ n. not (same_id i n.id)) nodes) ≡ sum_by f nodes
  sum-others i nodes all = ap (sum_by f) (left nodes all)
    where
      left : (nodes : List Node) → AllByRecursion (λ x. same_id i x.id ≡ false) nodes → filter (λ n. not (same_id i n.id)) nodes ≡ nodes
      left [] all = refl
      left (x ∷ xs) all = grind (arith, all.0, left xs all.1)

  -- those that lie behind a node have other identifiers
  apart : (x : Node) (i : Id) → same_id i x.id ≡ true → (xs : List Node) → AllByRecursion (λ y. node_order x y ≡ Less) xs → AllByRecursion (λ y. same_id i y.id ≡ false) xs
  apart x i same [] all = tt
  apart x i same (y ∷ ys) all = (grind (arith, nat_tests, all.0), apart x i same ys all.1)

  pub sum-dropped : (i : Id) (n : Node) (nodes : List Node) → Rising node_order nodes → node_at nodes i ≡ Some n → sum_by f (filter (λ x. not (same_id i x.id)) nodes) + f n ≡ sum_by f nodes
  sum-dropped i n [] rising found = absurd cc
  sum-dropped i n (x ∷ xs) rising found = at (same_id i x.id) refl found (sum-dropped i n xs rising.1)
    where
      at : (b : Bool) → same_id i x.id ≡ b → cond b (Some x) (node_at xs i) ≡ Some n → (node_at xs i ≡ Some n → sum_by f (filter (λ x. not (same_id i x.id)) xs) + f n ≡ sum_by f xs) → sum_by f (cond (not b) (x ∷ filter (λ x. not (same_id i x.id)) xs) (filter (λ x. not (same_id i x.id)) xs)) + f n ≡ sum_by f (x ∷ xs)
      at true same e rest = let is : x ≡ n = cc in rw (sum_by-cons f x xs, sum-others i xs (apart x i same xs rising.0), is) (omega arith)
      at false same e rest = let less : sum_by f (filter (λ x. not (same_id i x.id)) xs) + f n ≡ sum_by f xs = rest e in rw (sum_by-cons f x (filter (λ x. not (same_id i x.id)) xs), sum_by-cons f x xs) (omega arith)

  pub sum-updated : (g : Node → Node) (i : Id) (n : Node) (nodes : List Node) → node_at nodes i ≡ Some n → sum_by f (updated (λ x. same_id i x.id) g nodes) + f n ≡ sum_by f nodes + f (g n)
  sum-updated g i n [] found = absurd cc
  sum-updated g i n (x ∷ xs) found = at (same_id i x.id) found (sum-updated g i n xs)
    where
      at : (b : Bool) → cond b (Some x) (node_at xs i) ≡ Some n → (node_at xs i ≡ Some n → sum_by f (updated (λ x. same_id i x.id) g xs) + f n ≡ sum_by f xs + f (g n)) → sum_by f (cond b (g x ∷ xs) (x ∷ updated (λ x. same_id i x.id) g xs)) + f n ≡ sum_by f (x ∷ xs) + f (g n)
      at true e rest = let is : x ≡ n = cc in rw (sum_by-cons f (g x) xs, sum_by-cons f x xs, is) (omega arith)
      at false e rest = let more : sum_by f (updated (λ x. same_id i x.id) g xs) + f n ≡ sum_by f xs + f (g n) = rest e in rw (sum_by-cons f x (updated (λ x. same_id i x.id) g xs), sum_by-cons f x xs) (omega arith)

  -- where the change doesn't show
  pub sum-updated_alike : (g : Node → Node) (i : Id) (nodes : List Node) → ((x : Node) → f (g x) ≡ f x) → sum_by f (updated (λ x. same_id i x.id) g nodes) ≡ sum_by f nodes
  sum-updated_alike g i [] alike = refl
  sum-updated_alike g i (x ∷ xs) alike = at (same_id i x.id) (sum-updated_alike g i xs alike)
    where
      at : (b : Bool) → sum_by f (updated (λ x. same_id i x.id) g xs) ≡ sum_by f xs → sum_by f (cond b (g x ∷ xs) (x ∷ updated (λ x. same_id i x.id) g xs)) ≡ sum_by f (x ∷ xs)
      at true rest = rw (sum_by-cons f (g x) xs, sum_by-cons f x xs, alike x) refl
      at false rest = rw (sum_by-cons f x (updated (λ x. same_id i x.id) g xs), sum_by-cons f x xs, rest) refl

  pub sum-held : (i : Id) (n : Node) (nodes : List Node) → node_at nodes i ≡ Some n → f n ≤ sum_by f nodes
  sum-held i n [] found = absurd cc
  sum-held i n (x ∷ xs) found = at (same_id i x.id) found (sum-held i n xs)
    where
      at : (b : Bool) → cond b (Some x) (node_at xs i) ≡ Some n → (node_at xs i ≡ Some n → f n ≤ sum_by f xs) → f n ≤ sum_by f (x ∷ xs)
      at true e rest = let is : x ≡ n = cc in rw (sum_by-cons f x xs, is) (omega arith)
      at false e rest = let below : f n ≤ sum_by f xs = rest e in rw (sum_by-cons f x xs) (omega arith)
