-- What is told of a node, after a change and through what is seen.
use Rattle.std.proofs.Common.{◌≡◌, ℕ, Bool, true, false, cond, not, ◌&&◌, List, [], ◌∷◌, Option, Some, None, refl, ◌∙◌, ap, arith}
use Rattle.std.specs.Prelude.{filter}
use Rattle.std.specs.Option.{option_map}
use Rattle.std.proofs.lemmas.Bool.Decides.{nat_tests}
use Rattle.lnfs_world.specs.Rows.{inserted, kept}
use Rattle.lnfs_world.specs.World.{Id, Inner, Node, node_order, same_id, node_at, label_at, directory_at}
use Rattle.lnfs_world.specs.Erased.{dominates_label, sees, shrunk, outer_of}
use Rattle.lnfs_world.specs.Change.{touched, relabelled}
use Rattle.lnfs_world.specs.Facts.{cookies_at}
use Rattle.lnfs_world.proofs.Keys.{id_equal, id_tie, level_same}
use Rattle.lnfs_world.proofs.Sorted.{find-inserted}
use Rattle.lnfs_world.proofs.Rows.{find-kept}

-- whatever is told of a node
module _ {X : Type 0} (f : Node → X) where
  pub told-touched : (i : Id) (inner : Inner) → ((n : Node) → f (record n { inner = inner }) ≡ f n) → (d : Id) (nodes : List Node) → option_map f (node_at (touched i inner nodes) d) ≡ option_map f (node_at nodes d)
  told-touched i inner same d [] = refl
  told-touched i inner same d (n ∷ nodes) = grind (arith, told-touched i inner same d nodes, same n)

  pub told-made : (n : Node) (d : Id) (nodes : List Node) → option_map f (node_at (inserted node_order n nodes) d) ≡ cond (same_id d n.id) (Some (f n)) (option_map f (node_at nodes d))
  told-made n d nodes = ap (option_map f) (find-inserted node_order (λ x. same_id d x.id) n (λ x e. grind (arith, nat_tests, id_equal n.id x.id e)) (λ x h k. id_tie n.id x.id (grind (arith, nat_tests))) nodes) ∙ at (same_id d n.id)
    where
      at : (b : Bool) → option_map f (cond b (Some n) (node_at nodes d)) ≡ cond b (Some (f n)) (option_map f (node_at nodes d))
      at true = refl
      at false = refl

  pub told-dropped : (i d : Id) (nodes : List Node) → option_map f (node_at (filter (λ n. not (same_id i n.id)) nodes) d) ≡ cond (same_id d i) None (option_map f (node_at nodes d))
  told-dropped i d [] = grind arith
  told-dropped i d (n ∷ nodes) = grind (arith, nat_tests, told-dropped i d nodes)

pub label_at-touched : (i : Id) (inner : Inner) (d : Id) (nodes : List Node) → label_at (touched i inner nodes) d ≡ label_at nodes d
label_at-touched i inner d nodes = told-touched (λ n. n.label) i inner (λ n. refl) d nodes

pub label_at-made : (n : Node) (d : Id) (nodes : List Node) → label_at (inserted node_order n nodes) d ≡ cond (same_id d n.id) (Some n.label) (label_at nodes d)
label_at-made n d nodes = told-made (λ n. n.label) n d nodes

pub label_at-dropped : (i d : Id) (nodes : List Node) → label_at (filter (λ n. not (same_id i n.id)) nodes) d ≡ cond (same_id d i) None (label_at nodes d)
label_at-dropped i d nodes = told-dropped (λ n. n.label) i d nodes

pub label_at-relabelled : (i : Id) (label : ℕ) (inner : Inner) (d : Id) (nodes : List Node) → label_at (relabelled i label inner nodes) d ≡ cond (same_id d i) (option_map (λ _. label) (label_at nodes d)) (label_at nodes d)
label_at-relabelled i label inner d [] = grind arith
label_at-relabelled i label inner d (n ∷ nodes) = grind (arith, nat_tests, label_at-relabelled i label inner d nodes)

pub directory_at-relabelled : (i : Id) (label : ℕ) (inner : Inner) (d : Id) (nodes : List Node) → directory_at (relabelled i label inner nodes) d ≡ directory_at nodes d
directory_at-relabelled i label inner d [] = refl
directory_at-relabelled i label inner d (n ∷ nodes) = grind (arith, directory_at-relabelled i label inner d nodes)

pub cookies_at-touched : (i : Id) (inner : Inner) (d : Id) (nodes : List Node) → cookies_at (touched i inner nodes) d ≡ cond (same_id d i) (option_map (λ _. inner.cookies) (cookies_at nodes d)) (cookies_at nodes d)
cookies_at-touched i inner d [] = grind arith
cookies_at-touched i inner d (n ∷ nodes) = grind (arith, nat_tests, cookies_at-touched i inner d nodes)

pub cookies_at-relabelled : (i : Id) (label : ℕ) (inner : Inner) (d : Id) (nodes : List Node) → same_id d i ≡ false → cookies_at (relabelled i label inner nodes) d ≡ cookies_at nodes d
cookies_at-relabelled i label inner d [] apart = refl
cookies_at-relabelled i label inner d (n ∷ nodes) apart = grind (arith, nat_tests, cookies_at-relabelled i label inner d nodes)

-- no label: nothing is there
pub nothing_told : {X : Type 0} (f : Node → X) (i : Id) (nodes : List Node) → label_at nodes i ≡ None → option_map f (node_at nodes i) ≡ None
nothing_told f i nodes none = at (node_at nodes i) none
  where
    at : (o : Option Node) → option_map (λ n. n.label) o ≡ None → option_map f o ≡ None
    at None e = refl
    at (Some n) e = cc

module _ (dom : ℕ → ℕ → Bool) where
  abbrev pub nodes_seen : ℕ → List Node → List Node
  nodes_seen level nodes = kept (λ n. dom level n.id.level) (shrunk dom level) nodes

  pub shrunk_twice : (level : ℕ) (n : Node) → shrunk dom level (shrunk dom level n) ≡ shrunk dom level n
  shrunk_twice level n = grind arith

  pub node_at-seen : (level : ℕ) (i : Id) (nodes : List Node) → dom level i.level ≡ true → node_at (nodes_seen level nodes) i ≡ option_map (shrunk dom level) (node_at nodes i)
  node_at-seen level i nodes h = find-kept _ _ (λ n. same_id i n.id) (λ n e. level_same dom level i n.id e ∙ h) (λ n. refl) nodes

  label-shrunk : (level : ℕ) (o : Option Node) → option_map (λ n. n.label) (option_map (shrunk dom level) o) ≡ option_map (λ n. n.label) o
  label-shrunk level None = refl
  label-shrunk level (Some n) = refl

  -- what is outside of a node's label isn't blanked
  pub outer-shrunk : (level : ℕ) (o : Option Node) → option_map outer_of (option_map (shrunk dom level) o) ≡ option_map outer_of o
  outer-shrunk level None = refl
  outer-shrunk level (Some n) = refl

  pub label_at-seen : (level : ℕ) (i : Id) (nodes : List Node) → dom level i.level ≡ true → label_at (nodes_seen level nodes) i ≡ label_at nodes i
  label_at-seen level i nodes h = ap (option_map (λ n. n.label)) (node_at-seen level i nodes h) ∙ label-shrunk level (node_at nodes i)

  pub sees-seen : (level : ℕ) (i : Id) (nodes : List Node) → sees dom level (nodes_seen level nodes) i ≡ sees dom level nodes i
  sees-seen level i nodes = by_home (dom level i.level) refl
    where
      by_home : (b : Bool) → dom level i.level ≡ b → (b && dominates_label dom level (label_at (nodes_seen level nodes) i)) ≡ (b && dominates_label dom level (label_at nodes i))
      by_home true e = ap (dominates_label dom level) (label_at-seen level i nodes e)
      by_home false e = refl

  -- the node of a label
  pub node_of_label : (i : Id) (label : ℕ) (nodes : List Node) → label_at nodes i ≡ Some label → (n : Node) × (node_at nodes i ≡ Some n) × (n.label ≡ label)
  node_of_label i label nodes e = at (node_at nodes i) refl e
    where
      at : (o : Option Node) → node_at nodes i ≡ o → option_map (λ n. n.label) o ≡ Some label → (n : Node) × (node_at nodes i ≡ Some n) × (n.label ≡ label)
      at None found e = cc
      at (Some n) found e = (n, found, cc)
