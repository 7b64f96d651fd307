-- A run of entries that lie beside each other in a map, as the opens of a node that are of one level.
use Rattle.std.proofs.Common.{◌≡◌, ℕ, Bool, true, false, cond, ◌&&◌, ◌||◌, List, [], ◌∷◌, refl, sym, ap, ◌∙◌, arith}
use Rattle.std.specs.Prelude.{◌==◌, filter}
use Rattle.std.specs.Ordering.{is_le, nat_cmp, ordering_then}
use Rattle.std.specs.declared.cmp.Ordering.{Ordering}
use Rattle.std.specs.declared.cmp.Ordering.TheVariants.{Less}
use Rattle.std.specs.declared.ops.Bound.TheVariants.{Included, Unbounded}
use Rattle.std.specs.BTreeMap.Range.{entries_between}
use Rattle.std.specs.List.{AllByRecursion, list_any}
use Rattle.std.specs.List.Sorted.{IsStrictlySortedBy}
use Rattle.std.specs.Map.{keys_of}
use Rattle.std.proofs.lemmas.Map.Keys.{sorted_head, sorted_tail}
use Rattle.std.proofs.lemmas.Bool.Decides.{nat_tests}
use Rattle.lnfs_world.specs.World.{Id, id_order, same_id}
use Rattle.lnfs_open.specs.declared.groups.Member.{Member}
use Rattle.lnfs_open.specs.declared.tallies.Layer.{Layer}
use Rattle.lnfs_open.specs.declared.keys.Key.{Key}
use Rattle.lnfs_open.specs.Listed.{id_of}
use Rattle.lnfs_open.specs.Groups.{place_cmp}
use Rattle.lnfs_open.specs.Tallies.{layer_cmp}

-- the first entries, up to one outside
abbrev pub run : {K V : Type 0} → (within : K → Bool) → List (K × V) → List (K × V)
run within [] = []
run within (e ∷ es) = cond (within e.0) (e ∷ run within es) []

module _ {K V : Type 0} (cmp : K → K → Ordering) (first : K) (within : K → Bool) (from : (k : K) → within k ≡ true → is_le (cmp first k) ≡ true) (past : (a b : K) → is_le (cmp first a) ≡ true → within a ≡ false → cmp a b ≡ Less → within b ≡ false) where
  none_past : (a : K) → is_le (cmp first a) ≡ true → within a ≡ false → (es : List (K × V)) → AllByRecursion (λ k. cmp a k ≡ Less) (keys_of es) → filter (λ e. within e.0) es ≡ []
  none_past a after out [] all = refl
  none_past a after out (e ∷ es) all = let apart = past a e.0 after out all.0 in rw apart (none_past a after out es all.1)

  pub of_run : (es : List (K × V)) → IsStrictlySortedBy cmp (keys_of es) → run within (entries_between cmp (Included first) Unbounded es) ≡ filter (λ e. within e.0) es
  of_run [] sorted = refl
  of_run (e ∷ es) sorted = by (is_le (cmp first e.0)) (within e.0) refl refl (of_run es (sorted_tail cmp e.0 (keys_of es) sorted))
    where
      by : (after inside : Bool) → is_le (cmp first e.0) ≡ after → within e.0 ≡ inside → run within (entries_between cmp (Included first) Unbounded es) ≡ filter (λ q. within q.0) es → run within (entries_between cmp (Included first) Unbounded (e ∷ es)) ≡ filter (λ q. within q.0) (e ∷ es)
      by true true after inside rest = rw (after, inside) (ap (λ r. e ∷ r) rest)
      by true false after inside rest = rw (after, inside) (sym (none_past e.0 after inside es (sorted_head cmp e.0 (keys_of es) sorted)))
      by false true after inside rest = absurd (let yes = from e.0 inside in cc)
      by false false after inside rest = rw (after, inside) rest

-- ---- the opens of a node that are of one level

abbrev pub is_member : (node : Key) → (level : ℕ) → Member → Bool
is_member node level m = same_id (id_of node) (id_of m.group) && m.id.level == level

members_from : (g h : Id) (l : ℕ) (i : Id) → (same_id g h && i.level == l) ≡ true → is_le (ordering_then (id_order g h) (id_order (record { level = l; number = 0 }) i)) ≡ true
members_from g h l i is = grind (arith, nat_tests)

members_past : (g h k : Id) (l : ℕ) (i j : Id) → is_le (ordering_then (id_order g h) (id_order (record { level = l; number = 0 }) i)) ≡ true → (same_id g h && i.level == l) ≡ false → ordering_then (id_order h k) (id_order i j) ≡ Less → (same_id g k && j.level == l) ≡ false
members_past g h k l i j after out less = grind (arith, nat_tests)

pub members_run : (node : Key) (level : ℕ) (es : List (Member × Unit {0})) → IsStrictlySortedBy place_cmp (keys_of es) → run (is_member node level) (entries_between place_cmp (Included (record { group = node; id = record { level = level; number = 0 } })) Unbounded es) ≡ filter (λ e. is_member node level e.0) es
members_run node level = of_run place_cmp (record { group = node; id = record { level = level; number = 0 } }) (is_member node level)
    (λ m is. members_from (id_of node) (id_of m.group) level (id_of m.id) is)
    (λ a b after out less. members_past (id_of node) (id_of a.group) (id_of b.group) level (id_of a.id) (id_of b.id) after out less)

-- ---- the levels of a node

abbrev pub is_of_node : (node : Key) → Layer → Bool
is_of_node node y = same_id (id_of node) (id_of y.node)

layers_from : (g h : Id) (l : ℕ) → same_id g h ≡ true → is_le (ordering_then (id_order g h) (nat_cmp 0 l)) ≡ true
layers_from g h l is = grind (arith, nat_tests)

layers_past : (g h k : Id) (l m : ℕ) → is_le (ordering_then (id_order g h) (nat_cmp 0 l)) ≡ true → same_id g h ≡ false → ordering_then (id_order h k) (nat_cmp l m) ≡ Less → same_id g k ≡ false
layers_past g h k l m after out less = grind (arith, nat_tests)

pub layers_run : {V : Type 0} (node : Key) (es : List (Layer × V)) → IsStrictlySortedBy layer_cmp (keys_of es) → run (is_of_node node) (entries_between layer_cmp (Included (record { node = node; level = 0 })) Unbounded es) ≡ filter (λ e. is_of_node node e.0) es
layers_run node = of_run layer_cmp (record { node = node; level = 0 }) (is_of_node node)
    (λ y is. layers_from (id_of node) (id_of y.node) y.level is)
    (λ a b after out less. layers_past (id_of node) (id_of a.node) (id_of b.node) a.level b.level after out less)

-- ---- a walk of a run

module _ {K V : Type 0} (within : K → Bool) (test : K × V → Bool) (e : K × V) (es all : List (K × V)) (there : all ≡ e ∷ es) (inside : within e.0 ≡ true) (told : Bool) (so_far : list_any test (run within all) ≡ told) where
  at_entry : (test e || list_any test (run within es)) ≡ told
  at_entry = ap (λ b. list_any test (cond b (e ∷ run within es) [])) (sym inside) ∙ ap (λ xs. list_any test (run within xs)) (sym there) ∙ so_far

  -- past an entry that fails
  pub walk_on : test e ≡ false → list_any test (run within es) ≡ told
  walk_on fails = ap (λ b. b || list_any test (run within es)) (sym fails) ∙ at_entry

  -- at one that passes
  pub walk_ends : test e ≡ true → true ≡ told
  walk_ends passes = ap (λ b. b || list_any test (run within es)) (sym passes) ∙ at_entry

module _ {K V : Type 0} (within : K → Bool) (test : K × V → Bool) (all : List (K × V)) (told : Bool) (so_far : list_any test (run within all) ≡ told) where
  -- where it comes out of the run
  pub walk_out : (e : K × V) (es : List (K × V)) → all ≡ e ∷ es → within e.0 ≡ false → false ≡ told
  walk_out e es there outside =
      sym (ap (λ b. list_any test (cond b (e ∷ run within es) [])) outside)
      ∙ ap (λ xs. list_any test (run within xs)) (sym there)
      ∙ so_far

  -- at the end of the entries
  pub walk_done : all ≡ [] → false ≡ told
  walk_done empty = sym (ap (λ xs. list_any test (run within xs)) empty) ∙ so_far

-- a test of those that another leaves
pub any_filtered : {X : Type 0} (p t : X → Bool) (es : List X) → list_any t (filter p es) ≡ list_any (λ e. p e && t e) es
any_filtered p t [] = refl
any_filtered p t (e ∷ es) = by (p e) refl (any_filtered p t es)
  where
    by : (b : Bool) → p e ≡ b → list_any t (filter p es) ≡ list_any (λ q. p q && t q) es → list_any t (filter p (e ∷ es)) ≡ list_any (λ q. p q && t q) (e ∷ es)
    by true is rest = grind (arith, is, rest)
    by false is rest = grind (arith, is, rest)
