-- The way up from a directory, whatever the parents; and names after a change of the entries.
use Rattle.std.proofs.Common.{◌≡◌, ℕ, zero, suc, ◌+◌, ◌≤◌, Bool, true, false, not, ◌&&◌, List, [], ◌∷◌, Option, Some, None, refl, sym, ◌∙◌, ap, subst, arith}
use Rattle.std.specs.Prelude.{filter, length}
use Rattle.std.specs.Option.{option_map}
use Rattle.std.specs.List.{list_any}
use Rattle.std.proofs.lemmas.Bool.Decides.{nat_tests}
use Rattle.lnfs_world.specs.World.{Id}
use Rattle.lnfs_world.specs.World.{Entry}
use Rattle.lnfs_world.specs.World.{same_id}
use Rattle.lnfs_world.specs.Tree.{same_entry}
use Rattle.lnfs_world.specs.Tree.{root, has_name, name_of, parent_of, way_up, LeadsTo, is_above}
use Rattle.lnfs_world.proofs.Rows.{any_filter, all_anyway}
use Rattle.lnfs_world.proofs.Keys.{id_same, id_itself}

fewer : (q : Entry → Bool) (es : List Entry) → length (filter q es) ≤ length es
fewer q [] = omega arith
fewer q (e ∷ es) = grind (arith, fewer q es)

-- names after a change of the entries
pub name_of-without : (entry : Entry) (es : List Entry) (i : Id) → same_id i entry.node ≡ false → name_of (filter (λ e. not (same_entry entry e)) es) i ≡ name_of es i
name_of-without entry [] i other = refl
name_of-without entry (x ∷ es) i other = grind (arith, nat_tests, name_of-without entry es i, id_same i x.node, id_same entry.node x.node)

pub none_named : (es : List Entry) (i : Id) → has_name es i ≡ false → name_of es i ≡ None
none_named [] i none = refl
none_named (x ∷ es) i none = grind (arith, none_named es i)

pub no_parent : (es : List Entry) (i : Id) → has_name es i ≡ false → parent_of es i ≡ None
no_parent es i none = ap (option_map (λ e. e.directory)) (none_named es i none)

pub differs : (b : Bool) (t : Bool) → b ≡ t → (t ≡ true → ⊥) → b ≡ false
differs b true e no_one = absurd (no_one refl)
differs b false e no_one = e

module _ (up : Id → Option Id) where
  -- a way goes on
  pub way_on : (j k : ℕ) (i d t : Id) → way_up up j i ≡ Some d → way_up up k d ≡ Some t → way_up up (j + k) i ≡ Some t
  way_on zero k i d t first then = grind arith
  way_on (suc j) k i d t first then =
      let e : suc (j + k) ≡ suc j + k = omega arith in
      subst (λ n. way_up up n i ≡ Some t) e (grind (arith, way_on j k))

  -- a walk finds what is so many steps up, and nothing else
  pub walk_finds : (fuel steps : ℕ) (top i : Id) → steps ≤ fuel → way_up up steps i ≡ Some top → is_above fuel up top i ≡ true
  walk_finds zero zero top i enough way = grind (arith, id_itself top)
  walk_finds zero (suc steps) top i enough way = grind arith
  walk_finds (suc fuel) zero top i enough way = grind (arith, id_itself top)
  walk_finds (suc fuel) (suc steps) top i enough way = grind (arith, walk_finds fuel steps top)

  pub walk_found : (fuel : ℕ) (top i : Id) → is_above fuel up top i ≡ true → LeadsTo up i top
  walk_found zero top i found = (zero, ap Some (sym (id_same top i found)))
  walk_found (suc fuel) top i found = by_test (same_id top i) refl (up i) refl (λ d. walk_found fuel top d)
    where
      by_test : (b : Bool) → same_id top i ≡ b → (o : Option Id) → up i ≡ o → ((d : Id) → is_above fuel up top d ≡ true → LeadsTo up d top) → LeadsTo up i top
      by_test true is o next_is next = (zero, ap Some (sym (id_same top i is)))
      by_test false is None next_is next = absurd (grind arith)
      by_test false is (Some d) next_is next = let rest = next d (grind arith) in (suc rest.0, grind (arith, rest.1))

  module _ (free : up root ≡ None) where
    -- a way to the root has one length
    pub one_way : (j k : ℕ) (i : Id) → way_up up j i ≡ Some root → way_up up k i ≡ Some root → j ≡ k
    one_way zero zero i a b = refl
    one_way zero (suc k) i a b = grind (arith, free)
    one_way (suc j) zero i a b = grind (arith, free)
    one_way (suc j) (suc k) i a b = grind (arith, one_way j k)

    -- nothing lies above the root
    pub way_within : (j k : ℕ) (i d : Id) → way_up up j i ≡ Some d → way_up up k i ≡ Some root → j ≤ k
    way_within zero k i d way ends = omega arith
    way_within (suc j) zero i d way ends = grind (arith, free)
    way_within (suc j) (suc k) i d way ends = grind (arith, way_within j k)

    -- no way up turns back
    pub no_turn : (j k : ℕ) (i : Id) → way_up up k i ≡ Some root → way_up up (suc j) i ≡ Some i → suc j + k ≡ k
    no_turn j k i ends turns = one_way (suc j + k) k i (way_on (suc j) k i i root turns ends) ends

-- rows that have a handle for their key
module _ {X : Type 0} (key : X → Id) (q : X → Bool) where
  -- whether a row of this key is there, and passes a test
  abbrev pub is_among : List X → Id → Bool
  is_among xs d = list_any (λ x. same_id d (key x) && q x) xs

  fewer_without : (d : Id) (xs : List X) → length (filter q (filter (λ x. not (same_id d (key x))) xs)) ≤ length (filter q xs)
  fewer_without d [] = omega arith
  fewer_without d (x ∷ xs) = grind (arith, fewer_without d xs)

  -- a row that is taken away counts for one
  one_without : (d : Id) (xs : List X) → is_among xs d ≡ true → suc (length (filter q (filter (λ x. not (same_id d (key x))) xs))) ≤ length (filter q xs)
  one_without d [] among = grind arith
  one_without d (x ∷ xs) among = grind (arith, fewer_without d xs, one_without d xs)

  -- a way has no more steps than there are rows that pass, where each step leaves the key of one: it leaves it for good
  pub way_short : (up : Id → Option Id) → up root ≡ None → (k : ℕ) (xs : List X) (i : Id) → way_up up k i ≡ Some root → ((j : ℕ) (d p : Id) → way_up up j i ≡ Some d → up d ≡ Some p → is_among xs d ≡ true) → k ≤ length (filter q xs)
  way_short up free zero xs i ends through = omega arith
  way_short up free (suc k) xs i ends through = at (up i) refl (λ p. way_short up free k (filter (λ x. not (same_id i (key x))) xs) p)
    where
      at : (o : Option Id) → up i ≡ o → ((p : Id) → way_up up k p ≡ Some root → ((j : ℕ) (d x : Id) → way_up up j p ≡ Some d → up d ≡ Some x → is_among (filter (λ x. not (same_id i (key x))) xs) d ≡ true) → k ≤ length (filter q (filter (λ x. not (same_id i (key x))) xs))) → suc k ≤ length (filter q xs)
      at None is shorter = absurd (grind arith)
      at (Some p) is shorter =
          let next : (j : ℕ) (d : Id) → way_up up j p ≡ Some d → way_up up (suc j) i ≡ Some d = λ j d way. grind arith in
          let left : (j : ℕ) (d : Id) → way_up up j p ≡ Some d → same_id i d ≡ false = λ j d way. differs (same_id i d) (same_id i d) refl (λ same. omega (arith, no_turn up free j (suc k) i ends (next j d way ∙ ap Some (sym (id_same i d same))))) in
          let rest = shorter p (grind arith) (λ j d y way further. any_filter _ _ xs (all_anyway _ (λ x. grind (arith, nat_tests, left j d way, id_same d (key x))) xs) (through (suc j) d y (next j d way) further)) in
          omega (arith, rest, one_without i xs (through zero i p refl is))
