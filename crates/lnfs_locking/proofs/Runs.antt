-- The places of a group, which lie beside each other in a map.
use Rattle.std.proofs.Common.{◌≡◌, Bool, true, false, cond, ◌&&◌, List, [], ◌∷◌, refl, sym, ap, ◌∙◌, arith}
use Rattle.std.specs.Prelude.{filter}
use Rattle.std.specs.Ordering.{is_le, ordering_then}
use Rattle.std.specs.declared.cmp.Ordering.{Ordering}
use Rattle.std.specs.declared.cmp.Ordering.TheVariants.{Less, Equal, Greater}
use Rattle.std.specs.declared.ops.Bound.TheVariants.{Included, Unbounded}
use Rattle.std.specs.BTreeMap.Range.{entries_between}
use Rattle.std.specs.List.{AllByRecursion, list_any}
use Rattle.std.specs.List.Sorted.{IsStrictlySortedBy}
use Rattle.std.specs.Map.{keys_of}
use Rattle.std.proofs.lemmas.Map.Keys.{sorted_head, sorted_tail}
use Rattle.std.proofs.lemmas.Bool.Decides.{nat_tests}
use Rattle.lnfs_world.specs.World.{Id, id_order, same_id}
use Rattle.lnfs_locking.specs.declared.groups.Place.{Place}
use Rattle.lnfs_locking.specs.declared.keys.Key.{Key}
use Rattle.lnfs_locking.specs.Keys.{id_of}
use Rattle.lnfs_locking.specs.Groups.{place_cmp}
use Rattle.lnfs_locking.proofs.Places.{front}

abbrev pub Places : Type 0
Places = List (Place × Unit {0})

-- the first places, up to one of another group
abbrev pub group_run : Key → Places → Places
group_run group [] = []
group_run group (e ∷ es) = cond (same_id (id_of group) (id_of e.0.group)) (e ∷ group_run group es) []

then_le : (o p : Ordering) → is_le p ≡ true → is_le (ordering_then o p) ≡ is_le o
then_le Less p e = refl
then_le Equal p e = e
then_le Greater p e = refl

ids_from : (i : Id) → is_le (id_order (record { level = 0; number = 0 }) i) ≡ true
ids_from i = grind (arith, nat_tests)

from_group : (group : Key) (p : Place) → is_le (place_cmp (front group) p) ≡ is_le (id_order (id_of group) (id_of p.group))
from_group group p = then_le (id_order (id_of group) (id_of p.group)) _ (ids_from (id_of p.id))

then_rise : (o p : Ordering) → ordering_then o p ≡ Less → is_le o ≡ true
then_rise Less p e = refl
then_rise Equal p e = refl
then_rise Greater p e = absurd (cc)

-- past another group that comes later
ids_above : (g a b : Id) → is_le (id_order g a) ≡ true → same_id g a ≡ false → is_le (id_order a b) ≡ true → same_id g b ≡ false
ids_above g a b x y z = grind (arith, nat_tests)

ids_below : (g a : Id) → is_le (id_order g a) ≡ false → same_id g a ≡ false
ids_below g a x = grind (arith, nat_tests)

module _ (group : Key) where
  none_above : (p : Place) → is_le (id_order (id_of group) (id_of p.group)) ≡ true → same_id (id_of group) (id_of p.group) ≡ false → (es : Places) → AllByRecursion (λ q. place_cmp p q ≡ Less) (keys_of es) → filter (λ e. same_id (id_of group) (id_of e.0.group)) es ≡ []
  none_above p from other [] all = refl
  none_above p from other (e ∷ es) all =
      let apart = ids_above (id_of group) (id_of p.group) (id_of e.0.group) from other (then_rise _ _ all.0) in
      rw apart (none_above p from other es all.1)

  pub of_group : (es : Places) → IsStrictlySortedBy place_cmp (keys_of es) → group_run group (entries_between place_cmp (Included (front group)) Unbounded es) ≡ filter (λ e. same_id (id_of group) (id_of e.0.group)) es
  of_group [] sorted = refl
  of_group (e ∷ es) sorted = by (is_le (id_order (id_of group) (id_of e.0.group))) (same_id (id_of group) (id_of e.0.group)) refl refl (of_group es (sorted_tail place_cmp e.0 (keys_of es) sorted))
    where
      by : (from same : Bool) → is_le (id_order (id_of group) (id_of e.0.group)) ≡ from → same_id (id_of group) (id_of e.0.group) ≡ same → group_run group (entries_between place_cmp (Included (front group)) Unbounded es) ≡ filter (λ q. same_id (id_of group) (id_of q.0.group)) es → group_run group (entries_between place_cmp (Included (front group)) Unbounded (e ∷ es)) ≡ filter (λ q. same_id (id_of group) (id_of q.0.group)) (e ∷ es)
      by true true from same rest = let yes = from_group group e.0 ∙ from in rw (yes, same) (ap (λ r. e ∷ r) rest)
      by true false from same rest = let yes = from_group group e.0 ∙ from in rw (yes, same) (sym (none_above e.0 from same es (sorted_head place_cmp e.0 (keys_of es) sorted)))
      by false true from same rest = absurd (let apart = ids_below (id_of group) (id_of e.0.group) from in cc)
      by false false from same rest = let no = from_group group e.0 ∙ from in rw (no, same) rest

-- a test of those that another leaves
pub any_filtered : (p t : Place × Unit {0} → Bool) (es : Places) → list_any t (filter p es) ≡ list_any (λ e. p e && t e) es
any_filtered p t [] = refl
any_filtered p t (e ∷ es) = by (p e) refl (any_filtered p t es)
  where
    by : (b : Bool) → p e ≡ b → list_any t (filter p es) ≡ list_any (λ q. p q && t q) es → list_any t (filter p (e ∷ es)) ≡ list_any (λ q. p q && t q) (e ∷ es)
    by true is rest = grind (arith, is, rest)
    by false is rest = grind (arith, is, rest)
