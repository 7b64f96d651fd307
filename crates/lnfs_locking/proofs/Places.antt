-- The keys of the ordered maps, in the order of the identifiers that they name.
use Rattle.std.proofs.Common.{◌≡◌, Bool, true, false, cond, ◌&&◌, ◌||◌, not, Option, Some, None, refl, ◌∙◌, arith}
use Rattle.std.specs.Prelude.{is_some}
use Rattle.std.specs.Ordering.{is_eq, is_gt, ordering_then}
use Rattle.std.specs.declared.cmp.Ordering.{Ordering}
use Rattle.std.specs.declared.cmp.Ordering.TheVariants.{Less, Equal, Greater}
use Rattle.std.proofs.lemmas.Bool.Decides.{nat_tests}
use Rattle.lnfs_world.specs.World.{Id, id_order, same_id}
use Rattle.lnfs_counts.proofs.Entries.{ids_same}
use Rattle.lnfs_locking.specs.declared.groups.Place.{Place}
use Rattle.lnfs_locking.specs.declared.keys.Key.{Key}
use Rattle.lnfs_locking.specs.Keys.{id_of}
use Rattle.lnfs_locking.specs.Groups.{place_cmp, place_of}

then_same : (o p : Ordering) → is_eq (ordering_then o p) ≡ (is_eq o && is_eq p)
then_same Less p = refl
then_same Equal p = refl
then_same Greater p = refl

pub place_same : (g i h j : Id) → is_eq (place_cmp (place_of g i) (place_of h j)) ≡ (same_id g h && same_id i j)
place_same g i h j = then_same (id_order g h) (id_order i j) ∙ (λ t. ids_same g h t && ids_same i j t)

pub some_set : {X : Type 0} (x : X) (b : Bool) (o : Option X) → is_some (cond b (Some x) o) ≡ (b || is_some o)
some_set x true o = refl
some_set x false o = refl

pub some_left : {X : Type 0} (b : Bool) (o : Option X) → is_some (cond b None o) ≡ (not b && is_some o)
some_left true o = refl
some_left false o = refl

-- ---- the run of a group

abbrev pub front : Key → Place
front group = record { group = group; id = record { level = 0; number = 0 } }

ids_from : (i : Id) → is_gt (id_order (record { level = 0; number = 0 }) i) ≡ false
ids_from i = grind (arith, nat_tests)

then_from : (o p : Ordering) → o ≡ Equal → is_gt p ≡ false → is_gt (ordering_then o p) ≡ false
then_from Less p e le = absurd (cc)
then_from Equal p e le = le
then_from Greater p e le = absurd (cc)

then_le : (o p : Ordering) → is_gt (ordering_then o p) ≡ false → is_gt o ≡ false
then_le Less p le = refl
then_le Equal p le = refl
then_le Greater p le = le

pub from_front : (group : Key) (i : Id) → is_gt (place_cmp (front group) (place_of (id_of group) i)) ≡ false
from_front group i = then_from (id_order (id_of group) (id_of group)) _ (grind (arith, nat_tests)) (ids_from i)

ids_between : (a b : Id) → is_gt (id_order a b) ≡ false → is_gt (id_order b a) ≡ false → same_id b a ≡ true
ids_between a b x y = grind (arith, nat_tests)

-- what lies between the front of a group and a place of it is of the group
pub between : (group : Key) (i : Id) (p : Place) → is_gt (place_cmp (front group) p) ≡ false → is_gt (place_cmp p (place_of (id_of group) i)) ≡ false → same_id (id_of p.group) (id_of group) ≡ true
between group i p x y = ids_between (id_of group) (id_of p.group) (then_le _ _ x) (then_le _ _ y)
