-- The locks of a node by their places, and by all locks.
use Rattle.std.proofs.Common.{◌≡◌, Bool, true, false, cond, ◌&&◌, ◌||◌, List, [], ◌∷◌, Option, Some, None, map, refl, sym, ap, ◌∙◌, subst, arith}
use Rattle.std.specs.Prelude.{filter, is_some}
use Rattle.std.specs.Option.{option_or, option_and_then}
use Rattle.std.specs.Ordering.{is_eq, ordering_then}
use Rattle.std.specs.declared.cmp.Ordering.{Ordering}
use Rattle.std.specs.declared.cmp.Ordering.TheVariants.{Less, Equal, Greater}
use Rattle.std.specs.Map.{lookup, keys_of}
use Rattle.std.specs.BTreeMap.{is_at}
use Rattle.std.specs.List.{AllByRecursion, list_any}
use Rattle.std.specs.List.Sorted.{IsStrictlySortedBy}
use Rattle.std.proofs.lemmas.Map.Keys.{sorted_head, sorted_tail}
use Rattle.std.proofs.lemmas.Bool.Decides.{nat_tests}
use Rattle.lnfs_world.specs.Rows.{Rising}
use Rattle.lnfs_world.specs.World.{Id, id_order, same_id}
use Rattle.lnfs_world.proofs.Keys.{id_same, id_itself, id_equal, id_before, id_after, id_tie}
use Rattle.lnfs_counts.specs.Counted.{order_by}
use Rattle.lnfs_counts.proofs.Rows.{gone, each_at}
use Rattle.lnfs_locking.specs.declared.groups.Place.{Place}
use Rattle.lnfs_locking.specs.Keys.{id_of}
use Rattle.lnfs_locking.specs.Groups.{place_cmp, place_of}
use Rattle.lnfs_locks.specs.Locks.{Lock}
use Rattle.lnfs_locking.specs.Rows.{lock_id, lock_at}
use Rattle.lnfs_locking.specs.Indexed.{passes}
use Rattle.lnfs_locks.specs.Denial.{first_of}
use Rattle.lnfs_locking.proofs.Places.{place_same}
use Rattle.lnfs_locking.proofs.Runs.{Places}

-- ---- two lists of identifiers that rise

less_apart : (a b : Id) → id_order a b ≡ Less → same_id a b ≡ false
less_apart a b less = grind (arith, nat_tests)

none_later : (x : Id) (ys : List Id) → AllByRecursion (λ y. id_order x y ≡ Less) ys → list_any (same_id x) ys ≡ false
none_later x [] all = refl
none_later x (y ∷ ys) all = grind (arith, less_apart x y all.0, none_later x ys all.1)

all_later : (x y : Id) (ys : List Id) → id_order x y ≡ Less → AllByRecursion (λ z. id_order y z ≡ Less) ys → AllByRecursion (λ z. id_order x z ≡ Less) ys
all_later x y [] less all = tt
all_later x y (z ∷ ys) less all = (id_before x y z less all.0, all_later x y ys less all.1)

not_first : (x y : Id) (ys : List Id) → id_order x y ≡ Less → AllByRecursion (λ z. id_order y z ≡ Less) ys → list_any (same_id x) (y ∷ ys) ≡ false
not_first x y ys less all = none_later x (y ∷ ys) (less, all_later x y ys less all)

first_there : (x : Id) (xs : List Id) → list_any (same_id x) (x ∷ xs) ≡ true
first_there x xs = ap (λ b. b || list_any (same_id x) xs) (id_itself x)

rest_same : (x i : Id) (xs ys : List Id) → AllByRecursion (λ z. id_order x z ≡ Less) xs → AllByRecursion (λ z. id_order x z ≡ Less) ys →
    list_any (same_id i) (x ∷ xs) ≡ list_any (same_id i) (x ∷ ys) → list_any (same_id i) xs ≡ list_any (same_id i) ys
rest_same x i xs ys lx ly same = by (same_id i x) refl same
  where
    by : (b : Bool) → same_id i x ≡ b → (b || list_any (same_id i) xs) ≡ (b || list_any (same_id i) ys) → list_any (same_id i) xs ≡ list_any (same_id i) ys
    by false is h = h
    by true is h =
        let here = id_same i x is in
        ap (λ j. list_any (same_id j) xs) here ∙ (none_later x xs lx ∙ sym (ap (λ j. list_any (same_id j) ys) here ∙ none_later x ys ly))

-- with the same in both they are one
pub same_rising : (xs ys : List Id) → Rising id_order xs → Rising id_order ys → ((i : Id) → list_any (same_id i) xs ≡ list_any (same_id i) ys) → xs ≡ ys
same_rising [] [] rx ry same = refl
same_rising [] (y ∷ ys) rx ry same = absurd (let h = same y ∙ first_there y ys in cc)
same_rising (x ∷ xs) [] rx ry same = absurd (let h = sym (same x) ∙ first_there x xs in cc)
same_rising (x ∷ xs) (y ∷ ys) rx ry same = by (id_order x y) refl (same_rising xs ys rx.1 ry.1)
  where
    by : (o : Ordering) → id_order x y ≡ o → (((i : Id) → list_any (same_id i) xs ≡ list_any (same_id i) ys) → xs ≡ ys) → x ∷ xs ≡ y ∷ ys
    by Less is rest = absurd (let h = sym (first_there x xs) ∙ (same x ∙ not_first x y ys is ry.0) in cc)
    by Greater is rest = absurd (let h = sym (first_there y ys) ∙ (sym (same y) ∙ not_first y x xs (id_after x y is) rx.0) in cc)
    by Equal is rest =
        let one : y ≡ x = sym (id_same x y (id_equal x y is)) in
        let P : Id → Type 0 = λ z. AllByRecursion (λ w. id_order z w ≡ Less) ys in
        let both = λ (i : Id). same i ∙ ap (λ z. list_any (same_id i) (z ∷ ys)) one in
        ap (λ zs. x ∷ zs) (rest (λ i. rest_same x i xs ys rx.0 (subst P one ry.0) (both i))) ∙ ap (λ z. z ∷ ys) (sym one)

-- ---- the first that is told

pub first_of-map : {X Y Z : Type 0} (h : Y → Option Z) (g : X → Y) (xs : List X) → first_of h (map g xs) ≡ first_of (λ x. h (g x)) xs
first_of-map h g [] = refl
first_of-map h g (x ∷ xs) = ap (option_or (h (g x))) (first_of-map h g xs)

first_within : {Z : Type 0} (h : Id → Option Z) (q : Lock → Bool) (t : Lock → Option Z) (ls : List Lock) → AllByRecursion (λ l. h l.id ≡ t l) ls →
    first_of h (map lock_id (filter q ls)) ≡ first_of (λ l. cond (q l) (t l) None) ls
first_within h q t [] all = refl
first_within h q t (l ∷ ls) all = by (q l) refl (first_within h q t ls all.1)
  where
    by : (b : Bool) → q l ≡ b → first_of h (map lock_id (filter q ls)) ≡ first_of (λ x. cond (q x) (t x) None) ls →
        first_of h (map lock_id (cond b (l ∷ filter q ls) (filter q ls))) ≡ option_or (cond b (t l) None) (first_of (λ x. cond (q x) (t x) None) ls)
    by true is rest = ap (λ o. option_or o (first_of h (map lock_id (filter q ls)))) all.0 ∙ ap (option_or (t l)) rest
    by false is rest = rest

-- ---- which identifiers there are

pub locks_there : (q : Lock → Bool) (i : Id) (ls : List Lock) → Rising (order_by lock_id) ls → list_any (same_id i) (map lock_id (filter q ls)) ≡ passes q (lock_at ls i)
locks_there q i [] rising = refl
locks_there q i (l ∷ ls) rising = by (q l) (same_id i l.id) refl refl (locks_there q i ls rising.1)
  where
    by : (b c : Bool) → q l ≡ b → same_id i l.id ≡ c → list_any (same_id i) (map lock_id (filter q ls)) ≡ passes q (lock_at ls i) →
        list_any (same_id i) (map lock_id (cond b (l ∷ filter q ls) (filter q ls))) ≡ passes q (cond c (Some l) (lock_at ls i))
    by true true is here rest = ap (λ c. c || list_any (same_id i) (map lock_id (filter q ls))) here ∙ sym is
    by true false is here rest = ap (λ c. c || list_any (same_id i) (map lock_id (filter q ls))) here ∙ rest
    by false true is here rest = rest ∙ (ap (passes q) (gone lock_id l i ls rising.0 here) ∙ sym is)
    by false false is here rest = rest

abbrev pub id_at : Place × Unit {0} → Id
id_at e = id_of e.0.id

abbrev pub is_of_group : Id → Place × Unit {0} → Bool
is_of_group node e = same_id node (id_of e.0.group)

one_more_there : (node i : Id) (e : Place × Unit {0}) (es : Places) (b c d : Bool) → same_id i (id_at e) ≡ c → d ≡ (b && c) →
    list_any (same_id i) (map id_at (filter (is_of_group node) es)) ≡ is_some (lookup (is_at (place_cmp (place_of node i))) es) →
    list_any (same_id i) (map id_at (cond b (e ∷ filter (is_of_group node) es) (filter (is_of_group node) es))) ≡ is_some (cond d (Some e.1) (lookup (is_at (place_cmp (place_of node i))) es))
one_more_there node i e es true true d own is rest =
    ap (λ c. c || list_any (same_id i) (map id_at (filter (is_of_group node) es))) own ∙ sym (ap (λ t. is_some (cond t (Some e.1) (lookup (is_at (place_cmp (place_of node i))) es))) is)
one_more_there node i e es true false d own is rest =
    ap (λ c. c || list_any (same_id i) (map id_at (filter (is_of_group node) es))) own ∙ (rest ∙ sym (ap (λ t. is_some (cond t (Some e.1) (lookup (is_at (place_cmp (place_of node i))) es))) is))
one_more_there node i e es false c d own is rest =
    rest ∙ sym (ap (λ t. is_some (cond t (Some e.1) (lookup (is_at (place_cmp (place_of node i))) es))) is)

places_there : (node i : Id) (es : Places) → list_any (same_id i) (map id_at (filter (is_of_group node) es)) ≡ is_some (lookup (is_at (place_cmp (place_of node i))) es)
places_there node i [] = refl
places_there node i (e ∷ es) =
    one_more_there node i e es (is_of_group node e) (same_id i (id_at e)) (is_eq (place_cmp (place_of node i) e.0)) refl (place_same node i (id_of e.0.group) (id_at e)) (places_there node i es)

-- ---- both rise

locks_later : (i : Id) (q : Lock → Bool) (ls : List Lock) → AllByRecursion (λ l. id_order i l.id ≡ Less) ls → AllByRecursion (λ j. id_order i j ≡ Less) (map lock_id (filter q ls))
locks_later i q [] all = tt
locks_later i q (l ∷ ls) all = by (q l) (locks_later i q ls all.1)
  where
    by : (b : Bool) → AllByRecursion (λ j. id_order i j ≡ Less) (map lock_id (filter q ls)) → AllByRecursion (λ j. id_order i j ≡ Less) (map lock_id (cond b (l ∷ filter q ls) (filter q ls)))
    by true rest = (all.0, rest)
    by false rest = rest

locks_rise : (q : Lock → Bool) (ls : List Lock) → Rising (order_by lock_id) ls → Rising id_order (map lock_id (filter q ls))
locks_rise q [] rising = tt
locks_rise q (l ∷ ls) rising = by (q l) (locks_rise q ls rising.1)
  where
    by : (b : Bool) → Rising id_order (map lock_id (filter q ls)) → Rising id_order (map lock_id (cond b (l ∷ filter q ls) (filter q ls)))
    by true rest = (locks_later l.id q ls rising.0, rest)
    by false rest = rest

then_less : (o p : Ordering) → o ≡ Equal → ordering_then o p ≡ Less → p ≡ Less
then_less Less p e h = absurd (cc)
then_less Equal p e h = h
then_less Greater p e h = absurd (cc)

one_group : (node a b : Id) → same_id node a ≡ true → same_id node b ≡ true → id_order a b ≡ Equal
one_group node a b h k = id_tie a b (grind (arith, nat_tests))

places_later : (node : Id) (p : Place) (es : Places) → same_id node (id_of p.group) ≡ true → AllByRecursion (λ q. place_cmp p q ≡ Less) (keys_of es) →
    AllByRecursion (λ j. id_order (id_of p.id) j ≡ Less) (map id_at (filter (is_of_group node) es))
places_later node p [] here all = tt
places_later node p (e ∷ es) here all = by (is_of_group node e) refl (places_later node p es here all.1)
  where
    by : (b : Bool) → is_of_group node e ≡ b → AllByRecursion (λ j. id_order (id_of p.id) j ≡ Less) (map id_at (filter (is_of_group node) es)) →
        AllByRecursion (λ j. id_order (id_of p.id) j ≡ Less) (map id_at (cond b (e ∷ filter (is_of_group node) es) (filter (is_of_group node) es)))
    by true is rest = (then_less (id_order (id_of p.group) (id_of e.0.group)) (id_order (id_of p.id) (id_at e)) (one_group node (id_of p.group) (id_of e.0.group) here is) all.0, rest)
    by false is rest = rest

places_rise : (node : Id) (es : Places) → IsStrictlySortedBy place_cmp (keys_of es) → Rising id_order (map id_at (filter (is_of_group node) es))
places_rise node [] sorted = tt
places_rise node (e ∷ es) sorted = by (is_of_group node e) refl (places_rise node es (sorted_tail place_cmp e.0 (keys_of es) sorted))
  where
    by : (b : Bool) → is_of_group node e ≡ b → Rising id_order (map id_at (filter (is_of_group node) es)) →
        Rising id_order (map id_at (cond b (e ∷ filter (is_of_group node) es) (filter (is_of_group node) es)))
    by true is rest = (places_later node e.0 es is (sorted_head place_cmp e.0 (keys_of es) sorted), rest)
    by false is rest = rest

-- ---- the first of a node's locks

each_told : {Z : Type 0} (all : List Lock) (t : Lock → Option Z) (ls : List Lock) → AllByRecursion (λ l. lock_at all l.id ≡ Some l) ls →
    AllByRecursion (λ l. option_and_then t (lock_at all l.id) ≡ t l) ls
each_told all t [] found = tt
each_told all t (l ∷ ls) found = (ap (option_and_then t) found.0, each_told all t ls found.1)

pub by_places : {Z : Type 0} (node : Id) (t : Lock → Option Z) (ls : List Lock) (es : Places) → Rising (order_by lock_id) ls → IsStrictlySortedBy place_cmp (keys_of es) →
    ((i : Id) → is_some (lookup (is_at (place_cmp (place_of node i))) es) ≡ passes (λ l. same_id node l.node) (lock_at ls i)) →
    first_of (λ e. option_and_then t (lock_at ls (id_at e))) (filter (is_of_group node) es) ≡ first_of (λ l. cond (same_id node l.node) (t l) None) ls
by_places node t ls es rising sorted told =
    let h = λ (i : Id). option_and_then t (lock_at ls i) in
    let of = λ (l : Lock). same_id node l.node in
    sym (first_of-map h id_at (filter (is_of_group node) es))
    ∙ (ap (first_of h) (same_rising (map id_at (filter (is_of_group node) es)) (map lock_id (filter of ls)) (places_rise node es sorted) (locks_rise of ls rising)
    (λ i. places_there node i es ∙ (told i ∙ sym (locks_there of i ls rising))))
    ∙ first_within h of t ls (each_told ls t ls (each_at lock_id ls rising)))
