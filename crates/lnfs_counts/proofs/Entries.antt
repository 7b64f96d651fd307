-- A map's entries as rows in the order of their identifiers.
use Rattle.std.proofs.Common.{◌≡◌, not, List, [], ◌∷◌, Some, None, refl, sym, ap, ◌∙◌, arith}
use Rattle.std.specs.Prelude.{map, filter, option_map}
use Rattle.std.specs.Ordering.{is_eq}
use Rattle.std.specs.declared.cmp.Ordering.{Ordering}
use Rattle.std.specs.declared.cmp.Ordering.TheVariants.{Less, Equal, Greater}
use Rattle.std.specs.BTreeMap.{insert_entry}
use Rattle.std.specs.List.{AllByRecursion}
use Rattle.std.specs.List.Sorted.{IsStrictlySortedBy}
use Rattle.std.specs.Map.{lookup, remove_entry, set_value, keys_of}
use Rattle.std.proofs.lemmas.Map.Keys.{sorted_head, sorted_tail}
use Rattle.std.proofs.lemmas.Bool.Decides.{nat_tests}
use Rattle.lnfs_world.specs.Rows.{Rising, inserted}
use Rattle.lnfs_world.specs.World.{Id, same_id, id_order}
use Rattle.lnfs_world.proofs.Keys.{id_same, id_equal, id_before}
use Rattle.lnfs_counts.specs.Counted.{order_by, row_at}
use Rattle.lnfs_counts.proofs.Rows.{none_gone}

pub ids_same : (a b : Id) → is_eq (id_order a b) ≡ same_id a b
ids_same a b = grind (arith, nat_tests)

-- keys that lie in the order of the identifiers that they name
pub record AreKeys {K : Type 0} (name : K → Id) (k_cmp : K → K → Ordering) : Type 0 where
  pub one : (a b : K) → name a ≡ name b → a ≡ b
  pub order : (a b : K) → id_order (name a) (name b) ≡ k_cmp a b

module _ {K : Type 0} (name : K → Id) (k_cmp : K → K → Ordering) (keys : AreKeys name k_cmp) where
  pub tied : (a b : K) → k_cmp a b ≡ Equal → a ≡ b
  tied a b e = keys.one a b (id_same (name a) (name b) (id_equal (name a) (name b) (keys.order a b ∙ e)))

  same : (a b : K) → same_id (name a) (name b) ≡ is_eq (k_cmp a b)
  same a b = sym (ids_same (name a) (name b)) ∙ ap is_eq (keys.order a b)

  rise : (a b c : K) → k_cmp a b ≡ Less → k_cmp b c ≡ Less → k_cmp a c ≡ Less
  rise a b c x y = sym (keys.order a c) ∙ id_before (name a) (name b) (name c) (keys.order a b ∙ x) (keys.order b c ∙ y)

-- rows that stand for entries, each under the identifier that its key names
module _ {K V X : Type 0} (name : K → Id) (k_cmp : K → K → Ordering) (keys : AreKeys name k_cmp) (f : K × V → X) (id : X → Id) (named : (e : K × V) → id (f e) ≡ name e.0) where
  ordered : (i : K) (v : V) (e : K × V) → order_by id (f (i, v)) (f e) ≡ k_cmp i e.0
  ordered i v e = (λ j. id_order (named (i, v) j) (named e j)) ∙ keys.order i e.0

  later : (e : K × V) (es : List (K × V)) → AllByRecursion (λ k. k_cmp e.0 k ≡ Less) (keys_of es) → AllByRecursion (λ x. order_by id (f e) x ≡ Less) (map f es)
  later e [] all = tt
  later e (x ∷ es) all = (ordered e.0 e.1 x ∙ all.0, later e es all.1)

  pub rising-entries : (es : List (K × V)) → IsStrictlySortedBy k_cmp (keys_of es) → Rising (order_by id) (map f es)
  rising-entries [] sorted = tt
  rising-entries (e ∷ es) sorted = (later e es (sorted_head k_cmp e.0 (keys_of es) sorted), rising-entries es (sorted_tail k_cmp e.0 (keys_of es) sorted))

  pub find-entries : (i : K) (es : List (K × V)) → row_at id (map f es) (name i) ≡ option_map (λ v. f (i, v)) (lookup (λ k. is_eq (k_cmp i k)) es)
  find-entries i [] = refl
  find-entries i (e ∷ es) = at (k_cmp i e.0) refl (ap (same_id (name i)) (named e) ∙ same name k_cmp keys i e.0) (find-entries i es)
    where
      at : (o : Ordering) → k_cmp i e.0 ≡ o → same_id (name i) (id (f e)) ≡ is_eq (k_cmp i e.0) → row_at id (map f es) (name i) ≡ option_map (λ v. f (i, v)) (lookup (λ k. is_eq (k_cmp i k)) es) → row_at id (map f (e ∷ es)) (name i) ≡ option_map (λ v. f (i, v)) (lookup (λ k. is_eq (k_cmp i k)) (e ∷ es))
      at Less is test rest = grind (arith, test, is, rest)
      at Equal is test rest = grind (arith, test, is, tied name k_cmp keys i e.0 is)
      at Greater is test rest = grind (arith, test, is, rest)

  pub inserted-entries : (i : K) (v : V) (es : List (K × V)) → map f (insert_entry k_cmp es i v) ≡ inserted (order_by id) (f (i, v)) (map f es)
  inserted-entries i v [] = refl
  inserted-entries i v (e ∷ es) = at (k_cmp i e.0) refl (ordered i v e) (inserted-entries i v es)
    where
      at : (o : Ordering) → k_cmp i e.0 ≡ o → order_by id (f (i, v)) (f e) ≡ k_cmp i e.0 → map f (insert_entry k_cmp es i v) ≡ inserted (order_by id) (f (i, v)) (map f es) → map f (insert_entry k_cmp (e ∷ es) i v) ≡ inserted (order_by id) (f (i, v)) (map f (e ∷ es))
      at Less is order rest = grind (arith, is, order)
      at Equal is order rest = grind (arith, is, order, tied name k_cmp keys i e.0 is)
      at Greater is order rest = grind (arith, is, order, rest)

  filter_removed : (i : K) (es : List (K × V)) → filter (λ x. not (same_id (name i) (id x))) (map f (remove_entry (λ k. is_eq (k_cmp i k)) es)) ≡ filter (λ x. not (same_id (name i) (id x))) (map f es)
  filter_removed i [] = refl
  filter_removed i (e ∷ es) = grind (arith, same name k_cmp keys i e.0, named e, filter_removed i es)

  pub removed-entries : (i : K) (es new : List (K × V)) → new ≡ remove_entry (λ k. is_eq (k_cmp i k)) es → lookup (λ k. is_eq (k_cmp i k)) new ≡ None → map f new ≡ filter (λ x. not (same_id (name i) (id x))) (map f es)
  removed-entries i es new is none = sym (none_gone id (name i) (map f new) (find-entries i new ∙ ap (option_map (λ v. f (i, v))) none)) ∙ ap (λ (rows : List (K × V)). filter (λ x. not (same_id (name i) (id x))) (map f rows)) is ∙ filter_removed i es

  -- the value of a key that is there is set in its place
  pub set-entries : (i : K) (v w : V) (es : List (K × V)) → IsStrictlySortedBy k_cmp (keys_of es) → lookup (λ k. is_eq (k_cmp i k)) es ≡ Some w → map f (set_value (λ k. is_eq (k_cmp i k)) es v) ≡ inserted (order_by id) (f (i, v)) (map f es)
  set-entries i v w [] sorted found = absurd (cc)
  set-entries i v w (e ∷ es) sorted found = at (k_cmp i e.0) refl (ordered i v e) found (set-entries i v w es (sorted_tail k_cmp e.0 (keys_of es) sorted))
    where
      below : k_cmp i e.0 ≡ Less → (xs : List (K × V)) → AllByRecursion (λ k. k_cmp e.0 k ≡ Less) (keys_of xs) → lookup (λ k. is_eq (k_cmp i k)) xs ≡ None
      below less [] all = refl
      below less (x ∷ xs) all = grind (arith, below less xs all.1, rise name k_cmp keys i e.0 x.0 less all.0)

      at : (o : Ordering) → k_cmp i e.0 ≡ o → order_by id (f (i, v)) (f e) ≡ k_cmp i e.0 → lookup (λ k. is_eq (k_cmp i k)) (e ∷ es) ≡ Some w → (lookup (λ k. is_eq (k_cmp i k)) es ≡ Some w → map f (set_value (λ k. is_eq (k_cmp i k)) es v) ≡ inserted (order_by id) (f (i, v)) (map f es)) → map f (set_value (λ k. is_eq (k_cmp i k)) (e ∷ es) v) ≡ inserted (order_by id) (f (i, v)) (map f (e ∷ es))
      at Less is order found rest = grind (arith, is, found, below is es (sorted_head k_cmp e.0 (keys_of es) sorted))
      at Equal is order found rest = grind (arith, is, order, tied name k_cmp keys i e.0 is)
      at Greater is order found rest = grind (arith, is, order, found, rest)
