-- The open of a lock, by its place.
use Rattle.std.proofs.Common.{◌≡◌, ℕ, ◌<◌, Bool, true, false, cond, List, [], ◌∷◌, Some, None, length, map, get_or, refl, sym, ap, ◌∙◌, subst, arith}
use Rattle.std.specs.Prelude.{find}
use Rattle.std.specs.List.{AllByRecursion}
use Rattle.std.proofs.lemmas.Bool.{false≢true}
use Rattle.std.proofs.lemmas.List.{length-map}
use Rattle.lnfs_world.specs.Rows.{Rising}
use Rattle.lnfs_world.specs.World as world
use Rattle.lnfs_world.specs.World.{Open, id_order, open_order, same_id}
use Rattle.lnfs_world.proofs.Rows.{all_find, all_weaker}
use Rattle.lnfs_world.proofs.Keys.{id_same}
use Rattle.lnfs_rows.specs.declared.numbers.Id.{Id}
use Rattle.lnfs_rows.specs.declared.opens.OpenRow.{OpenRow}
use Rattle.lnfs_rows.specs.Told.{open_of}
use Rattle.lnfs_fit.specs.Ids.{nth_id}
use Rattle.lnfs_fit.specs.RowsOf.{ids_of, AreIdsOf}
use Rattle.lnfs_fit.proofs.Indexed.{at_all}
use Rattle.lnfs_fit.proofs.Mapped.{nth-map, ids_len, id_nth, rows_rise}
use Rattle.lnfs_sound.specs.RowsOf.{no_open}
use Rattle.lnfs_sound.proofs.Found.{found_at, missing_at}
use Rattle.lnfs_locks.specs.Locks.{Lock, opening_id}
use Rattle.lnfs_locks.specs.Facts.{IsUnder}

-- ---- the place of an identifier is that of its open

module _ (rows : List OpenRow) (ids : List Id) (are : AreIdsOf (λ (o : Open). o.id) (map open_of rows) ids) (i : world.Id) where
  abbrev own : Open → world.Id
  own o = o.id

  many : length ids ≡ length rows
  many = ids_len own (map open_of rows) ids are ∙ length-map rows open_of

  pub is_found : Rising id_order (ids_of ids) → (k : ℕ) → k < length ids → nth_id (ids_of ids) k ≡ i → (d : OpenRow) → Some (open_of (get_or rows k d)) ≡ find (λ o. same_id i o.id) (map open_of rows)
  is_found rise k k_in is d =
      let opens = map open_of rows in
      let inside : k < length opens = omega (arith, length-map rows open_of, many, k_in) in
      let place : get_or opens k no_open ≡ open_of (get_or rows k d) = nth-map open_of rows k d no_open (omega (arith, many, k_in)) in
      sym (found_at own no_open opens (rows_rise own opens ids are rise) k inside i (sym (id_nth own opens ids are no_open k inside) ∙ is) ∙ ap Some place)

  pub is_missing : ((k : ℕ) → k < length ids → nth_id (ids_of ids) k ≡ i → ⊥) → None ≡ find (λ o. same_id i o.id) (map open_of rows)
  is_missing none =
      let opens = map open_of rows in
      sym (missing_at own no_open opens i (λ k k_in is. none k (omega (arith, length-map rows open_of, many, k_in)) (id_nth own opens ids are no_open k k_in ∙ is)))

-- ---- an open is of the client and the node, if it is there

abbrev pub IsOf : Lock → Open → Type 0
IsOf l o = (o.client ≡ l.client) × (same_id l.node o.node ≡ true)

one_open : (a b : Open) → Some a ≡ Some b → a ≡ b
one_open a b same = cc

none_found : (q : Open → Bool) (xs : List Open) → find q xs ≡ None → AllByRecursion (λ x. q x ≡ false) xs
none_found q [] none = tt
none_found q (x ∷ xs) none = by (q x) refl none (none_found q xs)
  where
    by : (b : Bool) → q x ≡ b → cond b (Some x) (find q xs) ≡ None → (find q xs ≡ None → AllByRecursion (λ y. q y ≡ false) xs) → AllByRecursion (λ y. q y ≡ false) (x ∷ xs)
    by true is none rest = absurd (cc)
    by false is none rest = (is, rest none)

module _ (l : Lock) (opens : List Open) where
  pub under_of : Rising open_order opens → (o : Open) → Some o ≡ find (λ x. same_id (opening_id l) x.id) opens → IsOf l o → AllByRecursion (IsUnder l) opens
  under_of rise o there is = at_all no_open (IsUnder l) opens (λ k k_in same.
      let x = get_or opens k no_open in
      let found = found_at (λ (y : Open). y.id) no_open opens rise k k_in (opening_id l) (sym (id_same (opening_id l) x.id same)) in
      subst (IsOf l) (one_open o x (there ∙ found)) is)

  pub of_under : (o : Open) → Some o ≡ find (λ x. same_id (opening_id l) x.id) opens → AllByRecursion (IsUnder l) opens → IsOf l o
  of_under o there all =
      let found = all_find (IsUnder l) (λ x. same_id (opening_id l) x.id) opens o all (sym there) in
      found.0 found.1

  pub under_none : None ≡ find (λ x. same_id (opening_id l) x.id) opens → AllByRecursion (IsUnder l) opens
  under_none none = all_weaker (λ x. same_id (opening_id l) x.id ≡ false) (IsUnder l) (λ x other same. absurd (false≢true (sym other ∙ same))) opens (none_found (λ x. same_id (opening_id l) x.id) opens (sym none))
