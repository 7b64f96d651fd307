-- The open and the owner of one more lock.
use Rattle.std.proofs.Common.{◌≡◌, ℕ, Bool, true, false, cond, ◌&&◌, ◌||◌, List, [], ◌∷◌, ◌++◌, refl, sym, ap, ◌∙◌, arith}
use Rattle.std.specs.Prelude.{◌==◌, find, is_some}
use Rattle.std.specs.Str.{bytes_eq}
use Rattle.std.specs.List.{list_any}
use Rattle.std.specs.Ordering.{is_eq, nat_cmp, ordering_then}
use Rattle.std.specs.Cmp.Lexicographic.{slice_cmp}
use Rattle.std.specs.BTreeSet.{BTreeSet, contains}
use Rattle.std.specs.BTreeMap.{is_at}
use Rattle.std.proofs.lemmas.Bool.Decides.{nat_tests}
use Rattle.std.proofs.lemmas.List.Folds.{list_any-append}
use Rattle.std.proofs.lemmas.Map.Text.{is_eq-slice_cmp}
use Rattle.lnfs_world.specs.Rows.{Apart}
use Rattle.lnfs_world.specs.World.{Id, World, same_id}
use Rattle.lnfs_world.proofs.Keys.{id_same, bytes_turned}
use Rattle.lnfs_decide.proofs.OneMore.{apart_last}
use Rattle.lnfs_fit.proofs.Keyed as keyed
use Rattle.lnfs_locks.specs.Locks.{Lock, opening_id, is_live}
use Rattle.lnfs_locks.specs.Facts.{are_doubles}
use Rattle.lnfs_lock_fit.specs.Keys.{Holder, holder_cmp, is_holder, AreHolders}

holder_tie : (a b c d : ℕ) (m n : List ℕ) → is_eq (ordering_then (ordering_then (nat_cmp a b) (nat_cmp c d)) (slice_cmp nat_cmp m n)) ≡ (b == a && d == c && bytes_eq n m)
holder_tie a b c d m n = grind (arith, nat_tests, is_eq-slice_cmp m n, bytes_turned m n)

same_holder : (a b c d : ℕ) (m n : List ℕ) (live : Bool) → ((a == b && c == d) && (bytes_eq m n && live)) ≡ ((b == a && d == c && bytes_eq n m) && live)
same_holder a b c d m n live = grind (arith, nat_tests, bytes_turned m n)

and_true : (a b : Bool) → b ≡ true → a ≡ (a && b)
and_true true b is = sym is
and_true false b is = refl

and_false : (a b : Bool) → b ≡ false → (a && b) ≡ false
and_false true b is = is
and_false false b is = refl

or_none : (a b : Bool) → b ≡ false → a ≡ (a || (b || false))
or_none a b is = grind (arith, is)

module _ (w : World) where
  -- ---- its open is there

  module _ (k : Holder) (l : Lock) (level : l.id.level ≡ k.0) (opening : l.opening ≡ k.1) (owner : l.owner ≡ k.2.items) (live : is_live w l ≡ true) where
    at_holder : (q : Holder) → is_at (holder_cmp k) q ≡ is_holder w q l
    at_holder q =
        holder_tie k.0 q.0 k.1 q.1 k.2.items q.2.items
        ∙ (λ i. q.0 == sym level i && q.1 == sym opening i && bytes_eq q.2.items (sym owner i))
        ∙ and_true (q.0 == l.id.level && q.1 == l.opening && bytes_eq q.2.items l.owner) (is_live w l) live

    doubles_keyed : (x : Lock) → are_doubles w x l ≡ is_holder w k x
    doubles_keyed x =
        same_holder x.id.level l.id.level x.opening l.opening x.owner l.owner (is_live w x)
        ∙ (λ i. (level i == x.id.level && opening i == x.opening && bytes_eq (owner i) x.owner) && is_live w x)

    module _ (locks : List Lock) (old : BTreeSet Holder) (seen : AreHolders w old locks) where
      pub holders_grown : (new : BTreeSet Holder) → ((q : Holder) → contains holder_cmp new q ≡ cond (is_at (holder_cmp k) q) true (contains holder_cmp old q)) → AreHolders w new (locks ++ l ∷ [])
      holders_grown new updates = record { told = keyed.grown holder_cmp (is_holder w) (are_doubles w) k l at_holder doubles_keyed locks old seen.told new updates }

      pub holders_apart : contains holder_cmp old k ≡ false → Apart (are_doubles w) locks → Apart (are_doubles w) (locks ++ l ∷ [])
      holders_apart new apart = keyed.apart_grown holder_cmp (is_holder w) (are_doubles w) k l at_holder doubles_keyed locks old seen.told new apart

      pub holders_clash : contains holder_cmp old k ≡ true → Apart (are_doubles w) (locks ++ l ∷ []) → ⊥
      holders_clash there apart = keyed.clashes holder_cmp (is_holder w) (are_doubles w) k l at_holder doubles_keyed locks old seen.told there apart

  -- ---- its open is gone

  module _ (l : Lock) (gone : is_live w l ≡ false) (locks : List Lock) where
    pub holders_stay : (old : BTreeSet Holder) → AreHolders w old locks → AreHolders w old (locks ++ l ∷ [])
    holders_stay old seen = record {
      told = λ q.
          let none : is_holder w q l ≡ false = and_false (q.0 == l.id.level && q.1 == l.opening && bytes_eq q.2.items l.owner) (is_live w l) gone in
          seen.told q ∙ or_none (list_any (is_holder w q) locks) (is_holder w q l) none ∙ sym (list_any-append (is_holder w q) locks (l ∷ []));
    }

    -- one of the same open has none either
    no_double : (x : Lock) → are_doubles w x l ≡ false
    no_double x = by (same_id (opening_id x) (opening_id l)) refl
      where
        by : (b : Bool) → same_id (opening_id x) (opening_id l) ≡ b → are_doubles w x l ≡ false
        by false is = grind (arith, is)
        by true is =
            let same : opening_id x ≡ opening_id l = id_same (opening_id x) (opening_id l) is in
            let none : is_live w x ≡ false = ap (λ (i : Id). is_some (find (λ o. same_id i o.id) w.opens)) same ∙ gone in
            and_false (same_id (opening_id x) (opening_id l)) (bytes_eq x.owner l.owner && is_live w x) (and_false (bytes_eq x.owner l.owner) (is_live w x) none)

    none_doubled : (xs : List Lock) → list_any (λ x. are_doubles w x l) xs ≡ false
    none_doubled [] = refl
    none_doubled (x ∷ xs) = grind (arith, no_double x, none_doubled xs)

    pub doubles_stay : Apart (are_doubles w) locks → Apart (are_doubles w) (locks ++ l ∷ [])
    doubles_stay apart = apart_last (are_doubles w) locks l apart (none_doubled locks)
