-- One more name.
use Rattle.std.proofs.Common.{◌≡◌, ℕ, ◌+◌, ◌<◌, true, false, cond, ◌&&◌, List, [], ◌∷◌, ◌++◌, ◌∙◌, sym, length, take, arith}
use Rattle.std.specs.Prelude.{◌==◌}
use Rattle.std.specs.Str.{bytes_eq}
use Rattle.std.specs.Ordering.{is_eq, nat_cmp, ordering_then}
use Rattle.std.specs.Cmp.Lexicographic.{slice_cmp}
use Rattle.std.specs.BTreeSet.{BTreeSet, contains}
use Rattle.std.specs.BTreeMap.{is_at}
use Rattle.std.proofs.lemmas.Bool.Decides.{nat_tests}
use Rattle.std.proofs.lemmas.Map.Text.{is_eq-slice_cmp}
use Rattle.std.proofs.lemmas.List.{take_more}
use Rattle.lnfs_world.specs.Rows.{Apart}
use Rattle.lnfs_world.specs.World.{Entry}
use Rattle.lnfs_world.specs.Facts.{same_name}
use Rattle.lnfs_world.proofs.Keys.{bytes_turned}
use Rattle.lnfs_fit.specs.Places.{no_entry, nth_entry}
use Rattle.lnfs_fit.specs.Keys.{Key, key_cmp, is_keyed, AreSeen}
use Rattle.lnfs_fit.proofs.Keyed as keyed

tie : (a b c d : ℕ) (m n : List ℕ) → is_eq (ordering_then (ordering_then (nat_cmp a b) (nat_cmp c d)) (slice_cmp nat_cmp m n)) ≡ (b == a && d == c && bytes_eq n m)
tie a b c d m n = grind (arith, nat_tests, is_eq-slice_cmp m n, bytes_turned m n)

same_key : (a b c d : ℕ) (m n : List ℕ) → (a == b && c == d && bytes_eq m n) ≡ (b == a && d == c && bytes_eq n m)
same_key a b c d m n = grind (arith, nat_tests, bytes_turned m n)

module _ (k : Key) (e : Entry) (level : e.directory.level ≡ k.0) (number : e.directory.number ≡ k.1) (name : e.name ≡ k.2.items) where
  at_key : (q : Key) → is_at (key_cmp k) q ≡ is_keyed q e
  at_key q = tie k.0 q.0 k.1 q.1 k.2.items q.2.items ∙ (λ i. q.0 == sym level i && q.1 == sym number i && bytes_eq q.2.items (sym name i))

  named : (x : Entry) → same_name x e ≡ is_keyed k x
  named x = (λ i. (x.directory.level == level i && x.directory.number == number i) && bytes_eq x.name (name i)) ∙ same_key x.directory.level k.0 x.directory.number k.1 x.name k.2.items

  module _ (es : List Entry) (old : BTreeSet Key) (seen : AreSeen old es) where
    pub grown : (new : BTreeSet Key) → ((q : Key) → contains key_cmp new q ≡ cond (is_at (key_cmp k) q) true (contains key_cmp old q)) → AreSeen new (es ++ e ∷ [])
    grown new updates = record { told = keyed.grown key_cmp is_keyed same_name k e at_key named es old seen.told new updates }

    pub apart_grown : contains key_cmp old k ≡ false → Apart same_name es → Apart same_name (es ++ e ∷ [])
    apart_grown new apart = keyed.apart_grown key_cmp is_keyed same_name k e at_key named es old seen.told new apart

    pub clashes : contains key_cmp old k ≡ true → Apart same_name (es ++ e ∷ []) → ⊥
    clashes there apart = keyed.clashes key_cmp is_keyed same_name k e at_key named es old seen.told there apart

pub so_far : (es : List Entry) (t : ℕ) → Apart same_name es → Apart same_name (take t es)
so_far es t apart = keyed.so_far same_name es t apart

pub one_more : (es : List Entry) (t : ℕ) → t < length es → take (t + 1) es ≡ take t es ++ nth_entry es t ∷ []
one_more es t less = take_more es t no_entry less
