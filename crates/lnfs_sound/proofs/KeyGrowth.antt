-- One more key of a client, and one more of an open.
use Rattle.std.proofs.Common.{◌≡◌, ℕ, Bool, true, false, cond, ◌&&◌, List, [], ◌∷◌, ◌++◌, sym, ◌∙◌, arith}
use Rattle.std.specs.Prelude.{◌==◌}
use Rattle.std.specs.Str.{bytes_eq}
use Rattle.std.specs.Ordering.{is_eq, nat_cmp, ordering_then}
use Rattle.std.specs.Cmp.Lexicographic.{slice_cmp}
use Rattle.std.specs.BTreeSet.{BTreeSet, contains}
use Rattle.std.specs.BTreeMap.{is_at}
use Rattle.std.proofs.lemmas.Bool.Decides.{nat_tests}
use Rattle.std.proofs.lemmas.Map.Text.{is_eq-slice_cmp}
use Rattle.lnfs_world.specs.Rows.{Apart}
use Rattle.lnfs_world.specs.World.{Client, Open}
use Rattle.lnfs_world.specs.Facts.{same_flag, are_rivals, same_opening}
use Rattle.lnfs_world.proofs.Keys.{bytes_turned}
use Rattle.lnfs_sound.specs.Keys.{flag, Rival, rival_cmp, is_rival, AreRivals, Opening, opening_cmp, is_opening, AreOpenings}
use Rattle.lnfs_fit.proofs.Keyed as keyed

-- ---- clients

rival_tie : (a b c d : ℕ) (m n : List ℕ) → is_eq (ordering_then (ordering_then (nat_cmp a b) (nat_cmp c d)) (slice_cmp nat_cmp m n)) ≡ (b == a && d == c && bytes_eq n m)
rival_tie a b c d m n = grind (arith, nat_tests, is_eq-slice_cmp m n, bytes_turned m n)

same_rival : (a b : ℕ) (f g : Bool) (m n : List ℕ) → (a == b && (bytes_eq m n && same_flag f g)) ≡ (b == a && flag g == flag f && bytes_eq n m)
same_rival a b true true m n = grind (arith, nat_tests, bytes_turned m n)
same_rival a b true false m n = grind (arith, nat_tests, bytes_turned m n)
same_rival a b false true m n = grind (arith, nat_tests, bytes_turned m n)
same_rival a b false false m n = grind (arith, nat_tests, bytes_turned m n)

module _ (k : Rival) (c : Client) (level : c.id.level ≡ k.0) (confirmed : flag c.confirmed ≡ k.1) (owner : c.owner ≡ k.2.items) where
  at_rival : (q : Rival) → is_at (rival_cmp k) q ≡ is_rival q c
  at_rival q = rival_tie k.0 q.0 k.1 q.1 k.2.items q.2.items ∙ (λ i. q.0 == sym level i && q.1 == sym confirmed i && bytes_eq q.2.items (sym owner i))

  rivals_keyed : (x : Client) → are_rivals x c ≡ is_rival k x
  rivals_keyed x = same_rival x.id.level c.id.level x.confirmed c.confirmed x.owner c.owner ∙ (λ i. level i == x.id.level && confirmed i == flag x.confirmed && bytes_eq (owner i) x.owner)

  module _ (cs : List Client) (old : BTreeSet Rival) (seen : AreRivals old cs) where
    pub rivals_grown : (new : BTreeSet Rival) → ((q : Rival) → contains rival_cmp new q ≡ cond (is_at (rival_cmp k) q) true (contains rival_cmp old q)) → AreRivals new (cs ++ c ∷ [])
    rivals_grown new updates = record { told = keyed.grown rival_cmp is_rival are_rivals k c at_rival rivals_keyed cs old seen.told new updates }

    pub rivals_apart : contains rival_cmp old k ≡ false → Apart are_rivals cs → Apart are_rivals (cs ++ c ∷ [])
    rivals_apart new apart = keyed.apart_grown rival_cmp is_rival are_rivals k c at_rival rivals_keyed cs old seen.told new apart

    pub rivals_clash : contains rival_cmp old k ≡ true → Apart are_rivals (cs ++ c ∷ []) → ⊥
    rivals_clash there apart = keyed.clashes rival_cmp is_rival are_rivals k c at_rival rivals_keyed cs old seen.told there apart

-- ---- opens

opening_tie : (a b c d e f g h : ℕ) (m n : List ℕ) → is_eq (ordering_then (ordering_then (ordering_then (ordering_then (nat_cmp a b) (nat_cmp c d)) (nat_cmp e f)) (nat_cmp g h)) (slice_cmp nat_cmp m n)) ≡ (b == a && d == c && f == e && h == g && bytes_eq n m)
opening_tie a b c d e f g h m n = grind (arith, nat_tests, is_eq-slice_cmp m n, bytes_turned m n)

same_key : (a b c d e f g h : ℕ) (m n : List ℕ) → (a == b && (c == d && (bytes_eq m n && (e == f && g == h)))) ≡ (b == a && d == c && f == e && h == g && bytes_eq n m)
same_key a b c d e f g h m n = grind (arith, nat_tests, bytes_turned m n)

module _ (k : Opening) (o : Open) (level : o.id.level ≡ k.0) (client : o.client ≡ k.1) (node_level : o.node.level ≡ k.2) (node_number : o.node.number ≡ k.3) (owner : o.owner ≡ k.4.items) where
  at_opening : (q : Opening) → is_at (opening_cmp k) q ≡ is_opening q o
  at_opening q = opening_tie k.0 q.0 k.1 q.1 k.2 q.2 k.3 q.3 k.4.items q.4.items ∙ (λ i. q.0 == sym level i && q.1 == sym client i && q.2 == sym node_level i && q.3 == sym node_number i && bytes_eq q.4.items (sym owner i))

  openings_keyed : (x : Open) → same_opening x o ≡ is_opening k x
  openings_keyed x = same_key x.id.level o.id.level x.client o.client x.node.level o.node.level x.node.number o.node.number x.owner o.owner ∙ (λ i. level i == x.id.level && client i == x.client && node_level i == x.node.level && node_number i == x.node.number && bytes_eq (owner i) x.owner)

  module _ (os : List Open) (old : BTreeSet Opening) (seen : AreOpenings old os) where
    pub openings_grown : (new : BTreeSet Opening) → ((q : Opening) → contains opening_cmp new q ≡ cond (is_at (opening_cmp k) q) true (contains opening_cmp old q)) → AreOpenings new (os ++ o ∷ [])
    openings_grown new updates = record { told = keyed.grown opening_cmp is_opening same_opening k o at_opening openings_keyed os old seen.told new updates }

    pub openings_apart : contains opening_cmp old k ≡ false → Apart same_opening os → Apart same_opening (os ++ o ∷ [])
    openings_apart new apart = keyed.apart_grown opening_cmp is_opening same_opening k o at_opening openings_keyed os old seen.told new apart

    pub openings_clash : contains opening_cmp old k ≡ true → Apart same_opening (os ++ o ∷ []) → ⊥
    openings_clash there apart = keyed.clashes opening_cmp is_opening same_opening k o at_opening openings_keyed os old seen.told there apart
