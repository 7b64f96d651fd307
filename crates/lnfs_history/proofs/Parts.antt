-- The entries of a link, a choice of seats, and lists that grow by one.
use Rattle.std.proofs.Common.{◌≡◌, ◌≢◌, ◌⊎◌, ℕ, zero, suc, List, [], ◌∷◌, ◌++◌, ◌==◌, if◌then◌else◌, length, Bool, true, false, refl, sym, ap, inl, inr, ⊎_elim, eq-eqb, ne_eqb}
use mathlib.Core.Option.{some, some-injective, some-ne-none}
use lib.ListN.{get_elem?}
use Rattle.lnfs_history.specs.declared.entry.Entry.{Entry}
use Rattle.lnfs_history.specs.Entries.{of}

-- an entry of the link comes behind those that it has
pub of_here : (link : ℕ) (log : List Entry) (e : Entry) → e.event.link ≡ link → of link (log ++ e ∷ []) ≡ of link log ++ e ∷ []
of_here link [] e is = rw (eq-eqb link e.event.link (sym is)) refl
of_here link (x ∷ log) e is = by_test (of_here link log e is) (link == x.event.link)
  where
    by_test : of link (log ++ e ∷ []) ≡ of link log ++ e ∷ [] → (b : Bool) → (if b then x ∷ of link (log ++ e ∷ []) else of link (log ++ e ∷ [])) ≡ (if b then x ∷ of link log else of link log) ++ e ∷ []
    by_test more true = ap (λ l. x ∷ l) more
    by_test more false = more

-- an entry of another link is none of its own
pub of_else : (link : ℕ) (log : List Entry) (e : Entry) → link ≢ e.event.link → of link (log ++ e ∷ []) ≡ of link log
of_else link [] e not = rw (ne_eqb link e.event.link not) refl
of_else link (x ∷ log) e not = by_test (of_else link log e not) (link == x.event.link)
  where
    by_test : of link (log ++ e ∷ []) ≡ of link log → (b : Bool) → (if b then x ∷ of link (log ++ e ∷ []) else of link (log ++ e ∷ [])) ≡ (if b then x ∷ of link log else of link log)
    by_test more true = ap (λ l. x ∷ l) more
    by_test more false = more

-- the seats of the links, with n for i
abbrev pub moved : (ℕ → ℕ) → ℕ → ℕ → ℕ → ℕ
moved at i n j = if j == i then n else at j

pub moved_here : (at : ℕ → ℕ) (i n : ℕ) → moved at i n i ≡ n
moved_here at i n = rw (eq-eqb i i refl) refl

pub moved_else : (at : ℕ → ℕ) (i n j : ℕ) → j ≢ i → moved at i n j ≡ at j
moved_else at i n j not = rw (ne_eqb j i not) refl

module _ {A : Type 0} where
  pub at_end : (l : List A) (a b : A) (j : ℕ) → get_elem? (l ++ a ∷ []) j ≡ some b → (get_elem? l j ≡ some b) ⊎ ((j ≡ length l) × (a ≡ b))
  at_end [] a b zero e = inr (refl, some-injective a b e)
  at_end [] a b (suc j) e = absurd (some-ne-none b (sym e))
  at_end (x ∷ xs) a b zero e = inl e
  at_end (x ∷ xs) a b (suc j) e = ⊎_elim (λ t. inl t) (λ t. inr (ap suc t.0, t.1)) (at_end xs a b j e)
