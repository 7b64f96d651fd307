-- The canonical text spells the policy that the text spells.
use Rattle.std.proofs.Common.{◌≡◌, ◌+◌, ◌==◌, ℕ, Bool, true, false, not, List, [], ◌∷◌, ◌++◌, refl, ap, subst, append_assoc, inl, inr}
use Rattle.std.specs.Prelude.{Result, Ok, Err, filter}
use Rattle.std.specs.List.{list_all, flat_map}
use Rattle.std.proofs.lemmas.Bool.{cases_Bool, and_parts, false≢true}
use Rattle.lnfs_words.specs.Words.{is_empty, newline, split, longer, is_ascii}
use Rattle.lnfs_policy.specs.Line.{demand, Line}
use Rattle.lnfs_policy.specs.Policy.{Policy, policy_in}
use Rattle.lnfs_policy.specs.PolicyText.{version_in_place, lines_after, is_skipped, is_complete, Refused, told_at, lines_from, kept, canonical, policy_from, policy_of, IsPolicy}
use Rattle.lnfs_policy.specs.declared.cause.Cause.{Cause}
use Rattle.lnfs_policy.specs.declared.cause.Cause.TheVariants as because
use Rattle.lnfs_policy.proofs.Outcomes.{ended, not_ok}

-- ---- no part has a separator

abbrev pub is_clean : List ℕ → Bool
is_clean part = list_all (λ b. not (b == newline)) part

clean_longer : (b : ℕ) (parts : List (List ℕ)) → (b == newline) ≡ false → list_all is_clean parts ≡ true → list_all is_clean (longer b parts) ≡ true
clean_longer b [] f e = rw f refl
clean_longer b (part ∷ parts) f e = rw f e

pub clean_split : (text : List ℕ) → list_all is_clean (split newline text) ≡ true
clean_split [] = refl
clean_split (b ∷ text) =
    elim (cases_Bool (b == newline)) [
      | inl t ↦ rw t (clean_split text)
      | inr f ↦ rw f (clean_longer b (split newline text) f (clean_split text))
    ]

-- a clean part, and what stands behind its newline
pub split_clean : (part rest : List ℕ) → is_clean part ≡ true → split newline (part ++ newline ∷ rest) ≡ part ∷ split newline rest
split_clean [] rest e = refl
split_clean (b ∷ part) rest e =
    elim (cases_Bool (b == newline)) [
      | inl t ↦ absurd (false≢true (rw t at e))
      | inr f ↦ let deeper : is_clean part ≡ true = rw f at e in rw (f, split_clean part rest deeper) refl
    ]

-- ---- the lines that aren't skipped

abbrev significant : List (List ℕ) → List (List ℕ)
significant parts = filter (λ text. not (is_skipped text)) parts

abbrev closed : List (List ℕ) → List (List ℕ)
closed parts = significant parts ++ [] ∷ []

split_kept : (parts : List (List ℕ)) → list_all is_clean parts ≡ true → split newline (kept parts) ≡ closed parts
split_kept [] e = refl
split_kept (text ∷ parts) e =
    let p = and_parts (is_clean text) (list_all is_clean parts) e in
    elim (cases_Bool (is_skipped text)) [
      | inl t ↦ rw t (split_kept parts p.1)
      | inr f ↦ rw (f, append_assoc text (newline ∷ []) (kept parts), split_clean text (kept parts) p.0, split_kept parts p.1) refl
    ]

significant_again : (parts : List (List ℕ)) → significant (closed parts) ≡ significant parts
significant_again [] = refl
significant_again (text ∷ parts) =
    elim (cases_Bool (is_skipped text)) [
      | inl t ↦ rw t (significant_again parts)
      | inr f ↦ rw (f, f, significant_again parts) refl
    ]

abbrev ended_by : List (List ℕ) → List ℕ
ended_by parts = flat_map (λ text. text ++ newline ∷ []) parts

kept_again : (parts : List (List ℕ)) → kept (closed parts) ≡ kept parts
kept_again parts = ap ended_by (significant_again parts)

-- ---- they say the same

abbrev finally : ℕ → List Line → Result (List Line) Refused
finally n ls = told_at n (demand (is_complete ls) because.Missing) (λ _. Ok ls)

ends_so : (n m : ℕ) (ls lines : List Line) → finally n ls ≡ ended Refused lines → finally m ls ≡ ended Refused lines
ends_so n m ls lines e =
    elim (cases_Bool (is_complete ls)) [
      | inl t ↦ rw t (rw t at e)
      | inr f ↦ absurd (not_ok _ lines (rw f at e))
    ]

-- a line without its newline is refused
pub not_ended : (ls lines : List Line) (text : List ℕ) (n : ℕ) (next : List Line → Result (List Line) Refused) → told_at n (lines_after ls false text) next ≡ ended Refused lines → ⊥
not_ended ls lines text n next e =
    elim (cases_Bool (is_skipped text)) [
      | inl t ↦ not_ok _ lines (rw t at e)
      | inr f ↦ let g = rw f at e in elim (cases_Bool (version_in_place (is_empty ls) text)) [
        | inl t ↦ not_ok _ lines (rw t at g)
        | inr h ↦ not_ok _ lines (rw h at g)
      ]
    ]

closed_some : (parts : List (List ℕ)) → is_empty (closed parts) ≡ false
closed_some parts = some (significant parts)
  where
    some : (xs : List (List ℕ)) → is_empty (xs ++ [] ∷ []) ≡ false
    some [] = refl
    some (x ∷ xs) = refl

-- one line, and then others
step : (n m : ℕ) (lines : List Line) (parts : List (List ℕ)) → ((ls : List Line) → lines_from n ls parts ≡ ended Refused lines → lines_from m ls (closed parts) ≡ ended Refused lines)
    → (a b : ℕ) (r : Result (List Line) Cause) → told_at a r (λ ls. lines_from n ls parts) ≡ ended Refused lines → told_at b r (λ ls. lines_from m ls (closed parts)) ≡ ended Refused lines
step n m lines parts rest a b (Ok ls) e = rest ls e
step n m lines parts rest a b (Err c) e = absurd (not_ok _ lines e)

same_lines : (n m : ℕ) (ls lines : List Line) (parts : List (List ℕ)) → lines_from n ls parts ≡ ended Refused lines → lines_from m ls (closed parts) ≡ ended Refused lines
unfolding lines_from
same_lines n m ls lines [] e = ends_so n m ls lines e
same_lines n m ls lines ([] ∷ []) e = ends_so n m ls lines e
same_lines n m ls lines ((b ∷ text) ∷ []) e = absurd (not_ended ls lines (b ∷ text) n _ e)
same_lines n m ls lines ([] ∷ other ∷ others) e = same_lines (n + 1) m ls lines (other ∷ others) e
same_lines n m ls lines ((b ∷ text) ∷ other ∷ others) e =
    elim (cases_Bool (is_skipped (b ∷ text))) [
      | inl t ↦ let g = rw t at e in elim (cases_Bool (is_ascii (b ∷ text))) [
        | inl a ↦ rw t (same_lines (n + 1) m ls lines (other ∷ others) (rw a at g))
        | inr f ↦ absurd (not_ok _ lines (rw f at g))
      ]
      | inr f ↦
          rw (f, closed_some (other ∷ others), f)
          (step (n + 1) (m + 1) lines (other ∷ others) (λ new h. same_lines (n + 1) (m + 1) new lines (other ∷ others) h) n m _ (rw f at e))
    ]

pub again : (text : List ℕ) (p : Policy) → policy_of text ≡ Ok p → IsPolicy p
unfolding policy_of
again text p e = of (lines_from 1 [] (split newline text)) refl e
  where
    itself : (lines : List Line) → lines_from 1 [] (split newline text) ≡ ended Refused lines → IsPolicy (policy_in (canonical text) lines)
    itself lines h = rw (split_kept (split newline text) (clean_split text), kept_again (split newline text), same_lines 1 1 [] lines (split newline text) h) refl

    of : (r : Result (List Line) Refused) → lines_from 1 [] (split newline text) ≡ r → policy_from (canonical text) r ≡ ended Refused p → IsPolicy p
    of (Ok lines) h f = let is : policy_in (canonical text) lines ≡ p = cc in subst IsPolicy is (itself lines h)
    of (Err refused) h f = absurd (not_ok refused p f)
