-- The number of a parent of a policy has 32 bits.
use Rattle.std.proofs.Common.{◌≡◌, ◌<◌, ◌==◌, ℕ, true, List, [], ◌∷◌, ◌++◌, sym, subst, ◌∙◌, inl, inr}
use Rattle.std.specs.Prelude.{◌^◌, Ok, Option, Some, None, IfSome, is_some, option_map}
use Rattle.std.specs.List.{AllByRecursion}
use Rattle.std.proofs.lemmas.Bool.{cases_Bool, eqb-true}
use Rattle.lnfs_words.specs.Hex.{lower_hex_sized}
use Rattle.lnfs_policy.specs.Line.{Line, parent_line, line_of}
use Rattle.lnfs_policy.specs.Rows.{parent_in, parents_of}
use Rattle.lnfs_policy.specs.Fits.{is_taken}
use Rattle.lnfs_policy.specs.Spelled.{HasNumbers}
use Rattle.lnfs_policy.specs.Policy.{Policy, parent_at}
use Rattle.lnfs_policy.specs.PolicyText.{IsPolicy}
use Rattle.lnfs_policy.specs.declared.rows.Parent.{Parent}
use Rattle.lnfs_policy.proofs.Kept.{lines_of}
use Rattle.lnfs_policy.proofs.Parents.{taken_same}
use Rattle.lnfs_policy.proofs.Spelled.{line_says}
use Rattle.lnfs_policy.proofs.Tables.{and_some, one_more}

abbrev IsShort : Parent → Type 0
IsShort x = x.number < 2 ^ 32

-- ---- the parents of lines

short_in : (line : Line) → HasNumbers line → IfSome (parent_in line) IsShort
short_in (parent_line number hex level) numbers = by (lower_hex_sized 32 hex)
  where
    by : (o : Option (List ℕ)) → IfSome (option_map (λ (secret : List ℕ). record { number = number; secret = secret; clearance = record { 0 = level } }) o) IsShort
    by None = tt
    by (Some secret) = numbers.0
short_in line numbers = tt

short_push : (parents : List Parent) (o : Option Parent) → AllByRecursion IsShort parents → IfSome o IsShort → AllByRecursion IsShort (and_some parents o)
short_push [] None all here = tt
short_push [] (Some x) all here = (here, tt)
short_push (p ∷ parents) None all here = all
short_push (p ∷ parents) (Some x) all here = (all.0, short_push parents (Some x) all.1 here)

AreShort : List Line → Type 0
AreShort lines = AllByRecursion IsShort (parents_of lines)

one_line : (lines : List Line) (words : List (List ℕ)) (line : Line) → AreShort lines → line_of words ≡ Ok line → AreShort (lines ++ line ∷ [])
unfolding AreShort
one_line lines words line all said =
    subst (AllByRecursion IsShort) (sym (one_more parent_in lines line)) (short_push (parents_of lines) (parent_in line) all (short_in line (line_says words line said).0))

-- ---- a parent by its number

short_taken : (parents : List Parent) (number : ℕ) → AllByRecursion IsShort parents → is_taken parents number ≡ true → number < 2 ^ 32
short_taken [] number all taken = absurd cc
short_taken (p ∷ parents) number all taken =
    elim (cases_Bool (p.number == number)) [
      | inl t ↦ subst (λ (n : ℕ). n < 2 ^ 32) (eqb-true p.number number t) all.0
      | inr f ↦ short_taken parents number all.1 (rw f at taken)
    ]

pub parent_is_short : (p : Policy) → IsPolicy p → (number : ℕ) → is_some (parent_at p number) ≡ true → number < 2 ^ 32
unfolding AreShort
parent_is_short p is number there =
    let lines = lines_of AreShort (λ ls ws line all said fits. one_line ls ws line all said) p.text p tt is in
    short_taken (parents_of lines.0) number lines.1
    (sym (taken_same (parents_of lines.0) number) ∙ subst (λ (q : Policy). is_some (parent_at q number) ≡ true) (sym lines.2) there)
