-- The lines between the newlines of a text.
use Rattle.std.proofs.Common.{◌≡◌, ◌≤◌, ℕ, true, false, List, [], ◌∷◌, length, refl, inl, inr, arith}
use Rattle.std.specs.Prelude.{Some, None}
use Rattle.std.proofs.lemmas.Bool.{cases_Bool}
use Rattle.lnfs_words.specs.Words.{is_empty}
use Rattle.lnfs_script.specs.Lines.{lines_in}

-- a part that others follow is a line
pub whole : (part : List ℕ) (parts : List (List ℕ)) → is_empty parts ≡ false → lines_in (part ∷ parts) ≡ Some part ∷ lines_in parts
whole part [] e = cc
whole part (next ∷ more) e = refl

-- the last part is none
pub last : (part : List ℕ) (parts : List (List ℕ)) → is_empty parts ≡ true → is_empty part ≡ true → lines_in (part ∷ parts) ≡ []
last part [] e f = rw f refl
last part (next ∷ more) e f = cc

pub cut : (part : List ℕ) (parts : List (List ℕ)) → is_empty parts ≡ true → is_empty part ≡ false → lines_in (part ∷ parts) ≡ None ∷ []
cut part [] e f = rw f refl
cut part (next ∷ more) e f = cc

pub none_left : (parts : List (List ℕ)) → is_empty parts ≡ true → lines_in parts ≡ []
none_left [] e = refl
none_left (part ∷ parts) e = cc

pub length-lines_in : (parts : List (List ℕ)) → length (lines_in parts) ≤ length parts
length-lines_in [] = omega arith
length-lines_in (part ∷ []) =
    elim (cases_Bool (is_empty part)) [
      | inl t ↦ rw t (omega arith)
      | inr f ↦ rw f (omega arith)
    ]
length-lines_in (part ∷ next ∷ more) = omega (arith, length-lines_in (next ∷ more))
