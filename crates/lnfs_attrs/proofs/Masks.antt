-- One more number that is answered, or isn't.
use Rattle.std.proofs.Common.{◌≡◌, ℕ, ◌+◌, ◌<◌, Bool, true, false, eqb, List, length, get_or, take, refl, ap, sym, ◌∙◌}
use Rattle.std.specs.Prelude.{◌==◌, ◌||◌, ◌&&◌}
use Rattle.std.specs.List.{list_any}
use Rattle.std.proofs.lemmas.Bool.{eqb-true}
use Rattle.std.proofs.lemmas.List.Folds.{list_any_more}

one_in : (b x a : Bool) → (b ≡ true → a ≡ true) → (b || (x && a)) ≡ ((x || b) && a)
one_in true true a e = sym (e refl)
one_in true false a e = sym (e refl)
one_in false true a e = refl
one_in false false a e = refl

one_out : (b x a : Bool) → (b ≡ true → a ≡ false) → (x && a) ≡ ((x || b) && a)
one_out true true a e = refl
one_out true false a e = sym (e refl)
one_out false true a e = refl
one_out false false a e = refl

-- the next of the numbers
more : (numbers : List ℕ) (i n : ℕ) (a : Bool) → i < length numbers → ((list_any (λ m. m == n) (take i numbers) || (get_or numbers i 0 == n)) && a) ≡ (list_any (λ m. m == n) (take (i + 1) numbers) && a)
more numbers i n a lt = ap (λ (b : Bool). b && a) (sym (list_any_more (λ m. m == n) numbers i 0 lt))

pub goes_in : (numbers : List ℕ) (i n : ℕ) (answers : ℕ → Bool) → i < length numbers → answers (get_or numbers i 0) ≡ true
    → ((get_or numbers i 0 == n) || (list_any (λ m. m == n) (take i numbers) && answers n)) ≡ (list_any (λ m. m == n) (take (i + 1) numbers) && answers n)
goes_in numbers i n answers lt e =
    one_in (eqb (get_or numbers i 0) n) (list_any (λ m. m == n) (take i numbers)) (answers n) (λ f. ap answers (sym (eqb-true _ _ f)) ∙ e) ∙ more numbers i n (answers n) lt

pub stays_out : (numbers : List ℕ) (i n : ℕ) (answers : ℕ → Bool) → i < length numbers → answers (get_or numbers i 0) ≡ false
    → (list_any (λ m. m == n) (take i numbers) && answers n) ≡ (list_any (λ m. m == n) (take (i + 1) numbers) && answers n)
stays_out numbers i n answers lt e =
    one_out (eqb (get_or numbers i 0) n) (list_any (λ m. m == n) (take i numbers)) (answers n) (λ f. ap answers (sym (eqb-true _ _ f)) ∙ e) ∙ more numbers i n (answers n) lt
