-- Digits behind other digits make a number larger.
use Rattle.std.proofs.Common.{◌≡◌, ◌≤◌, ◌<◌, ◌+◌, ◌-◌, ◌*◌, ◌^◌, ℕ, true, false, List, [], ◌∷◌, length, drop, get_or, Some, None, if◌then◌else◌, nat_lt, refl, sym, ◌∙◌, arith}
use Rattle.std.specs.Char.{is_ascii_digit, digit_value}
use Rattle.std.specs.List.{list_all}
use Rattle.std.specs.Str.Parse.{digits_value, digits_value_after}
use Rattle.std.proofs.lemmas.Bool.{le-ltb, lt-ltb}
use Rattle.std.proofs.lemmas.Bool.Decides.{nat_tests}
use Rattle.std.proofs.lemmas.Grind.{common_steps}
use Rattle.std.proofs.lemmas.List.{at_drop_more, at_drop_all}

grows : (n : ℕ) (xs : List ℕ) → n ≤ digits_value_after 10 n xs
grows n [] = omega arith
grows n (c ∷ cs) = omega (arith, grows (n * 10 + digit_value c) cs)

digit_is : (c : ℕ) → is_ascii_digit c ≡ true → digit_value c ≡ c - 48
digit_is c e = grind (arith, nat_tests)

digit_at : (xs : List ℕ) (i : ℕ) → list_all is_ascii_digit xs ≡ true → i < length xs → is_ascii_digit (get_or xs i 0) ≡ true
digit_at xs i a lt = grind (arith, common_steps)

-- a value that doesn't fit behind one more digit is that of no number
pub too_large : (value : ℕ) (digits : List ℕ) (i : ℕ) → list_all is_ascii_digit digits ≡ true → digits_value_after 10 value (drop i digits) ≡ digits_value 10 digits → i < length digits → 2 ^ 64 ≤ value * 10 + (get_or digits i 0 - 48) → nat_lt (digits_value 10 digits) (2 ^ 64) ≡ false
too_large value digits i a e lt large =
    let next = at_drop_more (λ xs. digits_value_after 10 value xs) digits i 0 lt in
    let d : digit_value (get_or digits i 0) ≡ get_or digits i 0 - 48 = digit_is _ (digit_at digits i a lt) in
    le-ltb _ _ (omega (arith, next, grows (value * 10 + digit_value (get_or digits i 0)) (drop (i + 1) digits)))

-- no digit is left
pub all_read : (value : ℕ) (digits : List ℕ) (i : ℕ) → digits_value_after 10 value (drop i digits) ≡ digits_value 10 digits → length digits ≤ i → value < 2 ^ 64 → Some value ≡ (if nat_lt (digits_value 10 digits) (2 ^ 64) then Some (digits_value 10 digits) else None)
all_read value digits i e le small =
    let last : value ≡ digits_value 10 digits = sym (at_drop_all (λ xs. digits_value_after 10 value xs) digits i le) ∙ e in
    rw (← last, lt-ltb value (2 ^ 64) small) refl
