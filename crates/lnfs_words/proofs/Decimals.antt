-- The words that are numbers are their decimal texts.
use Rattle.std.proofs.Common.{◌≡◌, ◌<◌, ◌≤◌, ◌^◌, ℕ, zero, suc, ◌==◌, true, false, not, ◌&&◌, nat_le, List, [], ◌∷◌, length, get_or, refl, sym, ap, subst, ◌∙◌, inl, inr, rules, arith}
use Rattle.std.specs.Prelude.{Some, None}
use Rattle.std.specs.Char.{is_ascii_digit}
use Rattle.std.specs.List.{list_all}
use Rattle.std.specs.Fmt.{decimal}
use Rattle.std.specs.Str.Parse.{digits_value}
use Rattle.std.proofs.lemmas.Str.Parse.{IsNumeralModel, numerals_by_value}
use Rattle.std.proofs.lemmas.Fmt.{decimal_digit, decimal_nonempty, first_decimal, digits_decimal, digits_value-decimal, decimal-digits_value}
use Rattle.std.proofs.lemmas.Bool.{and_parts, and_from, cases_Bool, leb-true, le-leb, eq-eqb, ne_eqb}
use Rattle.lnfs_words.specs.Words.{is_empty}
use Rattle.lnfs_words.specs.Numbers.{is_padded, is_plain, number_up_to}

pub same_some : {A : Type 0} (a b : A) → Some a ≡ Some b → a ≡ b
same_some a b e = cc

no_some : (n : ℕ) → None ≡ Some n → ⊥
no_some n e = cc

-- std's lemmas on decimal texts hold of the digits' test and value of this crate
own : IsNumeralModel (λ ds. list_all is_ascii_digit ds ≡ true) (digits_value 10)
own = numerals_by_value _ (search rules)

filled : (ds : List ℕ) → not (is_empty ds) ≡ true → 0 < length ds
filled [] e = cc
filled (d ∷ ds) e = omega arith

-- a word without leading zeros that begins with a zero is that zero
unpadded : (ds : List ℕ) → not (is_empty ds) ≡ true → not (is_padded ds) ≡ true → get_or ds 0 0 ≡ 48 → length ds ≡ 1
unpadded [] e f z = cc
unpadded (d ∷ []) e f z = omega arith
unpadded (d ∷ x ∷ ds) e f z = let t : not (d == 48 && true) ≡ true = f in let here : (d == 48) ≡ true = eq-eqb d 48 z in let u : false ≡ true = rw here at t in cc

-- a word that spells a number is its decimal text
pub number_is : (most : ℕ) → most < 2 ^ 64 → (word : List ℕ) (n : ℕ) → number_up_to most word ≡ Some n → (n ≤ most) × (word ≡ decimal n)
number_is most wide word n e =
    elim (cases_Bool (is_plain word && nat_le (digits_value 10 word) most)) [
      | inl t ↦
          let same : digits_value 10 word ≡ n = same_some (digits_value 10 word) n (rw t at e) in
          let p = and_parts (is_plain word) (nat_le (digits_value 10 word) most) t in
          let small : digits_value 10 word ≤ most = leb-true _ _ p.1 in
          let q = and_parts (not (is_empty word) && not (is_padded word)) (list_all is_ascii_digit word) p.0 in
          let r = and_parts (not (is_empty word)) (not (is_padded word)) q.0 in
          (subst (λ (k : ℕ). k ≤ most) same small, sym (decimal-digits_value own word q.1 (filled word r.0) (unpadded word r.0 r.1) (omega arith)) ∙ ap decimal same)
      | inr f ↦ absurd (no_some n (rw f at e))
    ]

not_empty : (ds : List ℕ) → 0 < length ds → not (is_empty ds) ≡ true
not_empty [] h = absurd (omega arith)
not_empty (d ∷ ds) h = refl

not_padded : (ds : List ℕ) → 48 < get_or ds 0 0 → not (is_padded ds) ≡ true
not_padded [] h = refl
not_padded (d ∷ ds) h = let far : (d == 48) ≡ false = ne_eqb d 48 (λ e. absurd (omega arith)) in rw far refl

decimal_unpadded : (n : ℕ) → n < 2 ^ 64 → not (is_padded (decimal n)) ≡ true
decimal_unpadded zero small = rw (decimal_digit 0 (omega arith)) refl
decimal_unpadded (suc n) small = not_padded (decimal (suc n)) (first_decimal (suc n) (omega arith) small)

decimal_plain : (n : ℕ) → n < 2 ^ 64 → is_plain (decimal n) ≡ true
decimal_plain n small = and_from _ _ (and_from _ _ (not_empty (decimal n) (decimal_nonempty n small)) (decimal_unpadded n small)) (digits_decimal own n small)

-- the decimal text of a number spells it
pub number_decimal : (most : ℕ) → most < 2 ^ 64 → (n : ℕ) → n ≤ most → number_up_to most (decimal n) ≡ Some n
number_decimal most wide n small =
    let value : digits_value 10 (decimal n) ≡ n = digits_value-decimal own n (omega arith) in
    rw (decimal_plain n (omega arith), value, le-leb n most small) refl
