-- Words of a bitmap, with zeros behind them and without.
use Rattle.std.proofs.Common.{◌≡◌, ◌+◌, ℕ, ◌<◌, ◌≤◌, zero, suc, cond, eqb, Bool, true, false, List, [], ◌∷◌, ◌++◌, length, take, get_or, Ok, Err, refl, sym, ap, subst, ◌∙◌, arith}
use Rattle.std.proofs.Math.ListN.{set}
use Rattle.std.specs.List.{AllByRecursion}
use Rattle.std.proofs.lemmas.Bool.{eqb-true}
use Rattle.std.proofs.lemmas.Bool.Decides.{nat_tests}
use Rattle.std.proofs.lemmas.List.{take_more}
use Rattle.lnfs_xdr.specs.Reading.{Read}
use Rattle.lnfs_xdr.proofs.Loops.{grown}
use Rattle.std.proofs.lemmas.List.Elements.{recursion_from_All}
use Rattle.lnfs_xdr.specs.Format.{Word}
use Rattle.lnfs_xdr.specs.Canon.{word}
use Rattle.lnfs_xdr.proofs.Spelled.{Spelled, word_spelled, count_spelled, times_spelled, done_spelled, ◌▸◌, last}
use Rattle.lnfs_attrs.specs.declared.bitmap.Bitmap.{Bitmap}
use Rattle.lnfs_attrs.specs.Bitmaps.{filled, before, trimmed, bitmap, so_many_words, bitmap_text, IsWord, BitmapFits}

-- nothing was read before
pub grown_none : (r : Read (ℕ × ℕ) (List ℕ)) → grown [] r ≡ r
grown_none (Ok p) = refl
grown_none (Err s) = refl

-- ---- one more word, which is a zero or not

not_zero : (n : ℕ) → (n ≡ 0 → ⊥) → eqb n 0 ≡ false
not_zero n some = grind (arith, nat_tests)

before_some : (y : ℕ) (ys : List ℕ) (x : ℕ) → before y (ys ++ x ∷ []) ≡ y ∷ (ys ++ x ∷ [])
before_some y [] x = refl
before_some y (z ∷ zs) x = refl

before_cond : (y : ℕ) (ys : List ℕ) (x : ℕ) (b : Bool) → before y (cond b (trimmed ys) (ys ++ x ∷ [])) ≡ cond b (before y (trimmed ys)) (y ∷ (ys ++ x ∷ []))
before_cond y ys x true = refl
before_cond y ys x false = before_some y ys x

pub trimmed_push : (xs : List ℕ) (x : ℕ) → trimmed (xs ++ x ∷ []) ≡ cond (eqb x 0) (trimmed xs) (xs ++ x ∷ [])
unfolding trimmed
trimmed_push [] x = refl
trimmed_push (y ∷ ys) x = ap (before y) (trimmed_push ys x) ∙ before_cond y ys x (eqb x 0)

-- a word in its place in a list
used_more : (xs : List ℕ) (i : ℕ) → i < length xs → trimmed (take (i + 1) xs) ≡ cond (eqb (get_or xs i 0) 0) (trimmed (take i xs)) (take (i + 1) xs)
used_more xs i lt =
    let more = take_more xs i 0 lt in
    ap trimmed more ∙ trimmed_push (take i xs) (get_or xs i 0) ∙ ap (λ (ys : List ℕ). cond (eqb (get_or xs i 0) 0) (trimmed (take i xs)) ys) (sym more)

pub used_here : (xs : List ℕ) (i : ℕ) → i < length xs → (get_or xs i 0 ≡ 0 → ⊥) → trimmed (take (i + 1) xs) ≡ take (i + 1) xs
used_here xs i lt some = used_more xs i lt ∙ ap (λ (b : Bool). cond b (trimmed (take i xs)) (take (i + 1) xs)) (not_zero (get_or xs i 0) some)

pub used_before : (xs : List ℕ) (i : ℕ) → i < length xs → get_or xs i 0 ≡ 0 → trimmed (take (i + 1) xs) ≡ trimmed (take i xs)
used_before xs i lt none = used_more xs i lt ∙ ap (λ (n : ℕ). cond (eqb n 0) (trimmed (take i xs)) (take (i + 1) xs)) none

-- ---- zeros behind

filled_one : (n x : ℕ) (b : Bool) → eqb x 0 ≡ b → filled (suc n) (cond b [] (x ∷ [])) ≡ x ∷ filled n []
unfolding filled
filled_one n x true e = ap (λ (y : ℕ). y ∷ filled n []) (sym (eqb-true x 0 e))
filled_one n x false e = refl

filled_before : (n x : ℕ) (xs : List ℕ) → filled (suc n) (before x xs) ≡ x ∷ filled n xs
unfolding filled
filled_before n x [] = filled_one n x (eqb x 0) refl
filled_before n x (y ∷ ys) = refl

pub filled_trimmed : (n : ℕ) (xs : List ℕ) → length xs ≡ n → filled n (trimmed xs) ≡ xs
unfolding filled trimmed
filled_trimmed zero [] e = refl
filled_trimmed (suc n) [] e = absurd (omega arith)
filled_trimmed zero (x ∷ xs) e = absurd (omega arith)
filled_trimmed (suc n) (x ∷ xs) e = filled_before n x (trimmed xs) ∙ ap (λ (ys : List ℕ). x ∷ ys) (filled_trimmed n xs (omega (arith, e)))

-- the next word in its place
pub filled_set : (n : ℕ) (xs : List ℕ) (i x : ℕ) → length xs ≡ i → i < n → set (filled n xs) i x ≡ filled n (xs ++ x ∷ [])
unfolding filled
filled_set zero xs i x e lt = absurd (omega arith)
filled_set (suc n) [] zero x e lt = refl
filled_set (suc n) [] (suc i) x e lt = absurd (omega arith)
filled_set (suc n) (y ∷ ys) zero x e lt = absurd (omega arith)
filled_set (suc n) (y ∷ ys) (suc i) x e lt = ap (λ (zs : List ℕ). y ∷ zs) (filled_set n ys i x (omega (arith, e)) (omega arith))

-- no words, then zeros
pub filled_none : filled 8 [] ≡ 0 ∷ 0 ∷ 0 ∷ 0 ∷ 0 ∷ 0 ∷ 0 ∷ 0 ∷ []
unfolding filled
filled_none = refl

-- ---- the text is a spelling

one_short : (x : ℕ) (b : Bool) → length (cond b [] (x ∷ [])) ≤ 1
one_short x true = omega arith
one_short x false = omega arith

pub before_short : (x : ℕ) (xs : List ℕ) → length (before x xs) ≤ suc (length xs)
before_short x [] = one_short x (eqb x 0)
before_short x (y ∷ ys) = omega arith

pub trimmed_short : (xs : List ℕ) → length (trimmed xs) ≤ length xs
unfolding trimmed
trimmed_short [] = omega arith
trimmed_short (x ∷ xs) = omega (arith, before_short x (trimmed xs), trimmed_short xs)

one_fits : (x : ℕ) (b : Bool) → IsWord x → AllByRecursion IsWord (cond b [] (x ∷ []))
one_fits x true lt = tt
one_fits x false lt = (lt, tt)

before_fits : (x : ℕ) (xs : List ℕ) → IsWord x → AllByRecursion IsWord xs → AllByRecursion IsWord (before x xs)
before_fits x [] lt all = one_fits x (eqb x 0) lt
before_fits x (y ∷ ys) lt all = (lt, all)

words_fit : (xs : List ℕ) → AllByRecursion IsWord xs → AllByRecursion IsWord (trimmed xs)
unfolding trimmed
words_fit [] all = tt
words_fit (x ∷ xs) all = before_fits x (trimmed xs) all.0 (words_fit xs all.1)

words_spelled : (xs : List ℕ) → AllByRecursion IsWord xs → AllByRecursion (λ x. Spelled {E = ℕ × ℕ} Word x (word x)) xs
words_spelled [] all = tt
words_spelled (x ∷ xs) all = (word_spelled x all.0, words_spelled xs all.1)

pub bitmap_spelled : (b : Bitmap) → BitmapFits b → Spelled bitmap b (bitmap_text b)
unfolding bitmap so_many_words bitmap_text
bitmap_spelled b fits =
    let some : List ℕ = trimmed b.words in
    let short : length some ≤ 8 = omega (arith, trimmed_short b.words, fits.0) in
    let all = words_fit b.words (recursion_from_All IsWord b.words fits.1) in
    let read_back : Bitmap = record { words = filled 8 some } in
    let same : read_back ≡ b = ap (λ (ws : List ℕ). let x : Bitmap = record { words = ws } in x) (filled_trimmed 8 b.words fits.0) in
    subst (λ (x : Bitmap). Spelled bitmap x (bitmap_text b)) same (count_spelled 8 (length some) short (omega arith) ▸ last (times_spelled Word word some (words_spelled some all)) (done_spelled read_back))
