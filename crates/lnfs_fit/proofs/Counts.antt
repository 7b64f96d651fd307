-- How many rows pass a test.
use Rattle.std.proofs.Common.{◌≡◌, ℕ, zero, suc, ◌+◌, ◌<◌, Bool, false, cond, List, [], ◌∷◌, refl, sym, ap, ◌∙◌, length, get_or, map, arith}
use Rattle.std.specs.Prelude.{count_by}
use Rattle.std.specs.List.{AllByRecursion}
use Rattle.std.proofs.lemmas.List.Sums.{sum_by-cons}

pub count_map : {A B : Type 0} (f : A → B) (q : B → Bool) (xs : List A) → count_by q (map f xs) ≡ count_by (λ x. q (f x)) xs
count_map f q [] = refl
count_map f q (x ∷ xs) =
    sum_by-cons (λ y. cond (q y) 1 0) (f x) (map f xs)
    ∙ ap (λ n. cond (q (f x)) 1 0 + n) (count_map f q xs)
    ∙ sym (sum_by-cons (λ y. cond (q (f y)) 1 0) x xs)

-- as many of one list as of another, where tests agree at each place
pub count_paired : {X : Type 0} (d : X) (p : ℕ → Bool) (q : X → Bool) (ns : List ℕ) (xs : List X) → length ns ≡ length xs → ((t : ℕ) → t < length xs → p (get_or ns t 0) ≡ q (get_or xs t d)) → count_by p ns ≡ count_by q xs
count_paired d p q [] [] len each = refl
count_paired d p q [] (x ∷ xs) len each = absurd (omega arith)
count_paired d p q (n ∷ ns) [] len each = absurd (omega arith)
count_paired d p q (n ∷ ns) (x ∷ xs) len each =
    let here : p n ≡ q x = each zero (omega arith) in
    let rest : count_by p ns ≡ count_by q xs = count_paired d p q ns xs (omega arith) (λ t less. each (suc t) (omega arith)) in
    sum_by-cons (λ m. cond (p m) 1 0) n ns
    ∙ (λ i. cond (here i) 1 0 + rest i)
    ∙ sym (sum_by-cons (λ y. cond (q y) 1 0) x xs)

pub none_counted : {X : Type 0} (q : X → Bool) (xs : List X) → AllByRecursion (λ x. q x ≡ false) xs → count_by q xs ≡ 0
none_counted q [] all = refl
none_counted q (x ∷ xs) all =
    sum_by-cons (λ y. cond (q y) 1 0) x xs
    ∙ (λ i. cond (all.0 i) 1 0 + none_counted q xs all.1 i)
