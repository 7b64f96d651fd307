-- Two lists, item by item.
use Rattle.std.proofs.Common.{◌≡◌, ◌<◌, ℕ, zero, suc, ◌+◌, List, [], ◌∷◌, ◌++◌, length, All, ◌∙◌, sym, subst, arith, Result, Ok, Err, IfOk}
use Rattle.std.specs.Prelude.{slice_index_or}
use Rattle.std.proofs.lemmas.List.Elements.{All-cons}
use Rattle.lnfs_workers.specs.Pairs.{Each, EachAt}

pub each_push : {A B : Type 0} (R : A → B → Type 0) (xs : List A) (ys : List B) (x : A) (y : B) → Each R xs ys → R x y → Each R (xs ++ x ∷ []) (ys ++ y ∷ [])
each_push R [] [] x y e r = (r, tt)
each_push R [] (z ∷ ys) x y e r = absurd e
each_push R (z ∷ xs) [] x y e r = absurd e
each_push R (z ∷ xs) (w ∷ ys) x y e r = (e.0, each_push R xs ys x y e.1 r)

pub each_at_push : {A B : Type 0} (R : ℕ → A → B → Type 0) (n k : ℕ) (xs : List A) (ys : List B) (x : A) (y : B) → k ≡ n + length xs → EachAt R n xs ys → R k x y → EachAt R n (xs ++ x ∷ []) (ys ++ y ∷ [])
each_at_push R n k [] [] x y is e r = (subst (λ (i : ℕ). R i x y) (is ∙ omega arith) r, tt)
each_at_push R n k [] (z ∷ ys) x y is e r = absurd e
each_at_push R n k (z ∷ xs) [] x y is e r = absurd e
each_at_push R n k (z ∷ xs) (w ∷ ys) x y is e r = (e.0, each_at_push R (n + 1) k xs ys x y (omega arith) e.1 r)

-- three facts of one answer give a fourth
pub if_ok_three : {X E : Type 0} (P Q R W : X → Type 0) → ((x : X) → P x → Q x → R x → W x) → (r : Result X E) → IfOk r P → IfOk r Q → IfOk r R → IfOk r W
if_ok_three P Q R W from (Ok x) p q s = from x p q s
if_ok_three P Q R W from (Err e) p q s = tt

pub if_ok_two : {X E : Type 0} (P Q W : X → Type 0) → ((x : X) → P x → Q x → W x) → (r : Result X E) → IfOk r P → IfOk r Q → IfOk r W
if_ok_two P Q W from (Ok x) p q = from x p q
if_ok_two P Q W from (Err e) p q = tt

-- what holds of the items at each place holds item by item
pub each_by_place : {A B : Type 0} (R : A → B → Type 0) (xs : List A) (ys : List B) → length ys ≡ length xs
    → ((i : ℕ) (d : B) → i < length xs → (x : A) × ((e : A) → slice_index_or xs i e ≡ x) × R x (slice_index_or ys i d)) → Each R xs ys
each_by_place R [] [] long f = tt
each_by_place R [] (y ∷ ys) long f = absurd (omega arith)
each_by_place R (x ∷ xs) [] long f = absurd (omega arith)
each_by_place {A} {B} R (x ∷ xs) (y ∷ ys) long f =
    let h = f zero y (omega arith) in
    let here : x ≡ h.0 = h.1 x in
    (subst (λ (z : A). R z y) (sym here) h.2, each_by_place R xs ys (omega arith) (λ i d less. f (suc i) d (omega arith)))

-- through two lists between
pub each_through : {A B C D : Type 0} (P : A → B → Type 0) (Q : B → C → Type 0) (S : C → D → Type 0) (R : A → D → Type 0) → ((a : A) (b : B) (c : C) (d : D) → P a b → Q b c → S c d → R a d)
    → (ws : List A) (xs : List B) (ys : List C) (zs : List D) → Each P ws xs → Each Q xs ys → Each S ys zs → Each R ws zs
each_through P Q S R from [] [] [] [] p q s = tt
each_through P Q S R from [] [] [] (z ∷ zs) p q s = absurd s
each_through P Q S R from [] [] (y ∷ ys) zs p q s = absurd q
each_through P Q S R from [] (x ∷ xs) ys zs p q s = absurd p
each_through P Q S R from (w ∷ ws) [] ys zs p q s = absurd p
each_through P Q S R from (w ∷ ws) (x ∷ xs) [] zs p q s = absurd q
each_through P Q S R from (w ∷ ws) (x ∷ xs) (y ∷ ys) [] p q s = absurd s
each_through P Q S R from (w ∷ ws) (x ∷ xs) (y ∷ ys) (z ∷ zs) p q s = (from w x y z p.0 q.0 s.0, each_through P Q S R from ws xs ys zs p.1 q.1 s.1)

-- what holds of each item of a list holds of those that are paired with it
pub each_all : {A B : Type 0} (R : A → B → Type 0) (P : A → Type 0) (Q : B → Type 0) → ((x : A) (y : B) → R x y → P x → Q y) → (xs : List A) (ys : List B) → Each R xs ys → All P xs → All Q ys
each_all R P Q from [] [] e a = λ k d less. absurd (omega arith)
each_all R P Q from [] (y ∷ ys) e a = absurd e
each_all R P Q from (x ∷ xs) [] e a = absurd e
each_all R P Q from (x ∷ xs) (y ∷ ys) e a = All-cons Q y ys (from x y e.0 (a zero x (omega arith))) (each_all R P Q from xs ys e.1 (λ k d less. a (suc k) d (omega arith)))
