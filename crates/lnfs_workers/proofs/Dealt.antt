-- Hands that were dealt in turn.
use Rattle.std.proofs.Common.{◌≡◌, ℕ, zero, suc, ◌+◌, ◌<◌, ◌≤◌, List, [], ◌∷◌, ◌++◌, length, Some, None, All, refl, sym, ap, ◌∙◌, subst, ⊎_elim, arith, append_assoc}
use Rattle.std.specs.Prelude.{slice_get, slice_index_or, take, drop}
use Rattle.std.proofs.lemmas.List.{length_push}
use Rattle.std.proofs.lemmas.List.Elements.{All-cons}
use Rattle.lnfs_workers.specs.Dealt.{AllAt, Hand, PutNext, TookNext}
use Rattle.lnfs_workers.specs.Pairs.{Each, EachAt}

pub none_left : {A : Type 0} (xs : List A) → length xs ≡ 0 → xs ≡ []
none_left [] is = refl
none_left (x ∷ xs) is = absurd (omega arith)

all_at_last : {A : Type 0} (R : ℕ → A → Type 0) (n : ℕ) (xs : List A) (x : A) → AllAt R n (xs ++ x ∷ []) → AllAt R n xs × R (n + length xs) x
all_at_last R n [] x a = (tt, subst (λ (k : ℕ). R k x) (omega arith) a.0)
all_at_last R n (y ∷ xs) x a = let t = all_at_last R (n + 1) xs x a.1 in ((a.0, t.0), subst (λ (k : ℕ). R k x) (omega arith) t.1)

pub all_at_snoc : {A : Type 0} (R : ℕ → A → Type 0) (n k : ℕ) (xs : List A) (x : A) → k ≡ n + length xs → AllAt R n xs → R k x → AllAt R n (xs ++ x ∷ [])
all_at_snoc R n k [] x is a r = (subst (λ (j : ℕ). R j x) (is ∙ omega arith) r, tt)
all_at_snoc R n k (y ∷ xs) x is a r = (a.0, all_at_snoc R (n + 1) k xs x (omega arith) a.1 r)

module _ {W A : Type 0} (f : W → List A) (P : ℕ → A → Type 0) (count step : ℕ) where
  abbrev pub Dealt : ℕ → List W → Type 0
  Dealt n hands = AllAt (λ m hand. Hand P count step m (f hand)) n hands

  pub dealt_none : (n : ℕ) (hands : List W) → count ≤ n → All (λ hand. f hand ≡ []) hands → Dealt n hands
  dealt_none n [] le h = tt
  dealt_none n (w ∷ ws) le h = (
    subst (λ (l : List A). Hand P count step n l) (sym (h zero w (omega arith))) le,
    dealt_none (n + 1) ws (omega arith) (λ k d less. h (suc k) d (omega arith)),
  )

  pub dealt_put : (n : ℕ) (old new : List W) (x : A) → length old ≡ step → n < count → P n x → PutNext f old x new → Dealt (n + 1) old → Dealt n new × (length new ≡ step)
  dealt_put n old new x long less p put d =
      let rest = put.0 in let hand = put.1 in let fuller = put.2 in
      let cut = all_at_last (λ m h. Hand P count step m (f h)) (n + 1) rest hand (subst (Dealt (n + 1)) put.3 d) in
      let size : length rest + 1 ≡ step = omega (arith, ap length put.3, length_push rest hand) in
      let first : Hand P count step n (x ∷ f hand) = (less, p, subst (λ (k : ℕ). Hand P count step k (f hand)) (omega arith) cut.1) in (
        subst (Dealt n) (sym put.4) (subst (λ (l : List A). Hand P count step n l) (sym put.5) first, cut.0),
        omega (arith, ap length put.4, size),
      )

  pub dealt_took : (n : ℕ) (old new : List W) (x : A) → length old ≡ step → TookNext f old (Some x) new → Dealt n old → (n < count) × P n x × Dealt (n + 1) new × (length new ≡ step)
  dealt_took n old new x long took d =
      let hand = took.0 in let rest = took.1 in let less = took.2 in
      let cut : Hand P count step n (f hand) × Dealt (n + 1) rest = subst (Dealt n) took.3 d in
      let first : Hand P count step n (x ∷ f less) = subst (λ (l : List A). Hand P count step n l) took.5 cut.0 in
      let size : length rest + 1 ≡ step = omega (arith, ap length took.3) in (
        first.0,
        first.1,
        subst (Dealt (n + 1)) (sym took.4) (all_at_snoc (λ m h. Hand P count step m (f h)) (n + 1) (n + step) rest less (omega arith) cut.1 first.2),
        omega (arith, ap length took.4, length_push rest less, size),
      )

  pub dealt_end : (n : ℕ) (old new : List W) → 0 < step → length old ≡ step → TookNext f old None new → Dealt n old → count ≤ n
  dealt_end n old new some long took d = ⊎_elim
      (λ (e : old ≡ []). absurd (omega (arith, ap length e)))
      (λ (t : (hand : W) × (rest : List W) × (old ≡ hand ∷ rest) × (f hand ≡ [])).
      let cut : Hand P count step n (f t.0) × Dealt (n + 1) t.1 = subst (Dealt n) t.2 d in
      let none : Hand P count step n [] = subst (λ (l : List A). Hand P count step n l) t.3 cut.0 in
      none)
      took

pub get_at : {A : Type 0} (xs : List A) (x : A) (ys : List A) → slice_get (xs ++ x ∷ ys) (length xs) ≡ Some x
get_at [] x ys = refl
get_at (z ∷ xs) x ys = get_at xs x ys

-- hands that were worked on, item by item
hand_worked : {A B : Type 0} (P : ℕ → A → Type 0) (S : A → B → Type 0) (Q : ℕ → B → Type 0) (count step : ℕ) → ((n : ℕ) (x : A) (y : B) → P n x → S x y → Q n y)
    → (n : ℕ) (xs : List A) (ys : List B) → Hand P count step n xs → Each S xs ys → Hand Q count step n ys
hand_worked P S Q count step from n [] [] h e = h
hand_worked P S Q count step from n [] (y ∷ ys) h e = absurd e
hand_worked P S Q count step from n (x ∷ xs) [] h e = absurd e
hand_worked P S Q count step from n (x ∷ xs) (y ∷ ys) h e = (h.0, from n x y h.1 e.0, hand_worked P S Q count step from (n + step) xs ys h.2 e.1)

pub dealt_worked : {V W A B : Type 0} (f : V → List A) (k : W → List B) (P : ℕ → A → Type 0) (S : A → B → Type 0) (Q : ℕ → B → Type 0) (count step : ℕ) → ((n : ℕ) (x : A) (y : B) → P n x → S x y → Q n y)
    → (n : ℕ) (vs : List V) (ws : List W) → Dealt f P count step n vs → Each (λ v w. Each S (f v) (k w)) vs ws → Dealt k Q count step n ws × (length ws ≡ length vs)
dealt_worked f k P S Q count step from n [] [] d e = (tt, refl)
dealt_worked f k P S Q count step from n [] (w ∷ ws) d e = absurd e
dealt_worked f k P S Q count step from n (v ∷ vs) [] d e = absurd e
dealt_worked f k P S Q count step from n (v ∷ vs) (w ∷ ws) d e =
    let t = dealt_worked f k P S Q count step from (n + 1) vs ws d.1 e.1 in
    ((hand_worked P S Q count step from n (f v) (k w) d.0 e.0, t.0), ap suc t.1)

-- what is less of each item that was dealt
hand_weaker : {A : Type 0} (P Q : ℕ → A → Type 0) (count step : ℕ) → ((n : ℕ) (x : A) → P n x → Q n x) → (n : ℕ) (xs : List A) → Hand P count step n xs → Hand Q count step n xs
hand_weaker P Q count step from n [] h = h
hand_weaker P Q count step from n (x ∷ xs) h = (h.0, from n x h.1, hand_weaker P Q count step from (n + step) xs h.2)

pub dealt_weaker : {W A : Type 0} (f : W → List A) (P Q : ℕ → A → Type 0) (count step : ℕ) → ((n : ℕ) (x : A) → P n x → Q n x) → (n : ℕ) (ws : List W) → Dealt f P count step n ws → Dealt f Q count step n ws
dealt_weaker f P Q count step from n [] d = tt
dealt_weaker f P Q count step from n (w ∷ ws) d = (hand_weaker P Q count step from n (f w) d.0, dealt_weaker f P Q count step from (n + 1) ws d.1)

-- what holds of each item that was dealt
hand_all : {A : Type 0} (P : ℕ → A → Type 0) (T : A → Type 0) (count step : ℕ) → ((n : ℕ) (x : A) → P n x → T x) → (n : ℕ) (xs : List A) → Hand P count step n xs → All T xs
hand_all P T count step from n [] h = λ k d less. absurd (omega arith)
hand_all P T count step from n (x ∷ xs) h = All-cons T x xs (from n x h.1) (hand_all P T count step from (n + step) xs h.2)

pub dealt_all : {W A : Type 0} (f : W → List A) (P : ℕ → A → Type 0) (T : A → Type 0) (count step : ℕ) → ((n : ℕ) (x : A) → P n x → T x) → (n : ℕ) (ws : List W) → Dealt f P count step n ws → All (λ w. All T (f w)) ws
dealt_all f P T count step from n [] d = λ k e less. absurd (omega arith)
dealt_all f P T count step from n (w ∷ ws) d = All-cons (λ v. All T (f v)) w ws (hand_all P T count step from n (f w) d.0) (dealt_all f P T count step from (n + 1) ws d.1)

-- an item that stands at a place has its fact, with the item there of the other list
pub each_at_get : {A B : Type 0} (R : ℕ → A → B → Type 0) (n k i : ℕ) (xs : List A) (ys : List B) (y : B) → i ≡ n + k → EachAt R n xs ys → slice_get ys k ≡ Some y → (x : A) × (slice_get xs k ≡ Some x) × R i x y
each_at_get R n k i [] [] y is e here = absurd (cc)
each_at_get R n k i [] (z ∷ ys) y is e here = absurd e
each_at_get R n k i (x ∷ xs) [] y is e here = absurd e
each_at_get R n zero i (x ∷ xs) (z ∷ ys) y is e here =
    let same : z ≡ y = cc in
    (x, refl, subst (λ w. R i x w) same (subst (λ (j : ℕ). R j x z) (sym (is ∙ omega arith)) e.0))
each_at_get R n (suc k) i (x ∷ xs) (z ∷ ys) y is e here = each_at_get R (n + 1) k i xs ys y (omega arith) e.1 here

-- as many items as links, each with the link of its number
pub each_of_all : {A B : Type 0} (U : ℕ → A → B → Type 0) (n : ℕ) (before xs : List A) (ys : List B) → length before ≡ n → length ys ≡ length xs
    → AllAt (λ k y. (x : A) × (slice_get (before ++ xs) k ≡ Some x) × U k x y) n ys → EachAt U n xs ys
each_of_all U n before [] [] is long a = tt
each_of_all U n before [] (y ∷ ys) is long a = absurd (omega arith)
each_of_all U n before (x ∷ xs) [] is long a = absurd (omega arith)
each_of_all {A} {B} U n before (x ∷ xs) (y ∷ ys) is long a =
    let here : slice_get (before ++ x ∷ xs) n ≡ Some x = subst (λ (k : ℕ). slice_get (before ++ x ∷ xs) k ≡ Some x) is (get_at before x xs) in
    let there = a.0.1 in
    let same : a.0.0 ≡ x = cc (here, there) in
    let over = append_assoc before (x ∷ []) xs in (
      subst (λ w. U n w y) same a.0.2,
      each_of_all U (n + 1) (before ++ x ∷ []) xs ys (omega (arith, length_push before x, is)) (omega arith)
          (subst (λ (l : List A). AllAt (λ k z. (w : A) × (slice_get l k ≡ Some w) × U k w z) (n + 1) ys) (sym over) a.1),
    )

pub each_at_length : {A B : Type 0} (R : ℕ → A → B → Type 0) (n : ℕ) (xs : List A) (ys : List B) → EachAt R n xs ys → length ys ≡ length xs
each_at_length R n [] [] e = refl
each_at_length R n [] (y ∷ ys) e = absurd e
each_at_length R n (x ∷ xs) [] e = absurd e
each_at_length R n (x ∷ xs) (y ∷ ys) e = ap suc (each_at_length R (n + 1) xs ys e.1)

-- the first item of a list was removed
pub first_removed : {A : Type 0} (xs ys : List A) (x : A) → 0 < length xs → x ≡ slice_index_or xs 0 x → ys ≡ take 0 xs ++ drop (0 + 1) xs → xs ≡ x ∷ ys
first_removed [] ys x some first rest = absurd (omega arith)
first_removed (z ∷ zs) ys x some first rest = λ i. sym first i ∷ sym rest i
