-- Laws of keyed rows.
use Rattle.std.proofs.Common.{◌≡◌, Bool, true, false, cond, List, [], ◌∷◌, ◌||◌, Option, Some, refl, sym, ◌∙◌, subst, arith}
use Rattle.std.specs.Prelude.{filter, count_by, sum_by, length, ℕ}
use Rattle.std.proofs.lemmas.List.Sums.{length-filter, sum_by-cons}
use Rattle.std.proofs.lemmas.Bool.{or_parts, false≢true}
use Rattle.std.specs.Option.{option_map}
use Rattle.std.specs.List.{find, AllByRecursion, list_any}
use Rattle.lnfs_world.specs.Rows.{updated, kept}

module _ {X : Type 0} (p : X → Bool) (f : X → X) where
  -- to see what is seen
  pub kept_within : (p' : X → Bool) (f' : X → X) → ((x : X) → p (f' x) ≡ p x) → ((x : X) → f (f' x) ≡ f x) → (xs : List X) → AllByRecursion (λ x. p x ≡ true → p' x ≡ true) xs → kept p f (kept p' f' xs) ≡ kept p f xs
  kept_within p' f' seen same [] all = refl
  kept_within p' f' seen same (x ∷ xs) all = grind (arith, kept_within p' f' seen same xs all.1, all.0, seen x, same x)

  pub kept_twice : (p' : X → Bool) (f' : X → X) → ((x : X) → p x ≡ true → p' x ≡ true) → ((x : X) → p (f' x) ≡ p x) → ((x : X) → f (f' x) ≡ f x) → (xs : List X) → kept p f (kept p' f' xs) ≡ kept p f xs
  kept_twice p' f' below seen same [] = refl
  kept_twice p' f' below seen same (x ∷ xs) = grind (arith, kept_twice p' f' below seen same xs, below x, seen x, same x)

  -- a test that only looks at what is seen finds the same row
  pub find-kept : (q : X → Bool) → ((x : X) → q x ≡ true → p x ≡ true) → ((x : X) → q (f x) ≡ q x) → (xs : List X) → find q (kept p f xs) ≡ option_map f (find q xs)
  find-kept q seen same [] = refl
  find-kept q seen same (x ∷ xs) = grind (arith, find-kept q seen same xs, seen x, same x)

  -- a change of the first row found that does not show
  pub updated_same : (q : X → Bool) (g : X → X) (old : X) → p (g old) ≡ p old → f (g old) ≡ f old → (xs : List X) → find q xs ≡ Some old → kept p f (updated q g xs) ≡ kept p f xs
  updated_same q g old sees looks [] found = grind arith
  updated_same q g old sees looks (x ∷ xs) found = grind (arith, updated_same q g old sees looks xs)

  -- a change of a row that is not seen, by its key
  pub updated_unseen : (q : X → Bool) (g : X → X) → ((x : X) → p (g x) ≡ p x) → ((x : X) → q x ≡ true → p x ≡ false) → (xs : List X) → kept p f (updated q g xs) ≡ kept p f xs
  updated_unseen q g sees unseen [] = refl
  updated_unseen q g sees unseen (x ∷ xs) = grind (arith, updated_unseen q g sees unseen xs, sees x, unseen x)

  -- a change is seen in the same way over what was seen. All rows of the key that is changed are seen, or none
  pub updated_seen : (q : X → Bool) (g : X → X) (all : Bool) → ((x : X) → q x ≡ true → p x ≡ all) → ((x : X) → p (g x) ≡ p x) → ((x : X) → p (f x) ≡ p x) → ((x : X) → f (f x) ≡ f x) → ((x : X) → q (f x) ≡ q x) → ((x : X) → f (g (f x)) ≡ f (g x)) → (xs : List X) → kept p f (updated q g xs) ≡ kept p f (updated q g (kept p f xs))
  updated_seen q g all by_key stays seen again key later [] = refl
  updated_seen q g all by_key stays seen again key later (x ∷ xs) =
      let hidden : all ≡ false → kept p f (updated q g xs) ≡ kept p f xs = λ e. updated_unseen q g stays (λ y m. by_key y m ∙ e) xs in
      grind (arith, updated_seen q g all by_key stays seen again key later xs, kept_twice p f (λ x e. e) seen again xs, hidden, by_key x, stays x, seen x, again x, key x, later x)

  -- the same, where only rows of the list that pass are seen
  pub find-kept_within : (q : X → Bool) → ((x : X) → q (f x) ≡ q x) → (xs : List X) → AllByRecursion (λ x. q x ≡ true → p x ≡ true) xs → find q (kept p f xs) ≡ option_map f (find q xs)
  find-kept_within q same [] all = refl
  find-kept_within q same (x ∷ xs) all = grind (arith, find-kept_within q same xs all.1, all.0, same x)

  -- a filter of what is seen
  pub filter-kept : (q : X → Bool) → ((x : X) → q x ≡ true → p x ≡ true) → ((x : X) → q x ≡ true → f x ≡ x) → ((x : X) → q (f x) ≡ q x) → (xs : List X) → filter q (kept p f xs) ≡ filter q xs
  filter-kept q seen whole same [] = refl
  filter-kept q seen whole same (x ∷ xs) = grind (arith, filter-kept q seen whole same xs, seen x, whole x, same x)

  pub filter_seen : (q : X → Bool) → ((x : X) → p (f x) ≡ p x) → ((x : X) → f (f x) ≡ f x) → ((x : X) → q (f x) ≡ q x) → (xs : List X) → kept p f (filter q xs) ≡ kept p f (filter q (kept p f xs))
  filter_seen q seen again key [] = refl
  filter_seen q seen again key (x ∷ xs) = grind (arith, filter_seen q seen again key xs, seen x, again x, key x)

  -- what is seen of less is seen of what was seen
  pub filter_within : (p' : X → Bool) (f' : X → X) (q : X → Bool) → ((x : X) → p (f' x) ≡ p x) → ((x : X) → f (f' x) ≡ f x) → ((x : X) → q (f' x) ≡ q x) → (xs : List X) → AllByRecursion (λ x. p x ≡ true → p' x ≡ true) xs → kept p f (filter q xs) ≡ kept p f (filter q (kept p' f' xs))
  filter_within p' f' q seen same key [] all = refl
  filter_within p' f' q seen same key (x ∷ xs) all = grind (arith, filter_within p' f' q seen same key xs all.1, all.0, seen x, same x, key x)

  -- a filter of rows that are not seen changes nothing
  pub filter_unseen : (q : X → Bool) (xs : List X) → AllByRecursion (λ x. p x ≡ true → q x ≡ true) xs → kept p f (filter q xs) ≡ kept p f xs
  filter_unseen q [] all = refl
  filter_unseen q (x ∷ xs) all = grind (arith, filter_unseen q xs all.1, all.0)

  -- two tests that agree at each row keep the same rows
  pub kept_agree : (q : X → Bool) (xs : List X) → AllByRecursion (λ x. p x ≡ q x) xs → kept p f xs ≡ kept q f xs
  kept_agree q [] all = refl
  kept_agree q (x ∷ xs) all = grind (arith, kept_agree q xs all.1, all.0)

  -- a test of what is seen passes where it did
  pub any-kept : (q q' : X → Bool) (xs : List X) → AllByRecursion (λ x. (q x ≡ true → p x ≡ true) × (p x ≡ true → q' (f x) ≡ q x)) xs → list_any q' (kept p f xs) ≡ list_any q xs
  any-kept q q' [] all = refl
  any-kept q q' (x ∷ xs) all = grind (arith, any-kept q q' xs all.1, all.0.0, all.0.1)

  pub sum-kept : (g : X → ℕ) (xs : List X) → AllByRecursion (λ x. (p x ≡ false → g x ≡ 0) × (p x ≡ true → g (f x) ≡ g x)) xs → sum_by g (kept p f xs) ≡ sum_by g xs
  sum-kept g [] all = refl
  sum-kept g (x ∷ xs) all = at (p x) all.0.0 all.0.1 (sum-kept g xs all.1)
    where
      at : (b : Bool) → (b ≡ false → g x ≡ 0) → (b ≡ true → g (f x) ≡ g x) → sum_by g (kept p f xs) ≡ sum_by g xs → sum_by g (cond b (f x ∷ kept p f xs) (kept p f xs)) ≡ sum_by g (x ∷ xs)
      at true hidden seen rest = rw (sum_by-cons, sum_by-cons) (cc (seen refl))
      at false hidden seen rest = rw sum_by-cons (omega (arith, hidden refl))

  length-kept : (q : X → Bool) → ((x : X) → q x ≡ true → p x ≡ true) → ((x : X) → q (f x) ≡ q x) → (xs : List X) → length (filter q (kept p f xs)) ≡ length (filter q xs)
  length-kept q seen same [] = refl
  length-kept q seen same (x ∷ xs) = grind (arith, length-kept q seen same xs, seen x, same x)

  pub count-kept : (q : X → Bool) → ((x : X) → q x ≡ true → p x ≡ true) → ((x : X) → q (f x) ≡ q x) → (xs : List X) → count_by q (kept p f xs) ≡ count_by q xs
  count-kept q seen same xs = sym (length-filter q (kept p f xs)) ∙ length-kept q seen same xs ∙ length-filter q xs

module _ {X : Type 0} where
  pub all_anyway : (P : X → Type 0) → ((x : X) → P x) → (xs : List X) → AllByRecursion P xs
  all_anyway P each [] = tt
  all_anyway P each (x ∷ xs) = (each x, all_anyway P each xs)

  pub all_weaker : (P Q : X → Type 0) → ((x : X) → P x → Q x) → (xs : List X) → AllByRecursion P xs → AllByRecursion Q xs
  all_weaker P Q each [] all = tt
  all_weaker P Q each (x ∷ xs) all = (each x all.0, all_weaker P Q each xs all.1)

  pub all_cond : (P : X → Type 0) (b : Bool) (x : X) (xs : List X) → (b ≡ true → P x) → AllByRecursion P xs → AllByRecursion P (cond b (x ∷ xs) xs)
  all_cond P true x xs here all = (here refl, all)
  all_cond P false x xs here all = all

  pub all_filter : (P : X → Type 0) (q : X → Bool) (xs : List X) → AllByRecursion P xs → AllByRecursion (λ x. (q x ≡ true) × P x) (filter q xs)
  all_filter P q [] all = tt
  all_filter P q (x ∷ xs) all = all_cond (λ y. (q y ≡ true) × P y) (q x) x (filter q xs) (λ e. (e, all.0)) (all_filter P q xs all.1)

  pub all_updated : (P : X → Type 0) (q : X → Bool) (g : X → X) (xs : List X) → ((x : X) → q x ≡ true → P x → P (g x)) → AllByRecursion P xs → AllByRecursion P (updated q g xs)
  all_updated P q g [] each all = tt
  all_updated P q g (x ∷ xs) each all = at (q x) (each x) (all_updated P q g xs each all.1)
    where
      at : (b : Bool) → (b ≡ true → P x → P (g x)) → AllByRecursion P (updated q g xs) → AllByRecursion P (cond b (g x ∷ xs) (x ∷ updated q g xs))
      at true here rest = (here refl all.0, all.1)
      at false here rest = (all.0, rest)

  find_cond : (P : X → Type 0) (q : X → Bool) (b : Bool) (y x : X) (o : Option X) → (b ≡ true → P y × (q y ≡ true)) → (o ≡ Some x → P x × (q x ≡ true)) → cond b (Some y) o ≡ Some x → P x × (q x ≡ true)
  find_cond P q true y x o here there found = let same : y ≡ x = cc in subst (λ z. P z × (q z ≡ true)) same (here refl)
  find_cond P q false y x o here there found = there found

  -- what is true of each row is true of one that passes a test
  pub all_find : (P : X → Type 0) (q : X → Bool) (xs : List X) (x : X) → AllByRecursion P xs → find q xs ≡ Some x → P x × (q x ≡ true)
  all_find P q [] x all found = grind arith
  all_find P q (y ∷ ys) x all found = find_cond P q (q y) y x (find q ys) (λ e. (all.0, e)) (all_find P q ys x all.1) found

  pub none_any : (q : X → Bool) (xs : List X) → list_any q xs ≡ false → AllByRecursion (λ x. q x ≡ false) xs
  none_any q [] none = tt
  none_any q (x ∷ xs) none = ((or_parts (q x) (list_any q xs) none).0, none_any q xs (or_parts (q x) (list_any q xs) none).1)

  pub all_two : (P Q R : X → Type 0) → ((x : X) → P x → Q x → R x) → (xs : List X) → AllByRecursion P xs → AllByRecursion Q xs → AllByRecursion R xs
  all_two P Q R each [] all others = tt
  all_two P Q R each (x ∷ xs) all others = (each x all.0 others.0, all_two P Q R each xs all.1 others.1)

  -- some row passes a test, so one passes a weaker test
  pub any_weaker : (p q : X → Bool) (xs : List X) → AllByRecursion (λ x. p x ≡ true → q x ≡ true) xs → list_any p xs ≡ true → list_any q xs ≡ true
  any_weaker p q [] all some = some
  any_weaker p q (x ∷ xs) all some = grind (arith, all.0, any_weaker p q xs all.1)

  pub any_filter : (p q : X → Bool) (xs : List X) → AllByRecursion (λ x. p x ≡ true → q x ≡ true) xs → list_any p xs ≡ true → list_any p (filter q xs) ≡ true
  any_filter p q [] all some = some
  any_filter p q (x ∷ xs) all some = grind (arith, all.0, any_filter p q xs all.1)

  -- some row passes a test, and is left by a filter, or makes something else true
  pub any_left : (p q : X → Bool) (xs : List X) (t : Bool) → AllByRecursion (λ x. p x ≡ true → q x ≡ false → t ≡ true) xs → list_any p xs ≡ true → (list_any p (filter q xs) || t) ≡ true
  any_left p q [] t all some = grind arith
  any_left p q (x ∷ xs) t all some = grind (arith, all.0, any_left p q xs t all.1)

  -- a test that passes nowhere or everywhere
  pub any_constant : (t : Bool) (xs : List X) → list_any (λ x. t) xs ≡ true → t ≡ true
  any_constant t [] some = absurd (false≢true some)
  any_constant t (x ∷ xs) some = grind (arith, any_constant t xs)

  -- a row that was found is there
  pub any_found : (q r : X → Bool) (xs : List X) (x : X) → find q xs ≡ Some x → r x ≡ true → list_any r xs ≡ true
  any_found q r [] x found passes = grind arith
  any_found q r (y ∷ xs) x found passes = grind (arith, any_found q r xs x)

  pub any-find : (q r : X → Bool) → ((x : X) → q x ≡ true → r x ≡ true) → (xs : List X) (x : X) → find q xs ≡ Some x → list_any r xs ≡ true
  any-find q r weaker [] x found = grind arith
  any-find q r weaker (y ∷ xs) x found = grind (arith, weaker y, any-find q r weaker xs x)

  -- a row that passes a test, with what holds of every row
  pub any_row : (P : X → Type 0) (q : X → Bool) (xs : List X) → AllByRecursion P xs → list_any q xs ≡ true → (x : X) × P x × (q x ≡ true)
  any_row P q [] all some = absurd (grind arith)
  any_row P q (x ∷ xs) all some = at (q x) refl (any_row P q xs all.1)
    where
      at : (b : Bool) → q x ≡ b → (list_any q xs ≡ true → (y : X) × P y × (q y ≡ true)) → (y : X) × P y × (q y ≡ true)
      at true is rest = (x, all.0, is)
      at false is rest = rest (grind arith)

  pub none_left : (p q : X → Bool) (xs : List X) → list_any p xs ≡ false → list_any p (filter q xs) ≡ false
  none_left p q [] none = none
  none_left p q (x ∷ xs) none = grind (arith, none_left p q xs)

  -- no row passes a test that each row fails
  pub all_none : (q : X → Bool) (xs : List X) → AllByRecursion (λ x. q x ≡ false) xs → list_any q xs ≡ false
  all_none q [] all = refl
  all_none q (x ∷ xs) all = grind (arith, all.0, all_none q xs all.1)

  -- what is true of each row is true of each that a filter leaves
  pub all_left : (P : X → Type 0) (q : X → Bool) (xs : List X) → AllByRecursion P xs → AllByRecursion P (filter q xs)
  all_left P q xs all = all_weaker _ _ (λ x both. both.1) _ (all_filter P q xs all)

  -- every row is among the rows
  pub all_among : (same : X → X → Bool) → ((x : X) → same x x ≡ true) → (xs : List X) → AllByRecursion (λ x. list_any (λ y. same y x) xs ≡ true) xs
  all_among same itself [] = tt
  all_among same itself (x ∷ xs) = (grind (arith, itself x), all_weaker _ _ (λ y is. grind (arith, is)) xs (all_among same itself xs))
