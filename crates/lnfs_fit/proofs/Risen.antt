-- Rows rise where each lies before the next.
use Rattle.std.proofs.Common.{inl, inr, ◌≡◌, ℕ, zero, suc, ◌+◌, ◌-◌, ◌<◌, ◌≤◌, true, false, List, [], ◌∷◌, refl, sym, ap, ◌∙◌, subst, length, get_or, arith}
use Rattle.std.specs.Prelude.{◌⊎◌}
use Rattle.std.specs.Ordering.{is_lt}
use Rattle.std.specs.declared.cmp.Ordering.{Ordering}
use Rattle.std.specs.declared.cmp.Ordering.TheVariants.{Less}
use Rattle.std.proofs.lemmas.Bool.{and_from, false≢true, cases_order}
use Rattle.lnfs_world.specs.Rows.{Rising}
use Rattle.lnfs_world.specs.World.{Id, id_order}
use Rattle.lnfs_world.specs.Tree.{root}
use Rattle.lnfs_world.proofs.Keys.{id_before}
use Rattle.lnfs_decide.specs.Tests.{rises, rises_behind}
use Rattle.lnfs_decide.proofs.Rows.{to_rising}
use Rattle.lnfs_fit.specs.Ids.{nth_id}
use Rattle.lnfs_fit.proofs.Indexed.{rising_at}

pub less_is : (o : Ordering) → o ≡ Less → is_lt o ≡ true
less_is o e = ap is_lt e

module _ {X : Type 0} (R : X → X → Ordering) (d : X) where
  steps_behind : (x : X) (ys : List X) → ((k : ℕ) → suc k < suc (length ys) → R (get_or (x ∷ ys) k d) (get_or (x ∷ ys) (suc k) d) ≡ Less) → rises_behind R x ys ≡ true
  steps_behind x [] steps = refl
  steps_behind x (y ∷ ys) steps = and_from (is_lt (R x y)) (rises_behind R y ys) (less_is (R x y) (steps zero (omega arith))) (steps_behind y ys (λ k less. steps (suc k) (omega arith)))

  steps_rise : (xs : List X) → ((k : ℕ) → suc k < length xs → R (get_or xs k d) (get_or xs (suc k) d) ≡ Less) → rises R xs ≡ true
  steps_rise [] steps = refl
  steps_rise (x ∷ xs) steps = steps_behind x xs steps

  pub rising_steps : ((a b c : X) → R a b ≡ Less → R b c ≡ Less → R a c ≡ Less) → (xs : List X) → ((k : ℕ) → suc k < length xs → R (get_or xs k d) (get_or xs (suc k) d) ≡ Less) → Rising R xs
  rising_steps before xs steps = to_rising R before xs (steps_rise xs steps)

  -- a row that doesn't lie before the next
  pub falls : (xs : List X) (p : ℕ) → 1 ≤ p → p < length xs → is_lt (R (get_or xs (p - 1) d) (get_or xs p d)) ≡ false → Rising R xs → ⊥
  falls xs p some p_in isnt rising = false≢true (sym isnt ∙ less_is (R (get_or xs (p - 1) d) (get_or xs p d)) (rising_at d R xs rising (p - 1) p (omega arith) p_in))

module _ (ids : List Id) (rising : Rising id_order ids) (i : Id) (middle : ℕ) (middle_in : middle < length ids) where
  pub all_before : id_order (nth_id ids middle) i ≡ Less → (k : ℕ) → k < middle + 1 → id_order (nth_id ids k) i ≡ Less
  all_before less k k_in = at (cases_order k middle)
    where
      at : (k ≡ middle) ⊎ ((k < middle) ⊎ (middle < k)) → id_order (nth_id ids k) i ≡ Less
      at (inl is) = subst (λ j. id_order (nth_id ids j) i ≡ Less) (sym is) less
      at (inr (inl under)) = id_before (nth_id ids k) (nth_id ids middle) i (rising_at root id_order ids rising k middle under middle_in) less
      at (inr (inr over)) = absurd (omega arith)

  pub all_behind : id_order i (nth_id ids middle) ≡ Less → (k : ℕ) → middle ≤ k → k < length ids → id_order i (nth_id ids k) ≡ Less
  all_behind less k k_from k_in = at (cases_order k middle)
    where
      at : (k ≡ middle) ⊎ ((k < middle) ⊎ (middle < k)) → id_order i (nth_id ids k) ≡ Less
      at (inl is) = subst (λ j. id_order i (nth_id ids j) ≡ Less) (sym is) less
      at (inr (inl under)) = absurd (omega arith)
      at (inr (inr over)) = id_before i (nth_id ids middle) (nth_id ids k) less (rising_at root id_order ids rising middle k over k_in)
