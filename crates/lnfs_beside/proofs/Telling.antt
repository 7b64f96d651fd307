-- What one of two side by side answers and leaves is what both do together.
use Rattle.std.proofs.Common.{◌≡◌, ℕ, Bool, true, false, cond, List, ◌⊎◌, sym, ◌∙◌, ap, subst}
use Rattle.std.specs.Prelude.{Option, IfOk, Result, Ok, Err}
use Rattle.lnfs_arguments.specs.Further.{Further}
use Rattle.lnfs_world.specs.World.{Id, World}
use Rattle.lnfs_world.specs.Outcome.{Site, Place}
use Rattle.lnfs_world.specs.Both.{Both, both, BothStand}
use Rattle.lnfs_operations.specs.Extra.{Said, Spot, After, Extra}
use Rattle.lnfs_beside.specs.Sides.{further_beside, both_rows, Deed, with_right, with_left, left, right, lefts, rights, beside}
use Rattle.lnfs_beside.proofs.SidesLaws.{lefts-both, rights-both}

pub same_sides : {F G H K : Further} → F ≡ H → G ≡ K → further_beside F G ≡ further_beside H K
same_sides {F} {G} {H} {K} f g = ap (λ x. further_beside x G) f ∙ ap (further_beside H) g

if_ok : {T E : Type 0} (r : Result T E) (P Q : T → Type 0) → ((x : T) → P x → Q x) → IfOk r P → IfOk r Q
if_ok (Ok x) P Q f p = f x p
if_ok (Err e) P Q f p = p

abbrev pub after : {S : Type 0} → Said → (current saved : Option Id) → S → After S
after said current saved state = record { said = said; current = current; saved = saved; state = state }

module _ (A B : Extra) (w : World) (us : List A.Row) (vs : List B.Row) where
  pub first_bears : (dom : ℕ → ℕ → Bool) (p : Place) → BothStand (beside A B).Fact dom p (both w (both_rows us vs)) → BothStand A.Fact dom p (both w us)
  first_bears dom p h = record { world = h.world; own = subst (λ xs. A.Fact w xs) (lefts-both us vs) h.own.0 }

  pub second_bears : (dom : ℕ → ℕ → Bool) (p : Place) → BothStand (beside A B).Fact dom p (both w (both_rows us vs)) → BothStand B.Fact dom p (both w vs)
  second_bears dom p h = record { world = h.world; own = subst (λ ys. B.Fact w ys) (rights-both us vs) h.own.1 }

  module _ (site : Site) (number : ℕ) (arguments : List ℕ) (at : Spot) where
    abbrev left_turn : List A.Row → List B.Row → After (Both (A.Row ⊎ B.Row))
    left_turn xs ys = with_right ys (A.outcome site number arguments at (both w xs))

    abbrev right_turn : List A.Row → List B.Row → After (Both (A.Row ⊎ B.Row))
    right_turn xs ys = with_left xs (B.outcome site number arguments at (both w ys))

    abbrev Told : {T E : Type 0} → Result T E → (T → Said) → (current saved : Option Id) → World → List (A.Row ⊎ B.Row) → Type 0
    Told r said current saved v rows = IfOk r (λ x. after (said x) current saved (both v rows) ≡ (beside A B).outcome site number arguments at (both w (both_rows us vs)))

    pub left_told : {T E : Type 0} (r : Result T E) (said : T → Said) (current saved : Option Id) (v : World) (later : List A.Row) → A.grammar.serves number ≡ true →
        IfOk r (λ x. after (said x) current saved (both v later) ≡ A.outcome site number arguments at (both w us)) → Told r said current saved v (both_rows later vs)
    left_told r said current saved v later mine told = if_ok r _ _ (λ x is.
        subst (λ t. after (said x) current saved (both v (both_rows later vs)) ≡ cond {A = Deed (A.Row ⊎ B.Row)} t (left (A.outcome site number arguments)) (right (B.outcome site number arguments)) at (both w (both_rows us vs))) (sym mine)
        (ap (λ (t : After (Both A.Row)). with_right vs t) is
        ∙ (ap (λ xs. left_turn xs vs) (sym (lefts-both us vs)) ∙ ap (λ ys. left_turn (lefts (both_rows us vs)) ys) (sym (rights-both us vs))))) told

    pub right_told : {T E : Type 0} (r : Result T E) (said : T → Said) (current saved : Option Id) (v : World) (later : List B.Row) → A.grammar.serves number ≡ false →
        IfOk r (λ x. after (said x) current saved (both v later) ≡ B.outcome site number arguments at (both w vs)) → Told r said current saved v (both_rows us later)
    right_told r said current saved v later other told = if_ok r _ _ (λ x is.
        subst (λ t. after (said x) current saved (both v (both_rows us later)) ≡ cond {A = Deed (A.Row ⊎ B.Row)} t (left (A.outcome site number arguments)) (right (B.outcome site number arguments)) at (both w (both_rows us vs))) (sym other)
        (ap (λ (t : After (Both B.Row)). with_left us t) is
        ∙ (ap (λ ys. right_turn us ys) (sym (rights-both us vs)) ∙ ap (λ xs. right_turn xs (rights (both_rows us vs))) (sym (lefts-both us vs))))) told
