-- Two side by side meet what further operations owe, where each does.
use Rattle.std.proofs.Common.{◌≡◌, ℕ, ◌≤◌, Bool, true, false, cond, List, [], ◌∷◌, Option, Some, None, ◌⊎◌, inl, inr, refl, sym, ◌∙◌, ap, subst, arith}
use Rattle.std.specs.Prelude.{filter}
use Rattle.std.proofs.lemmas.Bool.{or_cases}
use Rattle.lnfs_calipso.specs.Label.{IsPreorderWithBottom}
use Rattle.lnfs_arguments.specs.Further as further
use Rattle.lnfs_world.specs.World.{World}
use Rattle.lnfs_world.specs.Outcome.{Site, Place, Stands}
use Rattle.lnfs_world.specs.Lawful.{Turn, Lawful}
use Rattle.lnfs_world.specs.Both.{Both, both, both_seen, BothStand}
use Rattle.lnfs_world.proofs.Beside.{both_same}
use Rattle.lnfs_operations.specs.Chain.{Refusal}
use Rattle.lnfs_operations.specs.Extra.{Said, Extra, spot_of, turned, IsRefused, IsTame, AreLawful}
use Rattle.lnfs_beside.specs.Sides.{further_beside, lefts, rights, both_rows, side_level, Deed, left, right, beside}

-- ---- the grammar

pub grammar_lawful : (F G : further.Further) → further.IsLawful F → further.IsLawful G → further.IsLawful (further_beside F G)
grammar_lawful F G f g = record {
  numbered = λ number on. elim (or_cases (F.serves number) (G.serves number) on) [ inl is ↦ f.numbered number is | inr is ↦ g.numbered number is ];
  beside = λ number on. elim (or_cases (F.serves number) (G.serves number) on) [ inl is ↦ f.beside number is | inr is ↦ g.beside number is ];
  room = λ number args. at (F.serves number) (F.bound number args) (G.bound number args) (f.room number args) (g.room number args);
}
  where
    at : (t : Bool) (m n : ℕ) → 8 ≤ m → 8 ≤ n → 8 ≤ cond t m n
    at true m n h k = h
    at false m n h k = k

-- ---- rows

module _ {A B : Type 0} where
  pub lefts-both : (us : List A) (vs : List B) → lefts (both_rows us vs) ≡ us
  lefts-both [] [] = refl
  lefts-both [] (b ∷ vs) = lefts-both [] vs
  lefts-both (a ∷ us) vs = ap (λ xs. a ∷ xs) (lefts-both us vs)

  pub rights-both : (us : List A) (vs : List B) → rights (both_rows us vs) ≡ vs
  rights-both [] [] = refl
  rights-both [] (b ∷ vs) = ap (λ xs. b ∷ xs) (rights-both [] vs)
  rights-both (a ∷ us) vs = rights-both us vs

  module _ (p : A ⊎ B → Bool) where
    pub lefts-filter : (xs : List (A ⊎ B)) → lefts (filter p xs) ≡ filter (λ a. p (inl a)) (lefts xs)
    lefts-filter [] = refl
    lefts-filter (inl a ∷ xs) = grind (arith, lefts-filter xs)
    lefts-filter (inr b ∷ xs) = grind (arith, lefts-filter xs)

    pub rights-filter : (xs : List (A ⊎ B)) → rights (filter p xs) ≡ filter (λ b. p (inr b)) (rights xs)
    rights-filter [] = refl
    rights-filter (inl a ∷ xs) = grind (arith, rights-filter xs)
    rights-filter (inr b ∷ xs) = grind (arith, rights-filter xs)

    pub filter-both : (us : List A) (vs : List B) → filter p (both_rows us vs) ≡ both_rows (filter (λ a. p (inl a)) us) (filter (λ b. p (inr b)) vs)
    filter-both [] [] = refl
    filter-both [] (b ∷ vs) = grind (arith, filter-both [] vs)
    filter-both (a ∷ us) vs = grind (arith, filter-both us vs)

-- ---- the laws

module _ (A B : Extra) (owed_a : AreLawful A) (owed_b : AreLawful B) (site : Site) (lattice : IsPreorderWithBottom site.dom) (number : ℕ) (arguments : List ℕ) where
  abbrev Rows : Type 0
  Rows = Both (A.Row ⊎ B.Row)

  -- at a place of a COMPOUND
  abbrev placed : {R : Type 0} → Deed R → Place → Both R → Turn Said (Both R)
  placed deed p b = turned p (deed (spot_of p) b)

  abbrev first : Rows → Both A.Row
  first b = both b.world (lefts b.own)

  abbrev second : Rows → Both B.Row
  second b = both b.world (rights b.own)

  abbrev Stand : Place → Rows → Type 0
  Stand p b = BothStand (beside A B).Fact site.dom p b

  first_stands : (p : Place) (b : Rows) → Stand p b → BothStand A.Fact site.dom p (first b)
  first_stands p b s = record { world = s.world; own = s.own.0 }

  second_stands : (p : Place) (b : Rows) → Stand p b → BothStand B.Fact site.dom p (second b)
  second_stands p b s = record { world = s.world; own = s.own.1 }

  stood : (p : Place) (w : World) (us : List A.Row) (vs : List B.Row) → Stands site.dom p w → A.Fact w us → B.Fact w vs → Stand p (both w (both_rows us vs))
  stood p w us vs stands fa fb = record {
    world = stands;
    own = (
      subst (λ xs. A.Fact w xs) (sym (lefts-both us vs)) fa,
      subst (λ ys. B.Fact w ys) (sym (rights-both us vs)) fb,
      sym (ap (λ xs. both_rows xs (rights (both_rows us vs))) (lefts-both us vs) ∙ ap (λ ys. both_rows us ys) (rights-both us vs)),
    );
  }

  first_seen : (level : ℕ) (a b : Rows) → both_seen (side_level A B) site.dom level a ≡ both_seen (side_level A B) site.dom level b → both_seen A.level_of site.dom level (first a) ≡ both_seen A.level_of site.dom level (first b)
  first_seen level a b e = both_same _ _ (ap (λ (x : Rows). x.world) e)
      (sym (lefts-filter (λ r. site.dom level (side_level A B r)) a.own) ∙ ap (λ (x : Rows). lefts x.own) e ∙ lefts-filter (λ r. site.dom level (side_level A B r)) b.own)

  second_seen : (level : ℕ) (a b : Rows) → both_seen (side_level A B) site.dom level a ≡ both_seen (side_level A B) site.dom level b → both_seen B.level_of site.dom level (second a) ≡ both_seen B.level_of site.dom level (second b)
  second_seen level a b e = both_same _ _ (ap (λ (x : Rows). x.world) e)
      (sym (rights-filter (λ r. site.dom level (side_level A B r)) a.own) ∙ ap (λ (x : Rows). rights x.own) e ∙ rights-filter (λ r. site.dom level (side_level A B r)) b.own)

  both_seen_rows : (level : ℕ) (us us' : List A.Row) (vs vs' : List B.Row) → filter (λ r. site.dom level (A.level_of r)) us ≡ filter (λ r. site.dom level (A.level_of r)) us' → filter (λ r. site.dom level (B.level_of r)) vs ≡ filter (λ r. site.dom level (B.level_of r)) vs' →
      filter (λ r. site.dom level (side_level A B r)) (both_rows us vs) ≡ filter (λ r. site.dom level (side_level A B r)) (both_rows us' vs')
  both_seen_rows level us us' vs vs' eu ev = filter-both (λ r. site.dom level (side_level A B r)) us vs ∙ ap (λ xs. both_rows xs (filter (λ r. site.dom level (B.level_of r)) vs)) eu ∙ ap (λ ys. both_rows (filter (λ r. site.dom level (A.level_of r)) us') ys) ev ∙ sym (filter-both (λ r. site.dom level (side_level A B r)) us' vs')

  left_lawful : Lawful site.dom (both_seen (side_level A B) site.dom) Stand (placed (left (A.outcome site number arguments)))
  left_lawful =
      let law = owed_a.laws site lattice number arguments in
      record {
        answer = λ level p a b above sa sb e. law.answer level p (first a) (first b) above (first_stands p a sa) (first_stands p b sb) (first_seen level a b e);
        place = λ level p a b above sa sb e. law.place level p (first a) (first b) above (first_stands p a sa) (first_stands p b sb) (first_seen level a b e);
        seen = λ level p a b above sa sb e.
            let later = law.seen level p (first a) (first b) above (first_stands p a sa) (first_stands p b sb) (first_seen level a b e) in
            both_same _ _ (ap (λ (x : Both A.Row). x.world) later) (both_seen_rows level _ _ (rights a.own) (rights b.own) (ap (λ (x : Both A.Row). x.own) later) (ap (λ (x : Both B.Row). x.own) (second_seen level a b e)));
        unseen = λ level p a apart sa.
            let later = law.unseen level p (first a) apart (first_stands p a sa) in
            both_same _ _ (ap (λ (x : Both A.Row). x.world) later) (both_seen_rows level _ (lefts a.own) (rights a.own) (rights a.own) (ap (λ (x : Both A.Row). x.own) later) refl ∙ ap (filter (λ r. site.dom level (side_level A B r))) (sym sa.own.2));
        stands = λ p a sa.
            let later = law.stands p (first a) (first_stands p a sa) in
            let change = (owed_a.tame site lattice number arguments p (first a) (first_stands p a sa)).tame in
            stood _ _ _ (rights a.own) later.world later.own (owed_b.bears a.world _ (rights a.own) change sa.own.1);
        subject = λ p a sa. law.subject p (first a) (first_stands p a sa);
      }

  right_lawful : Lawful site.dom (both_seen (side_level A B) site.dom) Stand (placed (right (B.outcome site number arguments)))
  right_lawful =
      let law = owed_b.laws site lattice number arguments in
      record {
        answer = λ level p a b above sa sb e. law.answer level p (second a) (second b) above (second_stands p a sa) (second_stands p b sb) (second_seen level a b e);
        place = λ level p a b above sa sb e. law.place level p (second a) (second b) above (second_stands p a sa) (second_stands p b sb) (second_seen level a b e);
        seen = λ level p a b above sa sb e.
            let later = law.seen level p (second a) (second b) above (second_stands p a sa) (second_stands p b sb) (second_seen level a b e) in
            both_same _ _ (ap (λ (x : Both B.Row). x.world) later) (both_seen_rows level (lefts a.own) (lefts b.own) _ _ (ap (λ (x : Both A.Row). x.own) (first_seen level a b e)) (ap (λ (x : Both B.Row). x.own) later));
        unseen = λ level p a apart sa.
            let later = law.unseen level p (second a) apart (second_stands p a sa) in
            both_same _ _ (ap (λ (x : Both B.Row). x.world) later) (both_seen_rows level (lefts a.own) (lefts a.own) _ (rights a.own) refl (ap (λ (x : Both B.Row). x.own) later) ∙ ap (filter (λ r. site.dom level (side_level A B r))) (sym sa.own.2));
        stands = λ p a sa.
            let later = law.stands p (second a) (second_stands p a sa) in
            let change = (owed_b.tame site lattice number arguments p (second a) (second_stands p a sa)).tame in
            stood _ _ (lefts a.own) _ later.world (owed_a.bears a.world _ (lefts a.own) change sa.own.0) later.own;
        subject = λ p a sa. law.subject p (second a) (second_stands p a sa);
      }

  left_refused : (p : Place) (a : Rows) → Stand p a → (t : Turn Said (Both A.Row)) (why : Option Refusal) → IsRefused p (first a) t why →
      IsRefused p a (record { answer = t.answer; place = t.place; state = both t.state.world (both_rows t.state.own (rights a.own)) }) why
  left_refused p a sa t None h = tt
  left_refused p a sa t (Some why) h = (h.0, h.1, ap (λ (x : Both A.Row). both x.world (both_rows x.own (rights a.own))) h.2 ∙ ap (both a.world) (sym sa.own.2))

  right_refused : (p : Place) (a : Rows) → Stand p a → (t : Turn Said (Both B.Row)) (why : Option Refusal) → IsRefused p (second a) t why →
      IsRefused p a (record { answer = t.answer; place = t.place; state = both t.state.world (both_rows (lefts a.own) t.state.own) }) why
  right_refused p a sa t None h = tt
  right_refused p a sa t (Some why) h = (h.0, h.1, ap (λ (x : Both B.Row). both x.world (both_rows (lefts a.own) x.own)) h.2 ∙ ap (both a.world) (sym sa.own.2))

  left_tame : (p : Place) (a : Rows) → Stand p a → IsTame (beside A B) site (A.grammar.bound number arguments) p a (placed (left (A.outcome site number arguments)) p a)
  left_tame p a sa =
      let was = owed_a.tame site lattice number arguments p (first a) (first_stands p a sa) in
      let t = placed (A.outcome site number arguments) p (first a) in
      record { untouched = was.untouched; tame = was.tame; bounds = was.bounds; moved = was.moved; refused = left_refused p a sa t t.answer.refusal was.refused; bound = was.bound }

  right_tame : (p : Place) (a : Rows) → Stand p a → IsTame (beside A B) site (B.grammar.bound number arguments) p a (placed (right (B.outcome site number arguments)) p a)
  right_tame p a sa =
      let was = owed_b.tame site lattice number arguments p (second a) (second_stands p a sa) in
      let t = placed (B.outcome site number arguments) p (second a) in
      record { untouched = was.untouched; tame = was.tame; bounds = was.bounds; moved = was.moved; refused = right_refused p a sa t t.answer.refusal was.refused; bound = was.bound }

  chosen_lawful : (t : Bool) → Lawful site.dom (both_seen (side_level A B) site.dom) Stand (placed (cond t (left (A.outcome site number arguments)) (right (B.outcome site number arguments))))
  chosen_lawful true = left_lawful
  chosen_lawful false = right_lawful

  chosen_tame : (p : Place) (a : Rows) → Stand p a → (t : Bool) →
      IsTame (beside A B) site (cond t (A.grammar.bound number arguments) (B.grammar.bound number arguments)) p a (placed (cond {A = Deed (A.Row ⊎ B.Row)} t (left (A.outcome site number arguments)) (right (B.outcome site number arguments))) p a)
  chosen_tame p a sa true = left_tame p a sa
  chosen_tame p a sa false = right_tame p a sa

-- ---- all together

pub sides_lawful : (A B : Extra) → AreLawful A → AreLawful B → AreLawful (beside A B)
sides_lawful A B owed_a owed_b = record {
  begins = λ w. (owed_a.begins w, owed_b.begins w, refl);
  bears = λ a b rows tame fact. (owed_a.bears a b (lefts rows) tame fact.0, owed_b.bears a b (rights rows) tame fact.1, fact.2);
  laws = λ site lattice number arguments. chosen_lawful A B owed_a owed_b site lattice number arguments (A.grammar.serves number);
  tame = λ site lattice number arguments p a stands. chosen_tame A B owed_a owed_b site lattice number arguments p a stands (A.grammar.serves number);
}
