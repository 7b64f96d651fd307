-- Two laws of a step give that each reply is the one on the purged journal, for any state with an
-- erasure and facts.
use Rattle.std.proofs.Common.{◌≡◌, ℕ, Bool, true, false, cond, List, [], ◌∷◌, Option, Some, None, refl, ◌∙◌}
use Rattle.std.specs.Prelude.{filter}
use Rattle.lnfs_step.specs.Purged.{is_dominated}

-- events in order, from a state on
abbrev pub state_from : {W E : Type 0} → (W → E → W) → W → List E → W
state_from next w [] = w
state_from next w (event ∷ journal) = state_from next (next w event) journal

module _ {W E R : Type 0} (seen_by : ℕ → W → W) (Holds : W → Type 0) (dom : ℕ → ℕ → Bool) (reflexive : (s : ℕ) → dom s s ≡ true)
    (level : E → Option ℕ) (next : W → E → W) (reply : W → E → R)
    (law_1 : (l s : ℕ) (event : E) (a b : W) → level event ≡ Some s → dom l s ≡ true → Holds a → Holds b → seen_by l a ≡ seen_by l b → (reply a event ≡ reply b event) × (seen_by l (next a event) ≡ seen_by l (next b event)))
    (law_2 : (l : ℕ) (event : E) (w : W) → is_dominated dom l (level event) ≡ false → Holds w → seen_by l (next w event) ≡ seen_by l w)
    (keeps : (event : E) (w : W) → Holds w → Holds (next w event)) where
  pub journal_keeps : (journal : List E) (w : W) → Holds w → Holds (state_from next w journal)
  journal_keeps [] w holds = holds
  journal_keeps (event ∷ journal) w holds = journal_keeps journal (next w event) (keeps event w holds)

  -- what a level that dominates an event sees after it
  next_seen : (l : ℕ) (o : Option ℕ) (event : E) (a b : W) → level event ≡ o → is_dominated dom l o ≡ true → Holds a → Holds b → seen_by l a ≡ seen_by l b → seen_by l (next a event) ≡ seen_by l (next b event)
  next_seen l None event a b is above ha hb e = cc
  next_seen l (Some s) event a b is above ha hb e = (law_1 l s event a b is above ha hb e).1

  purged_seen : (l : ℕ) (journal : List E) (a b : W) → Holds a → Holds b → seen_by l a ≡ seen_by l b → seen_by l (state_from next a journal) ≡ seen_by l (state_from next b (filter (λ event. is_dominated dom l (level event)) journal))
  purged_seen l [] a b ha hb e = e
  purged_seen l (event ∷ journal) a b ha hb e = at (is_dominated dom l (level event)) refl
      (λ above. purged_seen l journal (next a event) (next b event) (keeps event a ha) (keeps event b hb) (next_seen l (level event) event a b refl above ha hb e))
      (λ apart. purged_seen l journal (next a event) b (keeps event a ha) hb (law_2 l event a apart ha ∙ e))
    where
      at : (t : Bool) → is_dominated dom l (level event) ≡ t → (is_dominated dom l (level event) ≡ true → seen_by l (state_from next (next a event) journal) ≡ seen_by l (state_from next (next b event) (filter (λ event. is_dominated dom l (level event)) journal))) → (is_dominated dom l (level event) ≡ false → seen_by l (state_from next (next a event) journal) ≡ seen_by l (state_from next b (filter (λ event. is_dominated dom l (level event)) journal))) → seen_by l (state_from next a (event ∷ journal)) ≡ seen_by l (state_from next b (cond t (event ∷ filter (λ event. is_dominated dom l (level event)) journal) (filter (λ event. is_dominated dom l (level event)) journal)))
      at true is seen unseen = seen is
      at false is seen unseen = unseen is

  -- the reply of an event with a level is that on the purged journal
  pub reply_purged : (first : W) → Holds first → (journal : List E) (event : E) (s : ℕ) → level event ≡ Some s → reply (state_from next first journal) event ≡ reply (state_from next first (filter (λ event. is_dominated dom s (level event)) journal)) event
  reply_purged first holds journal event s is =
      (law_1 s s event (state_from next first journal) (state_from next first (filter (λ event. is_dominated dom s (level event)) journal)) is (reflexive s) (journal_keeps journal first holds) (journal_keeps (filter (λ event. is_dominated dom s (level event)) journal) first holds)
      (purged_seen s journal first first holds holds refl)).0
