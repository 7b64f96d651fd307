-- Both laws of erasure for LOCK, LOCKT and LOCKU: for a level that dominates the subject, what is answered and what is seen
-- afterwards are determined by what was seen; for any other level, what is seen stays.
use Rattle.std.proofs.Common.{◌≡◌, ℕ, Bool, true, false, List, [], ◌∷◌, refl, sym, ap, ◌∙◌, arith}
use Rattle.std.specs.Prelude.{filter}
use Rattle.std.proofs.lemmas.Bool.Decides.{nat_tests}
use Rattle.lnfs_calipso.specs.Label.{IsPreorderWithBottom}
use Rattle.lnfs_world.specs.Erased.{erased}
use Rattle.lnfs_world.specs.Outcome.{Site, Place, Stands}
use Rattle.lnfs_world.specs.Both.{Both, both_seen}
use Rattle.lnfs_world.proofs.Beside.{both_same}
use Rattle.lnfs_world.proofs.Lawfulness.{erased_twice}
use Rattle.lnfs_world.proofs.Rows.{all_weaker}
use Rattle.lnfs_operations.specs.Chain.{Answer, Done, Refused}
use Rattle.lnfs_operations.specs.Extra.{Spot, spot_of, place_at}
use Rattle.lnfs_operations.proofs.Spots.{stands_at}
use Rattle.lnfs_locks.specs.Locks.{Lock, Row, level_of, locks_of}
use Rattle.lnfs_locks.specs.Effects.{Came, Denied, Free, Holds}
use Rattle.lnfs_locks.specs.Outcome.{concluded, answered, outcome}
use Rattle.lnfs_locks.specs.Facts.{AreKept}
use Rattle.lnfs_locks.proofs.Conclusions.{current_stays, saved_stays}
use Rattle.lnfs_locks.proofs.SeenLocks.{seen_of, rows_seen}
use Rattle.lnfs_locks.proofs.LockViews.{answered_seen}
use Rattle.lnfs_locks.proofs.LockLevels.{AreOf, are_of}
use Rattle.lnfs_locks.proofs.KeptRows.{rows_determined, rows_unseen}

-- who sees less sees it of what is seen
seen_less : {X : Type 0} (p q : X → Bool) → ((x : X) → q x ≡ true → p x ≡ true) → (xs : List X) → filter q (filter p xs) ≡ filter q xs
seen_less p q less [] = refl
seen_less p q less (x ∷ xs) = grind (arith, seen_less p q less xs, less x)

said_alike : (answer : Answer Came) (at : Spot) (a b : Both Row) → (concluded answer at a).said ≡ (concluded answer at b).said
said_alike (Refused why) at a b = refl
said_alike (Done (Denied d)) at a b = refl
said_alike (Done Free) at a b = refl
said_alike (Done (Holds l gone)) at a b = refl

module _ (site : Site) (lattice : IsPreorderWithBottom site.dom) (number : ℕ) (arguments : List ℕ) (level : ℕ) (p : Place) where
  abbrev at : Spot
  at = spot_of p

  abbrev answer_at : Both Row → Answer Came
  answer_at a = answered site number arguments (locks_of a.own) (place_at at) a.world

  abbrev shown : Both Row → Both Row
  shown a = both_seen level_of site.dom level a

  -- ---- where it is seen

  module _ (above : site.dom level p.subject ≡ true) (a b : Both Row) (stands_a : Stands site.dom p a.world) (stands_b : Stands site.dom p b.world) (facts_a : AreKept a.world a.own) (facts_b : AreKept b.world b.own) (e : shown a ≡ shown b) where
    worlds : erased site.dom p.subject a.world ≡ erased site.dom p.subject b.world
    worlds = sym (erased_twice site.dom lattice level p.subject a.world above) ∙ ap (λ (x : Both Row). erased site.dom p.subject x.world) e ∙ erased_twice site.dom lattice level p.subject b.world above

    less : (rows : List Row) → filter (λ r. site.dom p.subject (level_of r)) (filter (λ r. site.dom level (level_of r)) rows) ≡ filter (λ r. site.dom p.subject (level_of r)) rows
    less rows = seen_less (λ r. site.dom level (level_of r)) (λ r. site.dom p.subject (level_of r)) (λ r is. lattice.transitive level p.subject (level_of r) above is) rows

    locks : seen_of site.dom p.subject (locks_of a.own) ≡ seen_of site.dom p.subject (locks_of b.own)
    locks =
        sym (rows_seen site.dom p.subject a.own)
        ∙ ap locks_of (sym (less a.own) ∙ ap (λ (x : Both Row). filter (λ r. site.dom p.subject (level_of r)) x.own) e ∙ less b.own)
        ∙ rows_seen site.dom p.subject b.own

    pub answers : answer_at a ≡ answer_at b
    answers =
        sym (answered_seen site lattice (place_at at) a.world (locks_of a.own) (stands_at p a.world stands_a) number arguments)
        ∙ (λ k. answered site number arguments (locks k) (place_at at) (worlds k))
        ∙ answered_seen site lattice (place_at at) b.world (locks_of b.own) (stands_at p b.world stands_b) number arguments

    pub said_same : (outcome site number arguments at a).said ≡ (outcome site number arguments at b).said
    said_same = said_alike (answer_at a) at a b ∙ ap (λ x. (concluded x at b).said) answers

    pub current_same : (outcome site number arguments at a).current ≡ (outcome site number arguments at b).current
    current_same = current_stays (answer_at a) at a ∙ sym (current_stays (answer_at b) at b)

    pub saved_same : (outcome site number arguments at a).saved ≡ (outcome site number arguments at b).saved
    saved_same = saved_stays (answer_at a) at a ∙ sym (saved_stays (answer_at b) at b)

    left_alike : (answer : Answer Came) → AreOf p.subject answer → shown (concluded answer at a).state ≡ shown (concluded answer at b).state
    left_alike (Refused why) of = e
    left_alike (Done (Denied d)) of = e
    left_alike (Done Free) of = e
    left_alike (Done (Holds l gone)) of =
        let here = of.0 in
        both_same _ _ (ap (λ (x : Both Row). x.world) e)
        (rows_determined site.dom level l gone (grind (arith, nat_tests, here, above)) a.own b.own facts_a.facts.lasts_rise facts_a.facts.rise facts_b.facts.lasts_rise facts_b.facts.rise (ap (λ (x : Both Row). x.own) e))

    pub seen_same : shown (outcome site number arguments at a).state ≡ shown (outcome site number arguments at b).state
    seen_same = left_alike (answer_at a) (are_of site number arguments (locks_of a.own) (place_at at) a.world) ∙ ap (λ x. shown (concluded x at b).state) answers

  -- ---- where it isn't

  module _ (apart : site.dom level p.subject ≡ false) (a : Both Row) (facts : AreKept a.world a.own) where
    left_unseen : (answer : Answer Came) → AreOf p.subject answer → shown (concluded answer at a).state ≡ shown a
    left_unseen (Refused why) of = refl
    left_unseen (Done (Denied d)) of = refl
    left_unseen (Done Free) of = refl
    left_unseen (Done (Holds l gone)) of =
        let here = of.0 in
        both_same _ _ refl
        (rows_unseen site.dom level l gone (grind (arith, nat_tests, here, apart)) (all_weaker _ _ (λ (g : Lock) is. grind (arith, nat_tests, is, apart)) gone of.1) (locks_of a.own)
        ∙ ap (filter (λ r. site.dom level (level_of r))) (sym facts.order))

    pub unseen_same : shown (outcome site number arguments at a).state ≡ shown a
    unseen_same = left_unseen (answer_at a) (are_of site number arguments (locks_of a.own) (place_at at) a.world)
