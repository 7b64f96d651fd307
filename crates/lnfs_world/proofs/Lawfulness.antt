-- View and footprint give both laws of erasure.
use Rattle.std.proofs.Common.{◌≡◌, ℕ, Bool, true, false, List, [], ◌∷◌, refl, sym, ◌∙◌, ap, subst, arith}
use Rattle.lnfs_calipso.specs.Label.{IsPreorderWithBottom}
use Rattle.lnfs_world.specs.Rows.{kept}
use Rattle.lnfs_world.specs.World.{Id, World}
use Rattle.lnfs_world.specs.Erased.{sees, erased, dominates_label}
use Rattle.lnfs_world.specs.World.{label_at}
use Rattle.lnfs_world.specs.Change.{Change, apply, apply_all}
use Rattle.lnfs_world.specs.Facts.{Facts}
use Rattle.lnfs_world.specs.Outcome.{Place, Outcome, Act, Stands, View, Footprint, done_to}
use Rattle.lnfs_world.specs.Tame.{Tame}
use Rattle.lnfs_world.specs.Lawful.{Lawful, deed_of}
use Rattle.lnfs_world.proofs.Within.{AllWithin, within_all}
use Rattle.lnfs_world.proofs.Rows.{kept_twice, kept_agree, all_anyway}
use Rattle.lnfs_world.proofs.Nodes.{nodes_seen, label_at-seen}
use Rattle.lnfs_world.proofs.Determined.{determined, world_same, lasts_same}
use Rattle.lnfs_world.proofs.Unseen.{stays}
use Rattle.lnfs_world.proofs.Kept.{keeps}
use Rattle.lnfs_world.proofs.Tamed.{tamed_all}

module _ (dom : ℕ → ℕ → Bool) (lattice : IsPreorderWithBottom dom) where
  -- who sees less sees it of what is seen
  pub erased_twice : (level s : ℕ) (w : World) → dom level s ≡ true → erased dom s (erased dom level w) ≡ erased dom s w
  erased_twice level s w above = world_same _ _
      (rows (λ c. c.id) w.clients) (rows (λ x. x.id) w.sessions) (rows (λ x. x.id) w.contexts)
      (kept_twice _ _ _ _ (λ n. lattice.transitive level s n.id.level above) (λ n. refl) (λ n. grind (arith, lattice.transitive level s n.label above)) w.nodes)
      (kept_agree _ _ _ _ (all_anyway _ (λ e. less e.directory) (kept _ _ w.entries)) ∙ kept_twice _ _ _ _ (λ e. grind (arith, lattice.transitive level s)) (λ e. refl) (λ e. refl) w.entries)
      (rows (λ o. o.id) w.opens)
      (lasts_same _ _ (rows (λ i. i) w.lasts.clients) (rows (λ i. i) w.lasts.sessions) (rows (λ i. i) w.lasts.contexts) (rows (λ i. i) w.lasts.nodes) (rows (λ i. i) w.lasts.opens))
    where
      rows : {X : Type 0} (key : X → Id) (xs : List X) → kept (λ x. dom s (key x).level) (λ x. x) (kept (λ x. dom level (key x).level) (λ x. x) xs) ≡ kept (λ x. dom s (key x).level) (λ x. x) xs
      rows key xs = kept_twice _ _ _ _ (λ x. lattice.transitive level s (key x).level above) (λ x. refl) (λ x. refl) xs

      less : (i : Id) → sees dom s (nodes_seen dom level w.nodes) i ≡ sees dom s w.nodes i
      less i = grind (arith, label_at-seen dom level i w.nodes, lattice.transitive level s i.level above)

  -- what is seen of names depends on their directory's label alone, as long as the facts hold
  pub sees_by_label : (level : ℕ) (w : World) (i : Id) → Facts dom w → sees dom level w.nodes i ≡ dominates_label dom level (label_at w.nodes i)
  sees_by_label level w i facts = grind (arith, facts.nodes.labels i, lattice.transitive level)

  pub determined_all : (level s : ℕ) (cs : List Change) (a b : World) → dom level s ≡ true → Facts dom a → Facts dom b → AllWithin dom s a cs → AllWithin dom s b cs → erased dom level a ≡ erased dom level b → erased dom level (apply_all cs a) ≡ erased dom level (apply_all cs b)
  determined_all level s [] a b above fa fb wa wb e = e
  determined_all level s (c ∷ cs) a b above fa fb wa wb e =
      determined_all level s cs (apply c a) (apply c b) above (keeps dom lattice s c a fa wa.0) (keeps dom lattice s c b fb wb.0) wa.1 wb.1
      (determined dom level lattice s above c a fa wa.0 ∙ ap (λ w. erased dom level (apply c w)) e ∙ sym (determined dom level lattice s above c b fb wb.0))

  pub stays_all : (level s : ℕ) (cs : List Change) (w : World) → dom level s ≡ false → Facts dom w → AllWithin dom s w cs → erased dom level (apply_all cs w) ≡ erased dom level w
  stays_all level s [] w apart facts within = refl
  stays_all level s (c ∷ cs) w apart facts within =
      stays_all level s cs (apply c w) apart (keeps dom lattice s c w facts within.0) within.1 ∙ stays dom lattice level s apart c w facts within.0

  pub keeps_all : (s : ℕ) (cs : List Change) (w : World) → Facts dom w → AllWithin dom s w cs → Facts dom (apply_all cs w)
  keeps_all s [] w facts within = facts
  keeps_all s (c ∷ cs) w facts within = keeps_all s cs (apply c w) (keeps dom lattice s c w facts within.0) within.1

  module _ {A : Type 0} (act : Act A) (view : View dom act) (footprint : Footprint dom act) where
    within_of : (p : Place) (w : World) → Stands dom p w → AllWithin dom p.subject w (act p w).changes
    within_of p w stands = within_all dom p.subject (act p w).changes w (footprint p w stands).within

    same_outcome : (level : ℕ) (p : Place) (a b : World) → dom level p.subject ≡ true → Stands dom p a → Stands dom p b → erased dom level a ≡ erased dom level b → act p a ≡ act p b
    same_outcome level p a b above sa sb e = view p a b sa sb (sym (erased_twice level p.subject a above) ∙ ap (erased dom p.subject) e ∙ erased_twice level p.subject b above)

    pub lawful : Lawful dom (erased dom) (Stands dom) (deed_of act)
    lawful = record {
      answer = λ level p a b above sa sb e. ap (λ (o : Outcome A). o.answer) (same_outcome level p a b above sa sb e);
      place = λ level p a b above sa sb e. ap (λ (o : Outcome A). o.place) (same_outcome level p a b above sa sb e);
      seen = λ level p a b above sa sb e.
          determined_all level p.subject (act p a).changes a b above sa.facts sb.facts (within_of p a sa)
          (subst (λ (o : Outcome A). AllWithin dom p.subject b o.changes) (sym (same_outcome level p a b above sa sb e)) (within_of p b sb)) e
          ∙ ap (λ (o : Outcome A). erased dom level (done_to b o)) (same_outcome level p a b above sa sb e);
      unseen = λ level p a apart stands. stays_all level p.subject _ a apart stands.facts (within_of p a stands);
      stands = λ p a stands. record { facts = keeps_all p.subject _ a stands.facts (within_of p a stands); place = (footprint p a stands).place };
      subject = λ p a stands. (footprint p a stands).subject;
    }

    pub tame : (p : Place) (w : World) → Stands dom p w → Tame w (done_to w (act p w))
    tame p w stands = tamed_all dom p.subject (act p w).changes w (within_of p w stands)
