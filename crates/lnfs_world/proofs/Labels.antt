-- Every change that a subject may make lets labels go up alone.
use Rattle.std.proofs.Common.{◌≡◌, ℕ, Bool, true, false, List, [], ◌∷◌, Option, Some, None, refl, sym, ◌∙◌, arith}
use Rattle.std.proofs.lemmas.Bool.{false≢true}
use Rattle.std.proofs.lemmas.Bool.Decides.{nat_tests}
use Rattle.lnfs_calipso.specs.Label.{IsPreorderWithBottom}
use Rattle.lnfs_world.specs.World.{Id, World, label_at, is_given}
use Rattle.lnfs_world.specs.Change.{Change, AddClient, SetClient, DropClient, AddSession, SetSession, DropSession, AddContext, DropContext, Make, Touch, Relabel, Link, Unlink, Drop, Move, AddOpen, SetOpen, EndOpen, apply, apply_all}
use Rattle.lnfs_world.specs.Facts.{Facts}
use Rattle.lnfs_world.specs.Outcome.{Place, Act, Stands, Footprint, done_to}
use Rattle.lnfs_world.specs.Tame.{Tame}
use Rattle.lnfs_world.specs.Labels.{LabelsRise}
use Rattle.lnfs_world.proofs.Within.{IsWithin, AllWithin, within_all}
use Rattle.lnfs_world.proofs.Keys.{id_same}
use Rattle.lnfs_world.proofs.Nodes.{label_at-touched, label_at-relabelled, label_at-made, label_at-dropped}
use Rattle.lnfs_world.proofs.Determined.{new_absent}
use Rattle.lnfs_world.proofs.Kept.{keeps}
use Rattle.lnfs_world.proofs.Tamed.{tamed}

-- labels rise, and no identifier is given back
pub record Raised (dom : ℕ → ℕ → Bool) (a b : World) : Type 0 where
  pub labels : LabelsRise dom a b
  pub given : (i : Id) → is_given a.lasts.nodes i ≡ true → is_given b.lasts.nodes i ≡ true

pub given_later : (a b : World) → Tame a b → (i : Id) → is_given a.lasts.nodes i ≡ true → is_given b.lasts.nodes i ≡ true
given_later a b tame i was = let later = (tame.lasts i.level).nodes in grind (arith, nat_tests)

module _ (dom : ℕ → ℕ → Bool) (lattice : IsPreorderWithBottom dom) where
  pub labels_same : (a b : World) → ((i : Id) → label_at b.nodes i ≡ label_at a.nodes i) → LabelsRise dom a b
  labels_same a b same = record {
    up = λ i before after was is. grind (arith, same i, lattice.reflexive before);
    new = λ i after none is. absurd (grind (arith, same i));
  }

  pub raised_itself : (w : World) → Raised dom w w
  raised_itself w = record { labels = labels_same w w (λ i. refl); given = λ i is. is }

  pub raised_through : (a b c : World) → Facts dom a → Raised dom a b → Raised dom b c → Raised dom a c
  raised_through a b c facts p q = record {
    labels = record { up = λ i before after was is. up i before after was is (label_at b.nodes i) refl; new = λ i after none is. new i after none is (label_at b.nodes i) refl (is_given a.lasts.nodes i) refl };
    given = λ i is. q.given i (p.given i is);
  }
    where
      up : (i : Id) (before after : ℕ) → label_at a.nodes i ≡ Some before → label_at c.nodes i ≡ Some after → (o : Option ℕ) → label_at b.nodes i ≡ o → dom after before ≡ true
      up i before after was is (Some between) there = lattice.transitive after between before (q.labels.up i between after there is) (p.labels.up i before between was there)
      up i before after was is None there = absurd (false≢true (sym (q.labels.new i after there is) ∙ p.given i (facts.nodes.given i before was)))

      new : (i : Id) (after : ℕ) → label_at a.nodes i ≡ None → label_at c.nodes i ≡ Some after → (o : Option ℕ) → label_at b.nodes i ≡ o → (given : Bool) → is_given a.lasts.nodes i ≡ given → is_given a.lasts.nodes i ≡ false
      new i after none is (Some between) there given known = p.labels.new i between none there
      new i after none is None there false known = known
      new i after none is None there true known = absurd (false≢true (sym (q.labels.new i after there is) ∙ p.given i known))

  pub labels_raised : (s : ℕ) (c : Change) (w : World) → Facts dom w → IsWithin dom s w c → LabelsRise dom w (apply c w)
  labels_raised s (Make node entry) w facts within =
      let absent = new_absent dom s w.nodes w.entries w.lasts.nodes facts.nodes node.id within.new in
      let own = within.new.own in
      let above = within.new.above in
      record {
        up = λ i before after was is. grind (arith, label_at-made node i w.nodes, id_same i node.id, lattice.reflexive before);
        new = λ i after none is. grind (arith, nat_tests, label_at-made node i w.nodes, id_same i node.id);
      }
  labels_raised s (Touch node inner) w facts within = labels_same w _ (λ i. label_at-touched node inner i w.nodes)
  labels_raised s (Relabel node label inner) w facts within =
      let own = within.own in
      let rises = within.rises in
      record {
        up = λ i before after was is. grind (arith, label_at-relabelled node label inner i w.nodes, id_same i node, lattice.reflexive before);
        new = λ i after none is. absurd (grind (arith, label_at-relabelled node label inner i w.nodes));
      }
  labels_raised s (Drop entry) w facts within = record {
    up = λ i before after was is. grind (arith, label_at-dropped entry.node i w.nodes, lattice.reflexive before);
    new = λ i after none is. absurd (grind (arith, label_at-dropped entry.node i w.nodes));
  }
  labels_raised s (AddClient row) w facts within = labels_same w _ (λ i. refl)
  labels_raised s (SetClient row) w facts within = labels_same w _ (λ i. refl)
  labels_raised s (DropClient client) w facts within = labels_same w _ (λ i. refl)
  labels_raised s (AddSession row) w facts within = labels_same w _ (λ i. refl)
  labels_raised s (SetSession row) w facts within = labels_same w _ (λ i. refl)
  labels_raised s (DropSession session) w facts within = labels_same w _ (λ i. refl)
  labels_raised s (AddContext row) w facts within = labels_same w _ (λ i. refl)
  labels_raised s (DropContext context) w facts within = labels_same w _ (λ i. refl)
  labels_raised s (Link entry) w facts within = labels_same w _ (λ i. refl)
  labels_raised s (Unlink entry) w facts within = labels_same w _ (λ i. refl)
  labels_raised s (Move entry other) w facts within = labels_same w _ (λ i. refl)
  labels_raised s (AddOpen row) w facts within = labels_same w _ (λ i. refl)
  labels_raised s (SetOpen row) w facts within = labels_same w _ (λ i. refl)
  labels_raised s (EndOpen opening) w facts within = labels_same w _ (λ i. refl)

  raised_all : (s : ℕ) (cs : List Change) (w : World) → Facts dom w → AllWithin dom s w cs → Raised dom w (apply_all cs w)
  raised_all s [] w facts within = raised_itself w
  raised_all s (c ∷ cs) w facts within =
      raised_through w (apply c w) (apply_all cs (apply c w)) facts
      (record { labels = labels_raised s c w facts within.0; given = given_later w (apply c w) (tamed dom s c w within.0) })
      (raised_all s cs (apply c w) (keeps dom lattice s c w facts within.0) within.1)

  -- what an operation does that keeps its footprint
  pub act_raised : {A : Type 0} (act : Act A) → Footprint dom act → (p : Place) (w : World) → Stands dom p w → Raised dom w (done_to w (act p w))
  act_raised act footprint p w stands = raised_all p.subject (act p w).changes w stands.facts (within_all dom p.subject (act p w).changes w (footprint p w stands).within)
