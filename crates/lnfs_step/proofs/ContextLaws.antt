-- What the making and the ending of contexts look at, and what they change.
use Rattle.std.proofs.Common.{◌≡◌, ℕ, Bool, true, List, Option, Some, None, refl, sym, ap, ◌∙◌, arith}
use Rattle.std.specs.Prelude.{◌==◌, count_by}
use Rattle.std.proofs.lemmas.Bool.Decides.{nat_tests}
use Rattle.lnfs_calipso.specs.Label.{IsPreorderWithBottom}
use Rattle.lnfs_world.specs.Rows.{kept}
use Rattle.lnfs_world.specs.World.{Id, Context, World, same_id}
use Rattle.lnfs_world.specs.Erased.{erased}
use Rattle.lnfs_world.specs.Change.{AddContext, DropContext, apply}
use Rattle.lnfs_world.specs.Outcome.{Place, View, Footprint, is_place, done_to}
use Rattle.lnfs_world.specs.Both.{both_seen, BothStand, on_world}
use Rattle.lnfs_world.specs.Lawful.{Lawful, deed_of}
use Rattle.lnfs_world.proofs.Rows.{count-kept}
use Rattle.lnfs_world.proofs.Keys.{id_same}
use Rattle.lnfs_world.proofs.Views.{row_at-seen, last_of-seen}
use Rattle.lnfs_world.proofs.Places.{place_stays}
use Rattle.lnfs_world.proofs.Beside.{on_world_lawful}
use Rattle.lnfs_operations.specs.Extra.{Extra, AreLawful}
use Rattle.lnfs_operations.proofs.Chains.{seen_view, demand_any, demand_footprint, unchanged_footprint}
use Rattle.lnfs_operations.proofs.SessionLaws.{own_level}
use Rattle.lnfs_gss3.specs.Contexts.{lists_of, context_at, is_under, has_context_left, new_context}
use Rattle.lnfs_step.specs.Request.{InContext}
use Rattle.lnfs_step.specs.Contexts.{is_there, make_context, end_context}

-- ---- what they look at

module _ (dom : ℕ → ℕ → Bool) where
  context_at-seen : (level : ℕ) (i : Id) → dom level i.level ≡ true → (contexts : List Context) → context_at (kept (λ c. dom level c.id.level) (λ c. c) contexts) i ≡ context_at contexts i
  context_at-seen level i above contexts = row_at-seen dom level (λ c. c.id) (λ c. same_id i c.id) (λ c is. ap (λ (j : Id). dom level j.level) (sym (id_same i c.id is)) ∙ above) contexts

  pub there_seen : (level s : ℕ) (context : Option InContext) (w : World) → dom level s ≡ true → is_there (erased dom level w).contexts s context ≡ is_there w.contexts s context
  there_seen level s None w above = refl
  there_seen level s (Some c) w above = ap (is_under c.parent) (context_at-seen level (record { level = s; number = c.number }) above w.contexts)

  -- what two worlds of which a level sees the same say of it
  pub there_alike : (level s : ℕ) (context : Option InContext) (a b : World) → dom level s ≡ true → erased dom level a ≡ erased dom level b → is_there a.contexts s context ≡ is_there b.contexts s context
  there_alike level s context a b above e = sym (there_seen level s context a above) ∙ ap (λ (w : World). is_there w.contexts s context) e ∙ there_seen level s context b above

  module _ (lattice : IsPreorderWithBottom dom) where
    count_seen : (s : ℕ) (contexts : List Context) → count_by (λ c. c.id.level == s) (kept (λ c. dom s c.id.level) (λ c. c) contexts) ≡ count_by (λ c. c.id.level == s) contexts
    count_seen s contexts = count-kept _ _ _ (λ c is. own_level dom lattice s c.id.level is) (λ c. refl) contexts

    make_context_seen : (parent : ℕ) (p : Place) (w : World) → make_context parent p (erased dom p.subject w) ≡ make_context parent p w
    make_context_seen parent p w = rw (count_seen p.subject w.contexts, last_of-seen dom p.subject p.subject (lattice.reflexive p.subject) w.lasts.contexts) refl

    pub make_context_view : (parent : ℕ) → View dom (make_context parent)
    make_context_view parent = seen_view dom (make_context parent) (make_context_seen parent)

  pub end_context_view : (number : ℕ) → View dom (end_context number)
  end_context_view number = seen_view dom (end_context number) (λ p w. refl)

  -- ---- what they change

  -- clients and sessions stay, so a place is one still
  context_place : (p : Place) (w : World) (c : Context) → is_place dom w p ≡ true → is_place dom (apply (AddContext c) w) p ≡ true
  context_place p w c is = place_stays dom p.subject w (apply (AddContext c) w) (λ number there. there) (λ client number there held. held) p.client p.session p.current p.saved is

  ended_place : (p : Place) (w : World) (i : Id) → is_place dom w p ≡ true → is_place dom (apply (DropContext i) w) p ≡ true
  ended_place p w i is = place_stays dom p.subject w (apply (DropContext i) w) (λ number there. there) (λ client number there held. held) p.client p.session p.current p.saved is

  pub make_context_footprint : (parent : ℕ) → Footprint dom (make_context parent)
  make_context_footprint parent p w stands = demand_footprint dom p w stands (has_context_left (lists_of w) p.subject) _ _ (unchanged_footprint dom p w stands _) (λ left.
      record { within = grind (arith, nat_tests); place = context_place p w (new_context (lists_of w) p.subject parent) stands.place; subject = refl })

  pub end_context_footprint : (number : ℕ) → Footprint dom (end_context number)
  end_context_footprint number p w stands = record { within = grind (arith, nat_tests); place = ended_place p w (record { level = p.subject; number = number }) stands.place; subject = refl }

-- ---- what they leave

-- Contexts alone change, and their last numbers.
pub record Beside (a b : World) : Type 0 where
  pub clients : b.clients ≡ a.clients
  pub sessions : b.sessions ≡ a.sessions
  pub nodes : b.nodes ≡ a.nodes

pub make_beside : (parent : ℕ) (p : Place) (w : World) → Beside w (done_to w (make_context parent p w))
make_beside parent p w = demand_any (λ o. Beside w (done_to w o)) (has_context_left (lists_of w) p.subject) _ _ (record { clients = refl; sessions = refl; nodes = refl }) (λ left. record { clients = refl; sessions = refl; nodes = refl })

pub end_beside : (number : ℕ) (p : Place) (w : World) → Beside w (done_to w (end_context number p w))
end_beside number p w = record { clients = refl; sessions = refl; nodes = refl }

-- ---- both laws of erasure, beside the rows of further operations

module _ (X : Extra) (owed : AreLawful X) (dom : ℕ → ℕ → Bool) (lattice : IsPreorderWithBottom dom) where
  pub make_context_lawful : (parent : ℕ) → Lawful dom (both_seen X.level_of dom) (BothStand X.Fact dom) (on_world (deed_of (make_context parent)))
  make_context_lawful parent = on_world_lawful X.level_of X.Fact owed.bears dom lattice (make_context parent) (make_context_view dom lattice parent) (make_context_footprint dom parent)

  pub end_context_lawful : (number : ℕ) → Lawful dom (both_seen X.level_of dom) (BothStand X.Fact dom) (on_world (deed_of (end_context number)))
  end_context_lawful number = on_world_lawful X.level_of X.Fact owed.bears dom lattice (end_context number) (end_context_view dom number) (end_context_footprint dom number)
