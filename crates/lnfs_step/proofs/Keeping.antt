-- Whatever holds of the results that are kept: each operation of the table keeps it, and so does a COMPOUND that is
-- served where it holds of the result that it got.
use Rattle.std.proofs.Common.{◌≡◌, ℕ, List, Option, Some, None, refl, sym, ap, ◌∙◌, subst}
use Rattle.std.specs.Prelude.{IfSome, slice_get}
use Rattle.std.specs.List.{AllByRecursion}
use Rattle.lnfs_calipso.specs.Label.{IsPreorderWithBottom}
use Rattle.lnfs_types.specs.declared.event.Moment.{Moment}
use Rattle.lnfs_arguments.specs.declared.types.Compound.{Compound}
use Rattle.lnfs_world.specs.World.{Id, Kept, Client, Slot as SlotRow, Session, World}
use Rattle.lnfs_world.specs.Outcome.{Site, Place, begins_at}
use Rattle.lnfs_world.specs.Both.{Both, BothStand}
use Rattle.lnfs_world.proofs.Rows.{all_weaker}
use Rattle.lnfs_operations.specs.CreateSession.{granted_of}
use Rattle.lnfs_operations.specs.Extra.{Extra, AreLawful}
use Rattle.lnfs_operations.specs.Sequence.{Sent}
use Rattle.lnfs_operations.specs.Served.{Keeper, Nowhere, Slot, Record, operation}
use Rattle.lnfs_operations.specs.SlotRule.{run_all, result_of, keep_in, served}
use Rattle.lnfs_operations.proofs.SessionLaws.{session_at-id}
use Rattle.lnfs_operations.proofs.SlotRules.{served_lawful}
use Rattle.lnfs_operations.proofs.Walks.{Walk, MayKeep, all_fresh, all_with_slot, slot_of_all, run_left, keep_left}

-- What a slot keeps, by the level of its session, and what a client's record keeps, by its own.
abbrev pub SlotKeeps : (Q : ℕ → Kept → Type 0) (level : ℕ) → SlotRow → Type 0
SlotKeeps Q level slot = IfSome slot.kept (Q level)

abbrev pub SessionKeeps : (Q : ℕ → Kept → Type 0) → Session → Type 0
SessionKeeps Q x = AllByRecursion (SlotKeeps Q x.id.level) x.slots

abbrev pub ClientKeeps : (Q : ℕ → Kept → Type 0) → Client → Type 0
ClientKeeps Q c = IfSome c.kept (Q c.id.level)

pub record Keeps (Q : ℕ → Kept → Type 0) (w : World) : Type 0 where
  pub sessions : AllByRecursion (SessionKeeps Q) w.sessions
  pub clients : AllByRecursion (ClientKeeps Q) w.clients

-- ---- rows that are there

pub slot_keeps : (P : SlotRow → Type 0) (n : ℕ) (slots : List SlotRow) (slot : SlotRow) → AllByRecursion P slots → slice_get slots n ≡ Some slot → P slot
slot_keeps P n slots slot all is = slot_of_all P n slots slot all is

-- ---- weaker

if_weaker : {A : Type 0} (P R : A → Type 0) → ((x : A) → P x → R x) → (o : Option A) → IfSome o P → IfSome o R
if_weaker P R weaker None is = tt
if_weaker P R weaker (Some x) is = weaker x is

pub keeps_weaker : (Q R : ℕ → Kept → Type 0) → ((level : ℕ) (kept : Kept) → Q level kept → R level kept) → (w : World) → Keeps Q w → Keeps R w
keeps_weaker Q R weaker w keeps = record {
  sessions = all_weaker (SessionKeeps Q) (SessionKeeps R) (λ x all. all_weaker (SlotKeeps Q x.id.level) (SlotKeeps R x.id.level) (λ slot is. if_weaker (Q x.id.level) (R x.id.level) (weaker x.id.level) slot.kept is) x.slots all) w.sessions keeps.sessions;
  clients = all_weaker (ClientKeeps Q) (ClientKeeps R) (λ c is. if_weaker (Q c.id.level) (R c.id.level) (weaker c.id.level) c.kept is) w.clients keeps.clients;
}

-- ---- a COMPOUND

module _ (Q : ℕ → Kept → Type 0) where
  -- what is kept, for a walk: a new session keeps no result yet, and a slot gets one of its session's level
  abbrev keeps_walk : (Spells : Type 0) → Walk Spells
  keeps_walk Spells = record {
    Holds = Keeps Q;
    OfSession = SessionKeeps Q;
    OfClient = ClientKeeps Q;
    OfSlot = λ x kept. Q x.id.level kept;
    OfRecord = Q;
    sessions = λ w keeps. keeps.sessions;
    clients = λ w keeps. keeps.clients;
    holds = λ w v keeps sessions clients nodes. record { sessions = sessions; clients = clients };
    is_new = λ i args. tt;
    when_confirmed = λ p c keeps. keeps;
    when_renewed = λ moment c keeps. keeps;
    when_reclaimed = λ c keeps. keeps;
    when_kept = λ c kept keeps is. is;
    made = λ i c fore large. all_fresh (SlotKeeps Q i.level) tt (granted_of fore).max_requests;
    kept = λ x slot sequence kept keeps is. all_with_slot (SlotKeeps Q x.id.level) slot (record { sequence = sequence; kept = Some kept }) x.slots is keeps;
  }

  may_keep : (Spells : Type 0) (keeper : Keeper) (kept : Kept) (p : Place) (w : World) → Q p.subject kept → MayKeep (keeps_walk Spells) keeper kept p w
  may_keep Spells Nowhere kept p w is = tt
  may_keep Spells (Slot slot sequence) kept p w is = λ number x named found. subst (λ (i : Id). Q i.level kept) (sym (session_at-id (record { level = p.subject; number = number }) w.sessions x found)) is
  may_keep Spells (Record client) kept p w is = is

  -- the keeping of a result leaves the place
  keep_place : (keeper : Keeper) (kept : Kept) (p : Place) (w : World) → (keep_in keeper kept p w).place ≡ p
  keep_place Nowhere kept p w = refl
  keep_place (Slot slot sequence) kept p w = refl
  keep_place (Record client) kept p w = refl

  module _ (X : Extra) (owed : AreLawful X) (site : Site) (lattice : IsPreorderWithBottom site.dom) (sent : Sent) (c : Compound) where
    -- where it holds of the result that the COMPOUND gets
    pub served_left : (level : ℕ) (moment : Moment) (b : Both X.Row) → BothStand X.Fact site.dom (begins_at level moment) b → Keeps Q b.world →
        Q level (record { arguments = sent.arguments; reply = (served X site sent c (begins_at level moment) b).answer.result }) → Keeps Q (served X site sent c (begins_at level moment) b).state.world
    unfolding served
    served_left level moment b stands keeps is =
        let r = run_all (operation X site sent c) c (begins_at level moment) b in
        let kept : Kept = record { arguments = sent.arguments; reply = result_of c r.results r.again } in
        let subject : r.place.subject ≡ level = ap (λ (q : Place). q.subject) (sym (keep_place r.keeper kept r.place r.state.world)) ∙ (served_lawful X owed site lattice sent c).subject (begins_at level moment) b stands in
        let walk = keeps_walk ⊥ in
        keep_left walk r.place r.state.world (run_left site (λ none. absurd none) walk sent (λ none. none) X owed lattice c (begins_at level moment) b stands keeps) kept r.keeper
        (may_keep ⊥ r.keeper kept r.place r.state.world (subst (λ s. Q s kept) (sym subject) is))
