-- What slots keep was accepted: each operation keeps that, and so does a COMPOUND that is served. So a request that
-- comes again with the arguments that are kept is accepted too.
use Rattle.std.proofs.Common.{◌≡◌, ◌≤◌, ℕ, true, List, Option, Some, Ok, refl, sym, ap, ◌∙◌, subst, arith}
use Rattle.std.specs.Prelude.{IfSome, slice_get}
use Rattle.lnfs_calipso.specs.Label.{IsPreorderWithBottom}
use Rattle.lnfs_types.specs.declared.event.Moment.{Moment}
use Rattle.lnfs_xdr.specs.Message.{parse}
use Rattle.lnfs_arguments.specs.Further.{Further}
use Rattle.lnfs_arguments.specs.Whole.{compound}
use Rattle.lnfs_arguments.specs.declared.types.Compound.{Compound}
use Rattle.lnfs_arguments.specs.declared.types.Sequence.{Sequence}
use Rattle.lnfs_world.specs.World.{Id, Kept, Slot as SlotRow, Session, World, session_at, same_id}
use Rattle.lnfs_world.specs.Outcome.{Site, Place, begins_at, done_to}
use Rattle.lnfs_world.specs.Both.{Both, BothStand}
use Rattle.lnfs_world.proofs.Rows.{all_anyway, all_find}
use Rattle.lnfs_operations.specs.Accepted.{IsSent, WasAccepted, SlotAccepted, SessionAccepted, AllAccepted}
use Rattle.lnfs_operations.specs.CreateSession.{granted_of}
use Rattle.lnfs_operations.specs.Extra.{Extra, AreLawful}
use Rattle.lnfs_operations.specs.Identifiers.{session_named}
use Rattle.lnfs_operations.specs.Retries.{Names}
use Rattle.lnfs_operations.specs.Sequence.{Sent}
use Rattle.lnfs_operations.specs.Served.{Keeper, Nowhere, Slot, Record, operation}
use Rattle.lnfs_operations.specs.Sizes.{IsRead, LabelsFit, is_level}
use Rattle.lnfs_operations.specs.Bounds.{Bounds}
use Rattle.lnfs_operations.specs.SlotRule.{run_all, result_of, keep_in, served}
use Rattle.lnfs_operations.proofs.SessionLaws.{session_under-at}
use Rattle.lnfs_operations.proofs.SizeChanges.{FitsIn, fits_slot}
use Rattle.lnfs_operations.proofs.SizeLaws.{kept_fits}
use Rattle.lnfs_operations.proofs.Walks.{Walk, all_fresh, all_with_slot, slot_of_all, run_left, keep_left}

-- ---- rows that are there

pub slot_accepted : (g : Further) (w : World) (i : Id) (x : Session) (n : ℕ) (slot : SlotRow) (kept : Kept) → AllAccepted g w → session_at w.sessions i ≡ Some x → slice_get x.slots n ≡ Some slot → slot.kept ≡ Some kept → WasAccepted g x.channel.max_operations kept
slot_accepted g w i x n slot kept all there at is =
    let slots = (all_find (SessionAccepted g) (λ x. same_id i x.id) w.sessions x all there).0 in
    subst (λ (o : Option Kept). IfSome o (WasAccepted g x.channel.max_operations)) is (slot_of_all (SlotAccepted g x.channel.max_operations) n x.slots slot slots at)

-- the same arguments count as many operations
same_count : (g : Further) (most : ℕ) (kept : Kept) (sent : Sent) (c : Compound) → kept.arguments ≡ sent.arguments → IsSent g sent c → WasAccepted g most kept → sent.count ≤ most
same_count g most kept sent c same is was =
    let read : parse (compound g) sent.arguments ≡ Ok was.asked = ap (parse (compound g)) (sym same) ∙ was.read in
    let equal : was.asked ≡ c = cc (read, is.read) in
    omega (arith, is.count, was.few, ap (λ (d : Compound). d.count) equal)

-- so what comes again on a slot that keeps its arguments is accepted
pub accepted_again : (g : Further) (level : ℕ) (w : World) (args : Sequence) (sent : Sent) (c : Compound) (x : Session) (slot : SlotRow) (reply : List ℕ) → AllAccepted g w → IsSent g sent c → Names level w args sent x slot → slot.kept ≡ Some (record { arguments = sent.arguments; reply = reply }) → sent.count ≤ x.channel.max_operations
accepted_again g level w args sent c x slot reply all is names kept =
    let k : Kept = record { arguments = sent.arguments; reply = reply } in
    let i = session_named args.session in
    same_count g x.channel.max_operations k sent c refl is (slot_accepted g w i x args.slot slot k all (session_under-at args.session w.sessions x names.session) names.slot kept)

-- ---- a COMPOUND

-- what slots keep, for a walk: a new session keeps no result yet
abbrev accepted_walk : Further → (Spells : Type 0) → Walk Spells
accepted_walk g Spells = record {
  Holds = AllAccepted g;
  OfSession = SessionAccepted g;
  OfClient = λ c. Unit {0};
  OfSlot = λ x kept. WasAccepted g x.channel.max_operations kept;
  OfRecord = λ level kept. Unit {0};
  sessions = λ w all. all;
  clients = λ w all. all_anyway (λ c. Unit {0}) (λ c. tt) w.clients;
  holds = λ w v all sessions clients nodes. sessions;
  is_new = λ i args. tt;
  when_confirmed = λ p c it. tt;
  when_renewed = λ moment c it. tt;
  when_reclaimed = λ c it. tt;
  when_kept = λ c kept it is. tt;
  made = λ i c fore large. all_fresh (SlotAccepted g (granted_of fore).max_operations) tt (granted_of fore).max_requests;
  kept = λ x slot sequence kept all is. all_with_slot (SlotAccepted g x.channel.max_operations) slot (record { sequence = sequence; kept = Some kept }) x.slots is all;
}

module _ (g : Further) (p : Place) (w : World) (all : AllAccepted g w) (sent : Sent) (c : Compound) (is : IsSent g sent c) where
  kept_accepted : {Row : Type 0} (own : List Row) (result : List ℕ) (keeper : Keeper) → FitsIn sent.count keeper result p (record { world = w; own = own }) →
      AllAccepted g (done_to w (keep_in keeper (record { arguments = sent.arguments; reply = result }) p w))
  kept_accepted own result Nowhere fits = all
  kept_accepted own result (Slot slot sequence) fits = keep_left (accepted_walk g (Unit {0})) p w all (record { arguments = sent.arguments; reply = result }) (Slot slot sequence) (λ number x named found.
      let few = (fits_slot sent.count result p w.sessions number x named found fits).few in
      record { asked = c; read = is.read; few = omega (arith, few, is.count) })
  kept_accepted own result (Record client) fits = keep_left (accepted_walk g (Unit {0})) p w all (record { arguments = sent.arguments; reply = result }) (Record client) tt

module _ (X : Extra) (owed : AreLawful X) (site : Site) (lattice : IsPreorderWithBottom site.dom) (labels : LabelsFit site) (sent : Sent) (c : Compound) where
  pub served_accepted : (level : ℕ) (moment : Moment) (b : Both X.Row) → BothStand X.Fact site.dom (begins_at level moment) b → is_level site level ≡ true → Bounds site b.world → IsRead c → IsSent X.grammar sent c → AllAccepted X.grammar b.world →
      AllAccepted X.grammar (served X site sent c (begins_at level moment) b).state.world
  unfolding served
  served_accepted level moment b stands known bounds read is all =
      let r = run_all (operation X site sent c) c (begins_at level moment) b in
      let ran = run_left site (λ none. absurd none) (accepted_walk X.grammar ⊥) sent (λ none. none) X owed lattice c (begins_at level moment) b stands all in
      kept_accepted X.grammar r.place r.state.world ran sent c is r.state.own (result_of c r.results r.again) r.keeper
      (kept_fits X owed site lattice labels sent c level moment b stands known bounds read)
