-- The laws of requests on a slot, of each kind of request.
use Rattle.std.proofs.Common.{◌≡◌, ℕ, ◌+◌, ◌≤◌, Bool, true, false, cond, List, Option, Some, None, refl, sym, ◌∙◌, ap, subst, arith}
use Rattle.std.specs.Prelude.{slice_get}
use Rattle.std.specs.Str.{bytes_eq}
use Rattle.lnfs_calipso.specs.Label.{IsPreorderWithBottom}
use Rattle.lnfs_policy.specs.Policy.{Policy, dominance}
use Rattle.lnfs_world.specs.declared.numbers.TheConstants.{LAST_SEQUENCE}
use Rattle.lnfs_world.specs.World.{Client as ClientRow, Session as SessionRow, Slot as SlotRow, World, client_at, session_at}
use Rattle.lnfs_operations.specs.Extra.{Extra, AreLawful}
use Rattle.lnfs_gss3.specs.Mechanism.{Signing}
use Rattle.lnfs_step.specs.Contexts.{is_there}
use Rattle.lnfs_once.specs.Client.{Kind, Assert, Exchange, Create, Compound, Destroy, Leave, End, Packet}
use Rattle.lnfs_once.specs.Laws.{Holder, Record, Session, holder_of, has_slot, slot_of, IsStill, Comes}
use Rattle.lnfs_slots.specs.OneClient.{Seen, When, Row, Writer, at_level, is_session, record_row, session_row, row_of, given_in, serve, context_there, IsSound, rows}
use Rattle.lnfs_slots.specs.SlotLaws.{AreSlotsKept, DoCompoundsAct, DoCreatesAct}
use Rattle.lnfs_slots.specs.Written.{context_of, IsWriter}
use Rattle.lnfs_slots.proofs.Steps.{there_is}
use Rattle.lnfs_slots.proofs.Compounds as compounds
use Rattle.lnfs_slots.proofs.Running as running
use Rattle.lnfs_slots.proofs.ClientCreates as creates
use Rattle.lnfs_slots.proofs.DueCompound.{due_compound}
use Rattle.lnfs_slots.proofs.DueCreateSession.{due_create}

-- what a place shows is in its row, in a context that is there
in_row : {Y : Type 0} (b : Bool) (o : Option Y) (x : Y) → cond b o None ≡ Some x → (b ≡ true) × (o ≡ Some x)
in_row true o x e = (refl, e)
in_row false o x e = absurd (grind arith)

-- a record that was given and shows no row is not there
pub no_record : (owner : List ℕ) (o : Option ClientRow) → ((c : ClientRow) → o ≡ Some c → bytes_eq c.owner owner ≡ true) → record_row owner o ≡ None → o ≡ None
no_record owner None ours none = refl
no_record owner (Some c) ours none = absurd (grind (arith, none, ours c refl))

-- so is a session, where each has a slot
pub no_session : (owner : List ℕ) (level : ℕ) (w : World) (o : Option SessionRow) → ((x : SessionRow) → o ≡ Some x → is_session owner level w x ≡ true) → ((x : SessionRow) → o ≡ Some x → is_session owner level w x ≡ true → (s : SlotRow) × (slice_get x.slots 0 ≡ Some s)) → session_row owner level w o ≡ None → o ≡ None
no_session owner level w None ours slotted none = refl
no_session owner level w (Some x) ours slotted none =
    let own = ours x refl in
    let slot = slotted x refl own in
    absurd (grind (arith, none, own, slot.1))

module _ (X : Extra) (m : Signing) (p : Policy) {A : Type 0} (w : Writer A) (written : IsWriter X m p w) where
  zero : (v : Seen X) → IsSound X m p w v → (h : Holder) → given_in w.owner w.level v.state.world h 0 × (row_of w.owner w.level v.state.world h 0 ≡ None)
  zero v sound Record = ((omega arith, λ c is. absurd (grind (arith, is, sound.no_client))), ap (record_row w.owner) sound.no_client)
  zero v sound Session = ((omega arith, λ x is. absurd (grind (arith, is, sound.no_session))), ap (session_row w.owner w.level v.state.world) sound.no_session)

  module _ (v : Seen X) (when : When) (q : Packet A) (came : Comes (rows X m p w) v q) where
    abbrev here : Bool
    here = is_there v.state.world.contexts w.level (context_of w.parent q.place.context)

    same_there : here ≡ context_there X m p w v q.place.context
    same_there = there_is X m p w v q.place.context came.knows.1

    retry_at : (k : Kind) → q.kind ≡ k → has_slot k ≡ true → (x : Row) → slot_of (rows X m p w) v k q.place ≡ Some x → x.last ≡ q.sequence → (r : Option (List ℕ)) → (rows X m p w).Keeps x q r → (serve X m p w v when q).reply ≡ r
    retry_at Assert kind slotted x is last r keeps = absurd (grind arith)
    retry_at Exchange kind slotted x is last r keeps = absurd (grind arith)
    retry_at Create kind slotted x is last r keeps =
        let shown = in_row (context_there X m p w v q.place.context) (row_of w.owner w.level v.state.world Record q.place.number) x is in
        creates.retry_reply X m p w v when q kind (written.create q came.suits kind) x shown.1 (same_there ∙ shown.0) last keeps.0 keeps.1 ∙ sym keeps.2
    retry_at Compound kind slotted x is last r keeps =
        let shown = in_row (context_there X m p w v q.place.context) (row_of w.owner w.level v.state.world Session q.place.number) x is in
        compounds.retry_reply X m p w v when q kind (written.compound q came.suits kind) came.good x shown.1 (same_there ∙ shown.0) last keeps.0 keeps.1 ∙ sym keeps.2
    retry_at Destroy kind slotted x is last r keeps = absurd (grind arith)
    retry_at Leave kind slotted x is last r keeps = absurd (grind arith)
    retry_at End kind slotted x is last r keeps = absurd (grind arith)

    stale_at : (k : Kind) → q.kind ≡ k → has_slot k ≡ true → (x : Row) → slot_of (rows X m p w) v k q.place ≡ Some x → q.sequence ≤ x.last → IsStill (rows X m p w) v (serve X m p w v when q)
    stale_at Assert kind slotted x is below = absurd (grind arith)
    stale_at Exchange kind slotted x is below = absurd (grind arith)
    stale_at Create kind slotted x is below =
        let shown = in_row (context_there X m p w v q.place.context) (row_of w.owner w.level v.state.world Record q.place.number) x is in
        let still = creates.stale_still X m p w v when q kind (written.create q came.suits kind) x shown.1 (same_there ∙ shown.0) below (came.early.1 Record q.place.number x shown.1) in
        record { state = still.state; acts = still.acts }
    stale_at Compound kind slotted x is below =
        let shown = in_row (context_there X m p w v q.place.context) (row_of w.owner w.level v.state.world Session q.place.number) x is in
        let still = compounds.stale_still X m p w v when q kind (written.compound q came.suits kind) came.good x shown.1 (same_there ∙ shown.0) below (came.early.1 Session q.place.number x shown.1) in
        record { state = still.state; acts = still.acts }
    stale_at Destroy kind slotted x is below = absurd (grind arith)
    stale_at Leave kind slotted x is below = absurd (grind arith)
    stale_at End kind slotted x is below = absurd (grind arith)

    -- ---- the slot is not there

    abbrev Lost : Bool → Type 0
    Lost there = IsStill (rows X m p w) v (serve X m p w v when q) × ((serve X m p w v when q).reply ≡ (rows X m p w).refusal q there)

    lost_at : (k : Kind) → q.kind ≡ k → has_slot k ≡ true → (there : Bool) → context_there X m p w v q.place.context ≡ there → slot_of (rows X m p w) v k q.place ≡ None → Lost there
    lost_at Assert kind slotted there is none = absurd (grind arith)
    lost_at Exchange kind slotted there is none = absurd (grind arith)
    lost_at Create kind slotted false is none =
        let still = running.away X m p w v when q (creates.same_mine X m p w v when q kind (written.create q came.suits kind)) (written.create q came.suits kind).compound (written.create q came.suits kind).request (same_there ∙ is) in
        (record { state = still.state; acts = still.acts }, running.away_reply X m p w v when q (creates.same_mine X m p w v when q kind (written.create q came.suits kind)) (written.create q came.suits kind).compound (written.create q came.suits kind).request (same_there ∙ is))
    lost_at Create kind slotted true is none =
        let row : row_of w.owner w.level v.state.world Record q.place.number ≡ None = sym (ap (λ t. cond t (row_of w.owner w.level v.state.world Record q.place.number) None) is) ∙ none in
        let given : given_in w.owner w.level v.state.world Record q.place.number = subst (λ k. given_in w.owner w.level v.state.world (holder_of k) q.place.number) kind came.knows.0 in
        let gone = no_record w.owner (client_at v.state.world.clients (at_level w.level q.place.number)) given.1 row in
        let lost = creates.lost_still X m p w v when q kind (written.create q came.suits kind) (same_there ∙ is) gone in
        (record { state = lost.0.state; acts = lost.0.acts }, lost.1)
    lost_at Compound kind slotted false is none =
        let still = running.away X m p w v when q (compounds.same_mine X m p w v when q kind (written.compound q came.suits kind)) (written.compound q came.suits kind).compound (written.compound q came.suits kind).request (same_there ∙ is) in
        (record { state = still.state; acts = still.acts }, running.away_reply X m p w v when q (compounds.same_mine X m p w v when q kind (written.compound q came.suits kind)) (written.compound q came.suits kind).compound (written.compound q came.suits kind).request (same_there ∙ is))
    lost_at Compound kind slotted true is none =
        let row : row_of w.owner w.level v.state.world Session q.place.number ≡ None = sym (ap (λ t. cond t (row_of w.owner w.level v.state.world Session q.place.number) None) is) ∙ none in
        let given : given_in w.owner w.level v.state.world Session q.place.number = subst (λ k. given_in w.owner w.level v.state.world (holder_of k) q.place.number) kind came.knows.0 in
        let gone = no_session w.owner w.level v.state.world (session_at v.state.world.sessions (at_level w.level q.place.number)) given.1 (came.good.slotted q.place.number) row in
        let lost = compounds.lost_still X m p w v when q kind (written.compound q came.suits kind) (same_there ∙ is) gone in
        (record { state = lost.0.state; acts = lost.0.acts }, lost.1)
    lost_at Destroy kind slotted there is none = absurd (grind arith)
    lost_at Leave kind slotted there is none = absurd (grind arith)
    lost_at End kind slotted there is none = absurd (grind arith)

pub standing : (X : Extra) (m : Signing) (p : Policy) {A : Type 0} (w : Writer A) → IsWriter X m p w → AreSlotsKept X m p w
standing X m p w written = record {
  lost = λ v at q came slotted none. lost_at X m p w written v at q came q.kind refl slotted (context_there X m p w v q.place.context) refl none;
  stale = λ v at q x came slotted is below. stale_at X m p w written v at q came q.kind refl slotted x is below;
  retry = λ v at q x r came slotted is last keeps. retry_at X m p w written v at q came q.kind refl slotted x is last r keeps;
  zero = zero X m p w written;
}

pub compound_new : (X : Extra) → AreLawful X → (m : Signing) (p : Policy) → IsPreorderWithBottom (dominance p) → {A : Type 0} (w : Writer A) → IsWriter X m p w → DoCompoundsAct X m p w
compound_new X owed m p lattice w written v at q x came kind is next =
    let on_kind : slot_of (rows X m p w) v Compound q.place ≡ Some x = ap (λ k. slot_of (rows X m p w) v k q.place) (sym kind) ∙ is in
    let shown = in_row (context_there X m p w v q.place.context) (row_of w.owner w.level v.state.world Session q.place.number) x on_kind in
    let early : x.last + 1 ≤ LAST_SEQUENCE = came.early.1 Session q.place.number x shown.1 in
    due_compound X owed m p lattice w v at q kind (written.compound q came.suits kind) came.good x shown.1 (same_there X m p w written v at q came ∙ shown.0) next early

pub create_new : (X : Extra) → AreLawful X → (m : Signing) (p : Policy) → IsPreorderWithBottom (dominance p) → {A : Type 0} (w : Writer A) → IsWriter X m p w → DoCreatesAct X m p w
create_new X owed m p lattice w written v at q x came kind is next =
    let on_kind : slot_of (rows X m p w) v Create q.place ≡ Some x = ap (λ k. slot_of (rows X m p w) v k q.place) (sym kind) ∙ is in
    let shown = in_row (context_there X m p w v q.place.context) (row_of w.owner w.level v.state.world Record q.place.number) x on_kind in
    let early : x.last + 1 ≤ LAST_SEQUENCE = came.early.1 Record q.place.number x shown.1 in
    due_create X owed m p lattice w v at q kind (written.create q came.suits kind) came.good x shown.1 (same_there X m p w written v at q came ∙ shown.0) next early
