-- What the step owes of requests: laws of `IsLawful` over the real step, each of a kind of request.
use Rattle.std.specs.Prelude.{◌≡◌, ℕ, ◌+◌, ◌≤◌, true, List, Option, Some, None}
use Rattle.lnfs_types.specs.declared.event.Event.{Event}
use Rattle.lnfs_policy.specs.Policy.{Policy}
use Rattle.lnfs_operations.specs.Extra.{Extra}
use Rattle.lnfs_gss3.specs.Mechanism.{Signing}
use Rattle.lnfs_once.specs.Client.{Kind, Compound, Create, Packet}
use Rattle.lnfs_once.specs.Laws.{Holder, has_slot, slot_of, IsStill, IsGentle, IsPlain, IsNew, Comes}
use Rattle.lnfs_slots.specs.OneClient.{Seen, When, Row, Writer, row_of, given_in, serve, others, context_there, IsSound, rows}

module _ (X : Extra) (m : Signing) (p : Policy) {A : Type 0} (w : Writer A) where
  -- A request comes, of which none is the first: its slot is not there, or the slot is past it.
  pub record AreSlotsKept : Type 0 where
    -- on a slot that is not there the state stays, and the reply is the same at each moment
    pub lost : (v : Seen X) (at : When) (q : Packet A) → Comes (rows X m p w) v q → has_slot q.kind ≡ true → slot_of (rows X m p w) v q.kind q.place ≡ None → IsStill (rows X m p w) v (serve X m p w v at q) × ((serve X m p w v at q).reply ≡ (rows X m p w).refusal q (context_there X m p w v q.place.context))
    -- so it does under a sequence that is not new
    pub stale : (v : Seen X) (at : When) (q : Packet A) (x : Row) → Comes (rows X m p w) v q → has_slot q.kind ≡ true → slot_of (rows X m p w) v q.kind q.place ≡ Some x → q.sequence ≤ x.last → IsStill (rows X m p w) v (serve X m p w v at q)
    -- the request whose result is kept gets the reply that it got
    pub retry : (v : Seen X) (at : When) (q : Packet A) (x : Row) (r : Option (List ℕ)) → Comes (rows X m p w) v q → has_slot q.kind ≡ true → slot_of (rows X m p w) v q.kind q.place ≡ Some x → x.last ≡ q.sequence → (rows X m p w).Keeps x q r → (serve X m p w v at q).reply ≡ r
    -- number 0 names nothing, and is nobody's
    pub zero : (v : Seen X) → IsSound X m p w v → (h : Holder) → given_in w.owner w.level v.state.world h 0 × (row_of w.owner w.level v.state.world h 0 ≡ None)

  -- A COMPOUND under the next sequence of its slot acts.
  abbrev pub DoCompoundsAct : Type 0
  DoCompoundsAct = (v : Seen X) (at : When) (q : Packet A) (x : Row) → Comes (rows X m p w) v q → q.kind ≡ Compound → slot_of (rows X m p w) v q.kind q.place ≡ Some x → q.sequence ≡ x.last + 1 → IsNew (rows X m p w) v q (serve X m p w v at q)

  -- So does a CREATE_SESSION.
  abbrev pub DoCreatesAct : Type 0
  DoCreatesAct = (v : Seen X) (at : When) (q : Packet A) (x : Row) → Comes (rows X m p w) v q → q.kind ≡ Create → slot_of (rows X m p w) v q.kind q.place ≡ Some x → q.sequence ≡ x.last + 1 → IsNew (rows X m p w) v q (serve X m p w v at q)

  -- A request of a kind without a slot ends what it asks to end. Nothing acts, and all else of the client stays.
  abbrev pub IsPlainKind : Kind → Type 0
  IsPlainKind kind = (v : Seen X) (at : When) (q : Packet A) → Comes (rows X m p w) v q → q.kind ≡ kind → IsPlain (rows X m p w) v q (serve X m p w v at q)

  -- An event of others leaves what is the client's, and makes nothing more of it.
  abbrev pub AreOthersApart : Type 0
  AreOthersApart = (v : Seen X) (e : Event) → IsSound X m p w v → IsGentle (rows X m p w) v (others X m p w v e) × ((h : Holder) (n : ℕ) (x : Row) → row_of w.owner w.level (others X m p w v e).state.world h n ≡ Some x → row_of w.owner w.level v.state.world h n ≡ Some x)
