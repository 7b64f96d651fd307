-- What holds at each moment of a schedule.
use Rattle.std.proofs.Common.{◌≡◌, ℕ, ◌+◌, ◌≤◌, ◌<◌, Bool, true, false, ◌||◌, Option, Some, None}
use Rattle.std.specs.Prelude.{◌==◌}
use Rattle.lnfs_once.specs.Client.{Kind, Assert, Exchange, Create, Compound, Destroy, Leave, End, Packet, Tells, Made, Client, place_of, sequence_of, learned}
use Rattle.lnfs_once.specs.Server.{Server}
use Rattle.lnfs_once.specs.Schedule.{State, Reply, nth, count, first_reply, is_made, is_result}
use Rattle.lnfs_once.specs.Laws.{ClientRows, Holder, Session, slot_of, Knows, Past}

abbrev pub rank : Kind → ℕ
rank Assert = 0
rank Exchange = 1
rank Create = 2
rank Compound = 3
rank Destroy = 4
rank Leave = 5
rank End = 6

abbrev pub same_kind : Kind → Kind → Bool
same_kind k l = rank k == rank l

-- where the first answer has to be the one that the client takes
abbrev pub owes : Kind → Tells → Bool
owes Assert tells = false
owes Exchange tells = false
owes Create tells = is_made tells
owes Compound tells = true
owes Destroy tells = false
owes Leave tells = false
owes End tells = false

abbrev pub owes_first : (S : Server) → Packet S.A → Option S.R → Bool
owes_first S p None = false
owes_first S p (Some outcome) = owes p.kind (S.tells p outcome)

module _ {S : Server} (N : ClientRows S) where
  -- what the client would send next has its slot's next sequence
  abbrev pub Fits : S.V → Client S.A → Kind → Type 0
  Fits v c k = Knows N v k (place_of k c) × ((x : N.Slot) → slot_of N v k (place_of k c) ≡ Some x → sequence_of k c ≡ N.last x + 1)

  abbrev pub FitsAll : S.V → Client S.A → Type 0
  FitsAll v c = (k : Kind) → Fits v c k

  -- whatever the phase
  pub record Base (s : State S) : Type 0 where
    pub good : N.Good s.server
    pub unsaid : (xid : ℕ) → s.client.sent < xid → first_reply xid s.given ≡ None
    pub undone : (xid : ℕ) → s.client.sent < xid → count xid s.acts ≡ 0
    pub packets : (j : ℕ) (q : Packet S.A) → nth s.sent j ≡ Some q → (1 ≤ q.xid) × (q.xid ≤ s.client.sent) × Knows N s.server q.kind q.place
    pub slots : (h : Holder) (n : ℕ) (x : N.Slot) → N.row s.server h n ≡ Some x → N.last x + 1 ≤ s.client.sent
    pub suited : (j : ℕ) (q : Packet S.A) → nth s.sent j ≡ Some q → S.suits q ≡ true
    pub room : s.client.sent ≤ S.top
    pub same : (j k : ℕ) (p q : Packet S.A) → nth s.sent j ≡ Some p → nth s.sent k ≡ Some q → p.xid ≡ q.xid → p ≡ q
    pub once : (xid : ℕ) → count xid s.acts ≤ 1
    pub at_first : (j : ℕ) (r : Reply S.A S.R) → nth s.acts j ≡ Some r → first_reply r.packet.xid s.given ≡ Some r.outcome
    pub answered : (j : ℕ) (r : Reply S.A S.R) → nth s.taken j ≡ Some r → first_reply r.packet.xid s.given ≡ None → ⊥
    pub taken : (j : ℕ) (r : Reply S.A S.R) → nth s.taken j ≡ Some r → owes_first S r.packet (first_reply r.packet.xid s.given) ≡ true → first_reply r.packet.xid s.given ≡ Some r.outcome
    pub own : (j : ℕ) (r : Reply S.A S.R) → nth s.taken j ≡ Some r → is_result r.packet.kind (S.tells r.packet r.outcome) ≡ true → count r.packet.xid s.acts ≡ 1

  -- nothing is awaited
  pub record Idle (s : State S) : Type 0 where
    pub awaited : s.client.awaited ≡ None
    pub fits : FitsAll s.server s.client
    pub past : (j : ℕ) (q : Packet S.A) → nth s.sent j ≡ Some q → Past N s.server q

  -- the awaited request was not answered yet
  pub record Fresh (s : State S) (p : Packet S.A) : Type 0 where
    pub awaited : s.client.awaited ≡ Some p
    pub begun : 1 ≤ p.xid
    pub suits : S.suits p ≡ true
    pub xid : p.xid ≡ s.client.sent
    pub unsaid : first_reply p.xid s.given ≡ None
    pub undone : count p.xid s.acts ≡ 0
    pub fits : (k : Kind) → same_kind k p.kind ≡ false → Fits s.server s.client k
    pub place : place_of p.kind s.client ≡ p.place
    pub later : (x : N.Slot) → slot_of N s.server p.kind p.place ≡ Some x → sequence_of p.kind s.client ≡ p.sequence + 1
    pub within : Knows N s.server p.kind p.place
    pub due : (x : N.Slot) → slot_of N s.server p.kind p.place ≡ Some x → (p.sequence ≡ N.last x + 1) × (p.sequence + 1 ≤ s.client.sent)
    pub same : (j : ℕ) (q : Packet S.A) → nth s.sent j ≡ Some q → q.xid ≡ p.xid → q ≡ p
    pub past : (j : ℕ) (q : Packet S.A) → nth s.sent j ≡ Some q → (q.xid == p.xid) ≡ false → Past N s.server q

  -- the awaited request was answered
  pub record Answered (s : State S) (p : Packet S.A) (o : S.R) : Type 0 where
    pub awaited : s.client.awaited ≡ Some p
    pub begun : 1 ≤ p.xid
    pub suits : S.suits p ≡ true
    pub xid : p.xid ≡ s.client.sent
    pub context : s.client.context ≡ p.place.context
    pub first : first_reply p.xid s.given ≡ Some o
    pub fits : FitsAll s.server s.client
    pub within : Knows N s.server p.kind p.place
    pub same : (j : ℕ) (q : Packet S.A) → nth s.sent j ≡ Some q → q.xid ≡ p.xid → q ≡ p
    pub past : (j : ℕ) (q : Packet S.A) → nth s.sent j ≡ Some q → Past N s.server q
    pub keeps : (x : N.Slot) → slot_of N s.server p.kind p.place ≡ Some x → (N.last x ≡ p.sequence) × N.Keeps x p o
    pub mine : Past N s.server p
    pub opened : (session : ℕ) → p.kind ≡ Create → S.tells p o ≡ Made session → N.Given s.server Session session
    pub lives : (session : ℕ) → p.kind ≡ Create → S.tells p o ≡ Made session → N.row s.server Session session ≡ None → ⊥
    pub did : is_result p.kind (S.tells p o) ≡ true → count p.xid s.acts ≡ 1
    pub lost : slot_of N s.server p.kind p.place ≡ None → owes p.kind (S.tells p o) ≡ true → N.refusal p (N.there s.server p.place.context) ≡ o
    pub promise : FitsAll s.server (learned p.kind (S.tells p o) s.client)
    pub packets : (j : ℕ) (g : Reply S.A S.R) → nth s.given j ≡ Some g → g.packet.xid ≡ p.xid → g.packet ≡ p
    pub alike : (j : ℕ) (g : Reply S.A S.R) → nth s.given j ≡ Some g → g.packet.xid ≡ p.xid → (owes p.kind (S.tells p g.outcome) || owes p.kind (S.tells p o)) ≡ true → g.outcome ≡ o
    pub promises : (j : ℕ) (g : Reply S.A S.R) → nth s.given j ≡ Some g → g.packet.xid ≡ p.xid → FitsAll s.server (learned p.kind (S.tells p g.outcome) s.client)

  pub data Phase (s : State S) : Type 0 where
    idle : Idle s → Phase s
    fresh : (p : Packet S.A) → Fresh s p → Phase s
    answered : (p : Packet S.A) (o : S.R) → Answered s p o → Phase s

  abbrev pub Holds : State S → Type 0
  Holds s = Base s × Phase s
