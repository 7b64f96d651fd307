-- A client that is a machine of its own, as one that goes by a script: it decides itself which request it makes next. The
-- law is said of what it sees of its requests: where that moves as the client of the law does, the law holds of the machine.
use Rattle.std.specs.Prelude.{◌≡◌, ℕ, Bool, true, cond, ◌&&◌, nat_lt, List, [], ◌∷◌, Option, Some, None}
use Rattle.lnfs_once.specs.Client.{Kind, Packet, Client, packet_of, next_request, takes, first_client}
use Rattle.lnfs_once.specs.Server.{Server}
use Rattle.lnfs_once.specs.Laws.{ClientRows, Comes}
use Rattle.lnfs_once.specs.Schedule.{Reply, State, nth, posted, take_reply, noted}

-- A client's code, and what the law sees of it.
pub record Machine (S : Server) : Type 1 where
  pub C : Type 0
  -- what it is told to do
  pub T : Type 0
  -- before all requests
  pub first : C
  pub told : T → C → C
  -- whether it has a request to make
  pub asks : C → Bool
  -- what it is once that is made
  pub made : C → C
  -- what it is once a reply came that was given to a packet; by the reply alone, where replies tell whose they are
  pub took : Packet S.A → S.R → C → C
  -- the client of the law in it
  pub seen : C → Client S.A
  -- a reply bears the transaction of a packet
  pub Bears : Packet S.A → S.R → Type 0

-- a request that is made, of what is seen before
pub record IsMade (S : Server) (before after : Client S.A) : Type 0 where
  pub kind : Kind
  pub payload : S.A
  pub idle : before.awaited ≡ None
  pub suits : S.suits (packet_of kind payload before) ≡ true
  pub client : after ≡ next_request S.top kind payload before

-- What a machine owes: that it sees of its requests what the client of the law sees.
pub record IsMachine {S : Server} (N : ClientRows S) (M : Machine S) : Type 0 where
  pub first : M.seen M.first ≡ first_client
  pub told : (t : M.T) (c : M.C) → M.seen (M.told t c) ≡ M.seen c
  pub made : (c : M.C) → nat_lt (M.seen c).sent S.top ≡ true → M.asks c ≡ true → IsMade S (M.seen c) (M.seen (M.made c))
  pub took : (q : Packet S.A) (r : S.R) (c : M.C) → M.Bears q r → M.seen (M.took q r c) ≡ take_reply S q.xid r (M.seen c)
  pub bears : (v : S.V) (m : S.M) (q : Packet S.A) → Comes N v q → M.Bears q (S.serve v m q).reply

module _ {S : Server} (M : Machine S) where
  -- Where a schedule has come to, as `State` of the client of the law.
  pub record MachineState : Type 0 where
    pub client : M.C
    pub server : S.V
    pub sent : List (Packet S.A)
    pub given : List (Reply S.A S.R)
    pub acts : List (Reply S.A S.R)
    pub taken : List (Reply S.A S.R)

  -- what the law sees of it
  abbrev pub viewed : MachineState → State S
  viewed s = record { client = M.seen s.client; server = s.server; sent = s.sent; given = s.given; acts = s.acts; taken = s.taken }

  -- the turns of a schedule, and that the client is told what to do
  pub data MachineTurn : Type 0 where
    Tell : M.T → MachineTurn
    Next : MachineTurn
    Resend : MachineTurn
    Arrive : (packet : ℕ) (moment : S.M) → MachineTurn
    Return : (reply : ℕ) → MachineTurn
    Others : S.E → MachineTurn

  -- the client makes so many requests at most that none comes round again
  abbrev pub requests : MachineState → MachineState
  requests s =
      cond (nat_lt (M.seen s.client).sent S.top && M.asks s.client)
      (record s { client = M.made s.client; sent = posted (M.seen (M.made s.client)).awaited s.sent })
      s

  abbrev pub arrived : MachineState → S.M → Option (Packet S.A) → MachineState
  arrived s moment None = s
  arrived s moment (Some p) =
      let served = S.serve s.server moment p in
      let reply : Reply S.A S.R = record { packet = p; outcome = served.reply } in
      record s { server = served.state; given = reply ∷ s.given; acts = cond served.acts (reply ∷ s.acts) s.acts }

  abbrev pub returned : MachineState → Option (Reply S.A S.R) → MachineState
  returned s None = s
  returned s (Some r) =
      let awaited = (M.seen s.client).awaited in
      record s { client = M.took r.packet r.outcome s.client; taken = cond (takes r.packet.xid awaited) (noted S awaited r.outcome s.taken) s.taken }

  -- one turn
  abbrev pub machine_happens : MachineState → MachineTurn → MachineState
  machine_happens s (Tell t) = record s { client = M.told t s.client }
  machine_happens s Next = requests s
  machine_happens s Resend = record s { sent = posted (M.seen s.client).awaited s.sent }
  machine_happens s (Arrive k moment) = arrived s moment (nth s.sent k)
  machine_happens s (Return k) = returned s (nth s.given k)
  machine_happens s (Others e) = record s { server = S.others s.server e }

  -- turns in order
  abbrev pub machine_run : List MachineTurn → MachineState → MachineState
  machine_run [] s = s
  machine_run (turn ∷ rest) s = machine_run rest (machine_happens s turn)

  -- before the first turn
  abbrev pub machine_start : S.V → MachineState
  machine_start v = record { client = M.first; server = v; sent = []; given = []; acts = []; taken = [] }
