-- Schedules. A client and a server have a network between them that may lose, repeat and reorder: what was ever sent may
-- come to the server never, once or often, at any moment and in any order, and likewise each reply to the client. Others
-- come between. The law says of every such schedule that requests act once.
use Rattle.std.specs.Prelude.{◌≡◌, ℕ, zero, suc, Bool, true, false, cond, ◌&&◌, ◌==◌, ◌+◌, ◌≤◌, nat_lt, List, [], ◌∷◌, Option, Some, None}
use Rattle.std.specs.List.{list_any}
use Rattle.lnfs_once.specs.Client.{Kind, Assert, Exchange, Create, Compound, Destroy, Leave, End, Packet, Tells, Known, Made, Ran, Granted, Nothing, Client, learned, asked, offered, takes, first_client}
use Rattle.lnfs_once.specs.Server.{Server}

-- a reply, with the request that it was given to
pub record Reply (A R : Type 0) : Type 0 where
  pub packet : Packet A
  pub outcome : R

-- Where a schedule has come to. Its lists leave out nothing, and have the newest first.
pub record State (S : Server) : Type 0 where
  pub client : Client S.A
  pub server : S.V
  pub sent : List (Packet S.A)  -- every packet that the client sent, once for each time
  pub given : List (Reply S.A S.R)  -- every reply that the server gave to these
  pub acts : List (Reply S.A S.R)  -- those of them that it gave as it acted
  pub taken : List (Reply S.A S.R)  -- what the client took, with the request that it awaited

-- A turn that can't be, as one of a packet that there isn't, does nothing.
pub data Turn (S : Server) : Type 0 where
  -- the client makes its next request and sends it
  Next : (kind : Kind) (payload : S.A) → Turn S
  -- the client sends the awaited request again
  Resend : Turn S
  -- a packet that was ever sent comes to the server
  Arrive : (packet : ℕ) (moment : S.M) → Turn S
  -- a reply that was ever given to a packet of the client comes to it
  Return : (reply : ℕ) → Turn S
  -- an event of others comes to the server
  Others : (event : S.E) → Turn S

-- what stands at a place of a list, counted from 0
abbrev pub nth : {X : Type 0} → List X → ℕ → Option X
nth [] k = None
nth (x ∷ xs) zero = Some x
nth (x ∷ xs) (suc k) = nth xs k

-- the packets that were sent, with one more where there is one
abbrev pub posted : {A : Type 0} → Option (Packet A) → List (Packet A) → List (Packet A)
posted None packets = packets
posted (Some p) packets = p ∷ packets

-- whether the client may make the request, if there is one
abbrev pub suits_all : (S : Server) → Option (Packet S.A) → Bool
suits_all S None = true
suits_all S (Some p) = S.suits p

-- The client makes so many requests at most that no transaction, and no sequence of a slot, comes round again.
abbrev pub requests : (S : Server) → State S → Kind → S.A → Option (Packet S.A) → State S
requests S s kind payload awaited =
    cond (nat_lt s.client.sent S.top && suits_all S (offered kind payload s.client awaited))
    (record s { client = asked S.top kind payload s.client awaited; sent = posted (offered kind payload s.client awaited) s.sent })
    s

-- what is awaited is sent again as it is
abbrev pub resends : (S : Server) → State S → Option (Packet S.A) → State S
resends S s awaited = record s { sent = posted awaited s.sent }

-- the server gives a reply to a packet that is there
abbrev pub arrives : (S : Server) → State S → S.M → Option (Packet S.A) → State S
arrives S s moment None = s
arrives S s moment (Some p) =
    let served = S.serve s.server moment p in
    let reply : Reply S.A S.R = record { packet = p; outcome = served.reply } in
    record s { server = served.state; given = reply ∷ s.given; acts = cond served.acts (reply ∷ s.acts) s.acts }

-- the client once it took a reply for the awaited request: it awaits nothing
abbrev pub settled : (S : Server) → Option (Packet S.A) → S.R → Client S.A → Client S.A
settled S None outcome c = c
settled S (Some p) outcome c = record (learned p.kind (S.tells p outcome) c) { awaited = None }

-- A reply under another transaction than the awaited one changes nothing.
abbrev pub take_reply : (S : Server) → ℕ → S.R → Client S.A → Client S.A
take_reply S xid outcome c = cond (takes xid c.awaited) (settled S c.awaited outcome c) c

-- what is taken for the awaited request
abbrev pub noted : (S : Server) → Option (Packet S.A) → S.R → List (Reply S.A S.R) → List (Reply S.A S.R)
noted S None outcome taken = taken
noted S (Some p) outcome taken = record { packet = p; outcome = outcome } ∷ taken

-- a reply that is there comes to the client
abbrev pub returns : (S : Server) → State S → Option (Reply S.A S.R) → State S
returns S s None = s
returns S s (Some r) =
    let awaited = s.client.awaited in
    record s { client = take_reply S r.packet.xid r.outcome s.client; taken = cond (takes r.packet.xid awaited) (noted S awaited r.outcome s.taken) s.taken }

-- one turn
abbrev pub happens : (S : Server) → State S → Turn S → State S
happens S s (Next kind payload) = requests S s kind payload s.client.awaited
happens S s Resend = resends S s s.client.awaited
happens S s (Arrive k moment) = arrives S s moment (nth s.sent k)
happens S s (Return k) = returns S s (nth s.given k)
happens S s (Others event) = record s { server = S.others s.server event }

-- turns in order
abbrev pub run : (S : Server) → List (Turn S) → State S → State S
run S [] s = s
run S (turn ∷ turns) s = run S turns (happens S s turn)

-- before the first turn: a client that made no request
abbrev pub start : (S : Server) → S.V → State S
start S v = record { client = first_client; server = v; sent = []; given = []; acts = []; taken = [] }

-- ---- what is said of it

-- how many of the replies are to requests of a transaction
abbrev pub count : {A R : Type 0} → ℕ → List (Reply A R) → ℕ
count xid [] = 0
count xid (r ∷ rs) = cond (r.packet.xid == xid) (count xid rs + 1) (count xid rs)

abbrev pub or_else : {R : Type 0} → Option R → Option R → Option R
or_else None other = other
or_else (Some outcome) other = Some outcome

-- the first reply that was given under a transaction: the last one in the list
abbrev pub first_reply : {A R : Type 0} → ℕ → List (Reply A R) → Option R
first_reply xid [] = None
first_reply xid (r ∷ rs) = or_else (first_reply xid rs) (cond (r.packet.xid == xid) (Some r.outcome) None)

abbrev pub is_made : Tells → Bool
is_made (Known id next) = false
is_made (Made session) = true
is_made Ran = false
is_made (Granted context) = false
is_made Nothing = false

abbrev pub is_ran : Tells → Bool
is_ran (Known id next) = false
is_ran (Made session) = false
is_ran Ran = true
is_ran (Granted context) = false
is_ran Nothing = false

-- whether a request made a session, by the replies that were given to what acted
abbrev pub made_session : (S : Server) → Packet S.A → List (Reply S.A S.R) → Bool
made_session S p acts = list_any (λ r. r.packet.xid == p.xid && is_made (S.tells p r.outcome)) acts

abbrev pub is_owed_at : (S : Server) → Kind → Packet S.A → List (Reply S.A S.R) → Bool
is_owed_at S Assert p acts = false
is_owed_at S Exchange p acts = false
is_owed_at S Create p acts = made_session S p acts
is_owed_at S Compound p acts = true
is_owed_at S Destroy p acts = false
is_owed_at S Leave p acts = false
is_owed_at S End p acts = false

-- whether a request is a COMPOUND, or a CREATE_SESSION that made a session
abbrev pub is_owed : (S : Server) → Packet S.A → List (Reply S.A S.R) → Bool
is_owed S p acts = is_owed_at S p.kind p acts

-- whether what is read from a reply is the result of a COMPOUND, or a session
abbrev pub is_result : Kind → Tells → Bool
is_result Assert tells = false
is_result Exchange tells = false
is_result Create tells = is_made tells
is_result Compound tells = is_ran tells
is_result Destroy tells = false
is_result Leave tells = false
is_result End tells = false

-- The law.
pub record ActsOnce (S : Server) (s : State S) : Type 0 where
  -- one transaction is one request: a resend brings what was sent before
  pub same : (j k : ℕ) (p q : Packet S.A) → nth s.sent j ≡ Some p → nth s.sent k ≡ Some q → p.xid ≡ q.xid → p ≡ q
  -- no request acts twice
  pub once : (xid : ℕ) → count xid s.acts ≤ 1
  -- as a request acts it gets its first reply
  pub at_first : (k : ℕ) (r : Reply S.A S.R) → nth s.acts k ≡ Some r → first_reply r.packet.xid s.given ≡ Some r.outcome
  -- the reply that the client takes for such a request is the first one that the server gave it
  pub taken : (k : ℕ) (r : Reply S.A S.R) → nth s.taken k ≡ Some r → is_owed S r.packet s.acts ≡ true → first_reply r.packet.xid s.given ≡ Some r.outcome
  -- a result that the client takes is that of its own request, which acted
  pub own : (k : ℕ) (r : Reply S.A S.R) → nth s.taken k ≡ Some r → is_result r.packet.kind (S.tells r.packet r.outcome) ≡ true → count r.packet.xid s.acts ≡ 1
