-- A small server, and a schedule of it that the checker computes. The server adds up numbers. Each comes under the next
-- sequence of its one slot, and is answered by the sum.
use Rattle.std.specs.Prelude.{ℕ, Bool, true, false, cond, ◌==◌, ◌+◌, List, [], ◌∷◌}
use Rattle.lnfs_once.specs.Client.{Kind, Assert, Exchange, Create, Compound, Destroy, Leave, End, Packet, Tells, Known, Made, Ran, Granted, Nothing}
use Rattle.lnfs_once.specs.Server.{Served, Server}
use Rattle.lnfs_once.specs.Schedule.{State, Turn, Next, Resend, Arrive, Return, Others, run, start}

pub record Tally : Type 0 where
  pub last : ℕ  -- the last sequence that came
  pub sum : ℕ

-- nothing acts
abbrev pub still : Tally → (reply : ℕ) → Served Tally ℕ
still v reply = record { state = v; reply = reply; acts = false }

-- a number is added
abbrev pub added : Tally → Packet ℕ → Served Tally ℕ
added v q = record { state = record { last = q.sequence; sum = v.sum + q.payload }; reply = v.sum + q.payload; acts = true }

-- One under the last sequence is answered again, and any other is refused by 0.
abbrev pub on_slot : Tally → Packet ℕ → Served Tally ℕ
on_slot v q = cond (q.sequence == v.last + 1) (added v q) (still v (cond (q.sequence == v.last) v.sum 0))

abbrev pub serve_as : Tally → Packet ℕ → Kind → Served Tally ℕ
serve_as v q Assert = still v 0
serve_as v q Exchange = still v 0
serve_as v q Create = still v 0
serve_as v q Compound = on_slot v q
serve_as v q Destroy = still v 0
serve_as v q Leave = still v 0
serve_as v q End = still v 0

-- there is one client id, and one session of it
abbrev pub tells_as : Kind → (reply : ℕ) → Tells
tells_as Assert reply = Nothing
tells_as Exchange reply = Known 1 1
tells_as Create reply = Made 1
tells_as Compound reply = cond (reply == 0) Nothing Ran
tells_as Destroy reply = Nothing
tells_as Leave reply = Nothing
tells_as End reply = Nothing

abbrev pub tally : Server
tally = record {
  V = Tally;
  A = ℕ;
  R = ℕ;
  M = Unit {0};
  E = Unit {0};
  top = 1000;
  suits = λ q. true;
  serve = λ v m q. serve_as v q q.kind;
  others = λ v e. v;
  tells = λ q r. tells_as q.kind r;
}

-- 5 is added, and then 7.
abbrev pub turns : List (Turn tally)
turns =
    Next Exchange 0 ∷ Arrive 0 tt ∷ Return 0 ∷
    Next Create 0 ∷ Arrive 0 tt ∷ Return 0 ∷
    -- the first reply to 5 is lost, and it comes three times
    Next Compound 5 ∷ Arrive 0 tt ∷ Resend ∷ Arrive 0 tt ∷ Arrive 1 tt ∷
    -- the last reply but one is taken, and the last one comes too late
    Return 1 ∷ Return 0 ∷
    -- 5 comes once more before 7 and once behind it, and the reply to it there is not that to 7
    Next Compound 7 ∷ Arrive 2 tt ∷ Arrive 0 tt ∷ Arrive 1 tt ∷ Return 0 ∷ Return 1 ∷ []

abbrev pub played : State tally
played = run tally turns (start tally (record { last = 0; sum = 0 }))
