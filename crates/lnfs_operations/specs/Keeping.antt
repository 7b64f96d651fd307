-- The keeping of answers for when a request comes again (RFC 8881 sections 2.10.6 and 18.36.4).
use Rattle.std.specs.Prelude.{ℕ, zero, suc, ◌+◌, ◌==◌, List, [], ◌∷◌, Option, Some, None, if◌then◌else◌}
use Rattle.lnfs_world.specs.World.{Kept, Client, Slot, Session, client_at, session_at}
use Rattle.lnfs_world.specs.Change.{Change, SetClient, SetSession}
use Rattle.lnfs_world.specs.Outcome.{Place, Outcome, Act}
use Rattle.lnfs_world.specs.declared.numbers.TheConstants.{LAST_SEQUENCE}

-- the sequence after one
abbrev pub next_sequence : ℕ → ℕ
next_sequence n = if n == LAST_SEQUENCE then 0 else n + 1

-- nothing is answered, and the place stays
abbrev pub keeps : Place → List Change → Outcome (Unit {0})
keeps p changes = record { answer = tt; place = p; changes = changes }

abbrev pub with_slot : ℕ → Slot → List Slot → List Slot
with_slot slot row [] = []
with_slot zero row (x ∷ xs) = row ∷ xs
with_slot (suc slot) row (x ∷ xs) = x ∷ with_slot slot row xs

abbrev pub kept_in : Place → ℕ → Slot → Option Session → List Change
kept_in p slot row None = []
kept_in p slot row (Some x) = SetSession (record x { slots = with_slot slot row x.slots }) ∷ []

abbrev pub kept_under : Place → ℕ → Slot → Option ℕ → List Session → List Change
kept_under p slot row None sessions = []
kept_under p slot row (Some number) sessions = kept_in p slot row (session_at sessions (record { level = p.subject; number = number }))

-- A COMPOUND's result is kept in the slot of its session under which it came.
abbrev pub keep_result : (slot sequence : ℕ) → Kept → Act (Unit {0})
keep_result slot sequence kept p w = keeps p (kept_under p slot (record { sequence = sequence; kept = Some kept }) p.session w.sessions)

abbrev pub kept_of : Kept → Option Client → List Change
kept_of kept None = []
kept_of kept (Some c) = SetClient (record c { sequence = next_sequence c.sequence; kept = Some kept }) ∷ []

-- A CREATE_SESSION's answer is kept in the record of its client, whose sequence moves.
abbrev pub keep_created : (client : ℕ) → Kept → Act (Unit {0})
keep_created client kept p w = keeps p (kept_of kept (client_at w.clients (record { level = p.subject; number = client })))
