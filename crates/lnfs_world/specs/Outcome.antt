-- What an operation answers and does, and what is proved of each operation.
use Rattle.std.specs.Prelude.{◌≡◌, ℕ, Bool, true, false, ◌&&◌, ◌==◌, List, Option, Some, None}
use Rattle.lnfs_types.specs.declared.event.Moment.{Moment}
use Rattle.lnfs_world.specs.World.{Id, Session, Stored, World, session_at}
use Rattle.lnfs_world.specs.Erased.{erased}
use Rattle.lnfs_world.specs.Change.{Change, apply_all}
use Rattle.lnfs_world.specs.Facts.{Facts, has_confirmed}
use Rattle.lnfs_world.specs.Within.{all_within}

-- What is read of a label as it was given (RFC 7862 section 12.2.4): its level; or that there is no such format, or that the
-- bytes spell the label of no level in it.
pub data LabelRead : Type 0 where
  LevelOf : (level : ℕ) → LabelRead
  WrongFormat : LabelRead
  BadLabel : LabelRead

-- What an operation may look at of the policy of its site.
pub record Site : Type 0 where
  -- dominance of the levels, and how many there are
  pub dom : ℕ → ℕ → Bool
  pub levels : ℕ
  -- whether labels are carried alone: every rule of labels allows, and all levels are 0
  pub limited : Bool
  -- the most nodes and the most bytes of each level
  pub nodes : ℕ → ℕ
  pub bytes : ℕ → ℕ
  -- the label of each level as the site writes it
  pub spelling : ℕ → Stored
  -- the level of a label that is given
  pub reading : Stored → LabelRead

-- Where an operation stands: who asks, and when; the client and the session under which it came, both
-- numbers of the subject's level; and the two file handles of its COMPOUND (RFC 8881 section 16.2.3.1).
pub record Place : Type 0 where
  pub subject : ℕ
  pub moment : Moment
  pub client : Option ℕ
  pub session : Option ℕ
  pub current : Option Id
  pub saved : Option Id

-- the place of the first operation of a COMPOUND
abbrev pub begins_at : ℕ → Moment → Place
begins_at subject moment = record { subject = subject; moment = moment; client = None; session = None; current = None; saved = None }

-- A file handle isn't set, or has a home that the subject dominates.
abbrev pub may_hold : (ℕ → ℕ → Bool) → ℕ → Option Id → Bool
may_hold dom s None = true
may_hold dom s (Some i) = dom s i.level

abbrev pub serves_client : ℕ → Option ℕ → World → Bool
serves_client s None w = true
serves_client s (Some number) w = has_confirmed w.clients s number

abbrev pub is_session_for : Option ℕ → Option Session → Bool
is_session_for (Some client) (Some x) = x.client == client
is_session_for _ _ = false

abbrev pub serves_session : ℕ → Option ℕ → Option ℕ → World → Bool
serves_session s client None w = true
serves_session s client (Some number) w = is_session_for client (session_at w.sessions (record { level = s; number = number }))

-- Its client is there and confirmed, its session is there and of that client, and it may hold its file
-- handles.
abbrev pub is_place : (ℕ → ℕ → Bool) → World → Place → Bool
is_place dom w p =
    serves_client p.subject p.client w && (serves_session p.subject p.client p.session w
    && (may_hold dom p.subject p.current && may_hold dom p.subject p.saved))

-- an answer, where the next operation stands, and what changes
pub record Outcome (A : Type 0) : Type 0 where
  pub answer : A
  pub place : Place
  pub changes : List Change

-- an operation with its arguments: at a place, on a world
abbrev pub Act : Type 0 → Type 0
Act A = Place → World → Outcome A

-- the world afterwards
abbrev pub done_to : {A : Type 0} → World → Outcome A → World
done_to w o = apply_all o.changes w

-- what is asked of world and place before an operation, and what stands after it
pub record Stands (dom : ℕ → ℕ → Bool) (p : Place) (w : World) : Type 0 where
  pub facts : Facts dom w
  pub place : is_place dom w p ≡ true

-- View: two worlds of which the subject sees the same give the same outcome.
abbrev pub View : {A : Type 0} → (ℕ → ℕ → Bool) → Act A → Type 0
View dom act = (p : Place) (a b : World) → Stands dom p a → Stands dom p b → erased dom p.subject a ≡ erased dom p.subject b → act p a ≡ act p b

-- Footprint: the changes are those that the subject may make, and the place stays the subject's.
pub record IsFootprint {A : Type 0} (dom : ℕ → ℕ → Bool) (p : Place) (w : World) (o : Outcome A) : Type 0 where
  pub within : all_within dom p.subject w o.changes ≡ true
  pub place : is_place dom (done_to w o) o.place ≡ true
  pub subject : o.place.subject ≡ p.subject

abbrev pub Footprint : {A : Type 0} → (ℕ → ℕ → Bool) → Act A → Type 0
Footprint dom act = (p : Place) (w : World) → Stands dom p w → IsFootprint dom p w (act p w)
