-- The laws of erasure for an operation, over any state: a world, or a world with the rows of further
-- operations.
use Rattle.std.specs.Prelude.{◌≡◌, ℕ, Bool, true, false}
use Rattle.lnfs_world.specs.World.{World}
use Rattle.lnfs_world.specs.Outcome.{Place, Outcome, Act, done_to}

-- an answer, where the next operation stands, and the state afterwards
pub record Turn (A S : Type 0) : Type 0 where
  pub answer : A
  pub place : Place
  pub state : S

-- an operation with its arguments: at a place, on a state
abbrev pub Deed : Type 0 → Type 0 → Type 0
Deed A S = Place → S → Turn A S

abbrev pub turn_of : {A : Type 0} → World → Outcome A → Turn A World
turn_of w o = record { answer = o.answer; place = o.place; state = done_to w o }

abbrev pub deed_of : {A : Type 0} → Act A → Deed A World
deed_of act p w = turn_of w (act p w)

-- Over what a level sees of a state, and what stands of a place and a state.
pub record Lawful {A S : Type 0} (dom : ℕ → ℕ → Bool) (seen_by : ℕ → S → S) (Standing : Place → S → Type 0) (deed : Deed A S) : Type 0 where
  -- For a level that dominates the subject, the answer, the place and what the level sees afterwards are
  -- determined by what it saw before.
  pub answer : (level : ℕ) (p : Place) (a b : S) → dom level p.subject ≡ true → Standing p a → Standing p b → seen_by level a ≡ seen_by level b → (deed p a).answer ≡ (deed p b).answer
  pub place : (level : ℕ) (p : Place) (a b : S) → dom level p.subject ≡ true → Standing p a → Standing p b → seen_by level a ≡ seen_by level b → (deed p a).place ≡ (deed p b).place
  pub seen : (level : ℕ) (p : Place) (a b : S) → dom level p.subject ≡ true → Standing p a → Standing p b → seen_by level a ≡ seen_by level b → seen_by level (deed p a).state ≡ seen_by level (deed p b).state
  -- For any other level, what it sees stays.
  pub unseen : (level : ℕ) (p : Place) (a : S) → dom level p.subject ≡ false → Standing p a → seen_by level (deed p a).state ≡ seen_by level a
  -- What has to stand stands afterwards, for the same subject.
  pub stands : (p : Place) (a : S) → Standing p a → Standing (deed p a).place (deed p a).state
  pub subject : (p : Place) (a : S) → Standing p a → (deed p a).place.subject ≡ p.subject
