-- Operations as chains of tests: one line a test, in order, each with what a failure answers.
use Rattle.std.specs.Prelude.{ℕ, Bool, cond, List, [], Option, Some, None}
use Rattle.lnfs_world.specs.Change.{Change}
use Rattle.lnfs_world.specs.Outcome.{Place, Outcome}
use Rattle.lnfs_operations.specs.declared.Gate.{Gate}

-- which kind of test failed, with which status
pub record Refusal : Type 0 where
  pub gate : Gate
  pub status : ℕ

-- what an operation answers: its result, or a refusal
pub data Answer (R : Type 0) : Type 0 where
  Done : R → Answer R
  Refused : Refusal → Answer R

-- a refusal leaves the place and changes nothing
abbrev pub refuse : {R : Type 0} → Place → Gate → ℕ → Outcome (Answer R)
refuse p gate status = record { answer = Refused (record { gate = gate; status = status }); place = p; changes = [] }

-- a success that leaves the place
abbrev pub done : {R : Type 0} → Place → R → List Change → Outcome (Answer R)
done p result changes = record { answer = Done result; place = p; changes = changes }

-- the next test, or a refusal
abbrev pub demand : {A : Type 0} → Bool → Outcome A → Outcome A → Outcome A
demand test refusal next = cond test next refusal

-- one way where there is such a row, and another where there is none
abbrev pub where_there : {X A : Type 0} → Option X → (X → Outcome A) → Outcome A → Outcome A
where_there (Some x) found absent = found x
where_there None found absent = absent
