-- Tests of an operation's definition, by what they refuse of one that does nothing.
use Rattle.std.specs.Prelude.{[], Option, Some, None, Result, Ok, Err}
use Rattle.lnfs_world.specs.Outcome.{Place, Outcome}
use Rattle.lnfs_operations.specs.declared.Refusal.{Refusal}
use Rattle.lnfs_operations.specs.Chain.{Answer, Done, Refused, refuse, done}
use Rattle.lnfs_operations.specs.Chain as chain
use Rattle.lnfs_nodes.specs.Trees.{refusal_of}

-- what stands behind a test where only the test is told of
abbrev pub passed : Place → Outcome (Answer (Unit {0}))
passed p = done p tt []

abbrev pub refusal_told : {R : Type 0} → Answer R → Option chain.Refusal
refusal_told (Done r) = None
refusal_told (Refused why) = Some why

abbrev pub refusal_in : {R : Type 0} → Outcome (Answer R) → Option chain.Refusal
refusal_in o = refusal_told o.answer

-- what the code refuses, where it answers something else than a success
abbrev pub refused : {A : Type 0} → Result A Refusal → Option chain.Refusal
refused (Ok a) = None
refused (Err why) = Some (refusal_of why)

-- what follows a test, or what refuses it
abbrev pub tested : {R : Type 0} → Place → Option chain.Refusal → Outcome (Answer R) → Outcome (Answer R)
tested p None next = next
tested p (Some why) next = refuse p why.gate why.status
