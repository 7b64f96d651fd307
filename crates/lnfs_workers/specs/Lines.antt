-- The audit lines of a journal.
use Rattle.std.specs.Prelude.{ℕ, ◌+◌, List, [], ◌∷◌, ◌++◌, length, Option, Some, None}
use Rattle.lnfs_types.specs.declared.event.Event.{Event}
use Rattle.lnfs_policy.specs.Policy.{Policy}
use Rattle.lnfs_operations.specs.Extra.{Extra}
use Rattle.lnfs_gss3.specs.Mechanism.{Signing}
use Rattle.lnfs_step.specs.Step.{Line}
use Rattle.lnfs_step.specs.Journal.{line_with}
use Rattle.lnfs_vault.specs.declared.audit.AuditLine.{AuditLine}
use Rattle.lnfs_vault.specs.Lines.{line_in}

-- a line with its event's place
abbrev pub placed : (event : ℕ) → Option Line → List (ℕ × Line)
placed event None = []
placed event (Some line) = (event, line) ∷ []

-- the line of each event that has one, with the event's place in the journal, from 1
abbrev pub lines_from : (X : Extra) → Signing → Policy → (before journal : List Event) → List (ℕ × Line)
lines_from X m p before [] = []
lines_from X m p before (e ∷ es) = placed (length before + 1) (line_with X m p before e) ++ lines_from X m p (before ++ e ∷ []) es

abbrev pub lines_of : (X : Extra) → Signing → Policy → (journal : List Event) → List (ℕ × Line)
lines_of X m p journal = lines_from X m p [] journal

-- what the code's lines stand for
abbrev pub lines_in : List AuditLine → List (ℕ × Line)
lines_in [] = []
lines_in (l ∷ ls) = (l.event, line_in l) ∷ lines_in ls
