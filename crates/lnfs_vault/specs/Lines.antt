-- What the code's audit lines stand for.
use Rattle.std.specs.Prelude.{◌≡◌, ℕ, Option, Some, None}
use Rattle.lnfs_step.specs.Step.{Line}
use Rattle.lnfs_vault.specs.declared.audit.AuditLine.{AuditLine}

abbrev pub line_in : AuditLine → Line
line_in l = record { place = l.place; number = l.number; gate = l.gate; status = l.status }

-- the audit line of an event is that of its step, with the event's place
abbrev pub IsLineOf : ℕ → Option Line → Option AuditLine → Type 0
IsLineOf event line None = line ≡ None
IsLineOf event line (Some l) = (line ≡ Some (line_in l)) × (l.event ≡ event)
