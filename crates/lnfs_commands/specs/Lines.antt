-- The texts of audit lines.
use Rattle.std.specs.Prelude.{ℕ, List}
use Rattle.std.specs.declared.option.Option.{Option}
use Rattle.std.specs.declared.option.Option.TheVariants.{Some, None}
use Rattle.lnfs_step.specs.Journal.{line_text}
use Rattle.lnfs_vault.specs.Lines.{line_in}
use Rattle.lnfs_vault.specs.declared.audit.AuditLine.{AuditLine}

abbrev pub text_in : Option AuditLine → Option (List ℕ)
text_in None = None
text_in (Some line) = Some (line_text line.event (line_in line))

-- the text of a line, with its event's place
abbrev pub text_at_place : AuditLine → List ℕ
text_at_place line = line_text line.event (line_in line)
