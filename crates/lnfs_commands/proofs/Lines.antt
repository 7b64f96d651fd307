-- The text of an audit line is that of its event.
use Rattle.std.proofs.Common.{◌≡◌, ℕ, List, ◌+◌, length, sym, ap, ◌∙◌}
use Rattle.std.specs.declared.option.Option.{Option}
use Rattle.std.specs.declared.option.Option.TheVariants.{Some, None}
use Rattle.lnfs_types.specs.declared.event.Event.{Event}
use Rattle.lnfs_policy.specs.Policy.{Policy}
use Rattle.lnfs_operations.specs.Extra.{Extra}
use Rattle.lnfs_gss3.specs.Mechanism.{Signing}
use Rattle.lnfs_step.specs.Step.{Line}
use Rattle.lnfs_step.specs.Journal.{line_with, line_text, text_of}
use Rattle.lnfs_vault.specs.Lines.{line_in, IsLineOf}
use Rattle.lnfs_vault.specs.declared.audit.AuditLine.{AuditLine}
use Rattle.lnfs_commands.specs.Events.{audit_with}
use Rattle.lnfs_commands.specs.Lines.{text_in}

pub line_is : (event : ℕ) (line : Option Line) (l : Option AuditLine) → IsLineOf event line l → text_in l ≡ text_of event line
line_is event line None is = sym (ap (text_of event) is)
line_is event line (Some l) is = ap (λ (n : ℕ). Some (line_text n (line_in l))) is.1 ∙ sym (ap (text_of event) is.0)

pub audit_is_line : (X : Extra) (m : Signing) (p : Policy) (journal : List Event) (event : Event) (l : Option AuditLine) → IsLineOf (length journal + 1) (line_with X m p journal event) l → text_in l ≡ audit_with X m p journal event
unfolding audit_with
audit_is_line X m p journal event l is = line_is (length journal + 1) (line_with X m p journal event) l is
