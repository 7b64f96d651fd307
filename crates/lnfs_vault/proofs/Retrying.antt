-- What an event that is answered again is to who served it.
use Rattle.std.proofs.Common.{◌≡◌, ◌+◌, ℕ, List, [], ◌∷◌, ◌++◌, length, Option, Some, None, Ok, Err, refl, ap, ◌∙◌}
use Rattle.std.specs.Prelude.{Result, IfOk, OnOk}
use Rattle.lnfs_types.specs.declared.event.Event.{Event}
use Rattle.lnfs_operations.specs.Extra.{Extra}
use Rattle.lnfs_gss3.specs.Mechanism.{Signing}
use Rattle.lnfs_step.specs.Request.{Call}
use Rattle.lnfs_step.specs.Step.{Line}
use Rattle.lnfs_step.specs.Journal.{state_after, reply_with, line_with}
use Rattle.lnfs_step.specs.Sessions.{HasOrigin, IsAnswered}
use Rattle.lnfs_vault.specs.Kept.{Kept}
use Rattle.lnfs_vault.specs.Lines.{IsLineOf}
use Rattle.lnfs_vault.specs.Retried.{IsRetried}
use Rattle.lnfs_vault.specs.declared.audit.AuditLine.{AuditLine}
use Rattle.lnfs_vault.specs.declared.vault.Served.{Served}

no_line : (event : ℕ) (line : Option Line) (told : Option AuditLine) → IsLineOf event line told → line ≡ None → told ≡ None
no_line event line None is none = refl
no_line event line (Some l) is none = absurd (let some = is.0 in cc)

pub retried : (X : Extra) (m : Signing) (old new : Kept) (event : Event) (call : Call) (arguments first : List ℕ) (served : Served) →
    served.reply ≡ reply_with X m old.policy old.journal event → IsLineOf (length old.journal + 1) (line_with X m old.policy old.journal event) served.line →
    new.policy ≡ old.policy → new.journal ≡ old.journal ++ event ∷ [] → HasOrigin X m old.policy old.journal call.level (record { arguments = arguments; reply = first }) → IsAnswered X m old.policy old.journal event call first → IsRetried X m old new call arguments first served
retried X m old new event call arguments first served reply line policy journal origin answered = record {
  origin = origin;
  reply = reply ∙ answered.given.reply;
  line = no_line (length old.journal + 1) (line_with X m old.policy old.journal event) served.line line answered.line;
  state = (λ i. state_after X m (policy i) (journal i)) ∙ answered.given.state;
}

-- whatever serving it came to
pub served_again : (X : Extra) (m : Signing) (old new : Kept) (event : Event) (call : Call) (arguments first : List ℕ) {E : Type 0} (result : Result Served E) →
    IfOk result (λ served. served.reply ≡ reply_with X m old.policy old.journal event) → IfOk result (λ served. IsLineOf (length old.journal + 1) (line_with X m old.policy old.journal event) served.line) →
    OnOk result (new ≡ record old { journal = old.journal ++ event ∷ [] }) → HasOrigin X m old.policy old.journal call.level (record { arguments = arguments; reply = first }) → IsAnswered X m old.policy old.journal event call first →
    IfOk result (IsRetried X m old new call arguments first)
served_again X m old new event call arguments first (Ok served) reply line kept origin answered =
    retried X m old new event call arguments first served reply line (ap (λ (k : Kept). k.policy) kept) (ap (λ (k : Kept). k.journal) kept) origin answered
served_again X m old new event call arguments first (Err e) reply line kept origin answered = tt
