-- A journal that is one event longer.
use Rattle.std.proofs.Common.{◌≡◌, ℕ, ◌+◌, List, [], ◌∷◌, ◌++◌, length, Option, Some, None, refl, sym, ap, ◌∙◌, append_assoc, append-nil}
use Rattle.std.specs.Option.{option_to_list}
use Rattle.lnfs_types.specs.declared.event.Event.{Event}
use Rattle.lnfs_policy.specs.Policy.{Policy}
use Rattle.lnfs_operations.specs.Extra.{Extra}
use Rattle.lnfs_gss3.specs.Mechanism.{Signing}
use Rattle.lnfs_step.specs.Step.{Line}
use Rattle.lnfs_step.specs.Journal.{reply_with, line_with}
use Rattle.lnfs_vault.specs.declared.audit.AuditLine.{AuditLine}
use Rattle.lnfs_vault.specs.Lines.{line_in, IsLineOf}
use Rattle.lnfs_history.specs.declared.entry.Entry.{Entry}
use Rattle.lnfs_history.specs.Entries.{entry}
use Rattle.lnfs_workers.specs.Transcripts.{entries_from, entries_of}
use Rattle.lnfs_workers.specs.Lines.{placed, lines_from, lines_of, lines_in}

module _ (X : Extra) (m : Signing) (p : Policy) where
  entries_longer : (before journal : List Event) (e : Event) → entries_from X m p before (journal ++ e ∷ []) ≡ entries_from X m p before journal ++ entry e (reply_with X m p (before ++ journal) e) ∷ []
  entries_longer before [] e = ap (λ (b : List Event). entry e (reply_with X m p b e) ∷ []) (sym (append-nil before))
  entries_longer before (x ∷ journal) e =
      ap (λ (l : List Entry). entry x (reply_with X m p before x) ∷ l)
      (entries_longer (before ++ x ∷ []) journal e
      ∙ ap (λ (b : List Event). entries_from X m p (before ++ x ∷ []) journal ++ entry e (reply_with X m p b e) ∷ []) (append_assoc before (x ∷ []) journal))

  pub entries_push : (journal : List Event) (e : Event) → entries_of X m p (journal ++ e ∷ []) ≡ entries_of X m p journal ++ entry e (reply_with X m p journal e) ∷ []
  entries_push journal e = entries_longer [] journal e

  -- the line of an event behind a journal
  abbrev pub line_behind : List Event → Event → List (ℕ × Line)
  line_behind journal e = placed (length journal + 1) (line_with X m p journal e)

  lines_longer : (before journal : List Event) (e : Event) → lines_from X m p before (journal ++ e ∷ []) ≡ lines_from X m p before journal ++ line_behind (before ++ journal) e
  lines_longer before [] e = append-nil (line_behind before e) ∙ ap (λ (b : List Event). line_behind b e) (sym (append-nil before))
  lines_longer before (x ∷ journal) e =
      ap (λ (l : List (ℕ × Line)). line_behind before x ++ l)
      (lines_longer (before ++ x ∷ []) journal e
      ∙ ap (λ (b : List Event). lines_from X m p (before ++ x ∷ []) journal ++ line_behind b e) (append_assoc before (x ∷ []) journal))
      ∙ sym (append_assoc (line_behind before x) (lines_from X m p (before ++ x ∷ []) journal) (line_behind (before ++ x ∷ journal) e))

  pub lines_push : (journal : List Event) (e : Event) → lines_of X m p (journal ++ e ∷ []) ≡ lines_of X m p journal ++ line_behind journal e
  lines_push journal e = lines_longer [] journal e

lines_in_push : (ls : List AuditLine) (l : AuditLine) → lines_in (ls ++ l ∷ []) ≡ lines_in ls ++ (l.event, line_in l) ∷ []
lines_in_push [] l = refl
lines_in_push (x ∷ ls) l = ap (λ (k : List (ℕ × Line)). (x.event, line_in x) ∷ k) (lines_in_push ls l)

-- the code's line of an event is the one that comes behind
pub lines_in_more : (ls : List AuditLine) (event : ℕ) (line : Option Line) (said : Option AuditLine) → IsLineOf event line said → lines_in (ls ++ option_to_list said) ≡ lines_in ls ++ placed event line
lines_in_more ls event line None is = ap lines_in (append-nil ls) ∙ sym (append-nil (lines_in ls)) ∙ ap (λ (o : Option Line). lines_in ls ++ placed event o) (sym is)
lines_in_more ls event line (Some l) is =
    lines_in_push ls l
    ∙ ap (λ (n : ℕ). lines_in ls ++ (n, line_in l) ∷ []) is.1
    ∙ ap (λ (o : Option Line). lines_in ls ++ placed event o) (sym is.0)

-- the audit lines of a journal with one more event
pub said_more : (X : Extra) (m : Signing) (p : Policy) (journal : List Event) (e : Event) (ls : List AuditLine) (said : Option AuditLine) → lines_in ls ≡ lines_of X m p journal → IsLineOf (length journal + 1) (line_with X m p journal e) said
    → lines_in (ls ++ option_to_list said) ≡ lines_of X m p (journal ++ e ∷ [])
said_more X m p journal e ls said told is =
    lines_in_more ls (length journal + 1) (line_with X m p journal e) said is
    ∙ ap (λ (l : List (ℕ × Line)). l ++ placed (length journal + 1) (line_with X m p journal e)) told
    ∙ sym (lines_push X m p journal e)
