-- What a format reads and what it writes are inverse to each other.
use Rattle.std.proofs.Common.{◌≡◌, ℕ, ◌<◌, true, false, cond, List, [], ◌∷◌, Some, None, sym, ap, ◌∙◌, subst, inl, inr}
use Rattle.std.specs.Prelude.{slice_index}
use Rattle.std.specs.Str.{bytes_eq}
use Rattle.std.proofs.lemmas.Bool.{cases_Bool, cond-true, cond-false, false_from_ne_true}
use Rattle.std.proofs.lemmas.Slice.Eq.{bytes_eq-Decides}
use Rattle.lnfs_calipso.specs.Label.{Label, IsLabel}
use Rattle.lnfs_calipso.specs.Same.{same_label}
use Rattle.lnfs_calipso.specs.Equality.{same_label-refl, same_label-true}
use Rattle.lnfs_calipso.specs.Body.{body_of, label_of_body}
use Rattle.lnfs_format.specs.Kinds.{reads_name, writes_name, reads, writes}
use Rattle.lnfs_format.specs.Laws.{IsTable, IsFormat}
use Rattle.lnfs_format.specs.declared.kind.NameRow.{NameRow}
use Rattle.lnfs_format.specs.declared.kind.Kind.{Kind}
use Rattle.lnfs_format.specs.declared.kind.Kind.TheVariants.{Calipso, Text, Name, Long}
use Rattle.lnfs_format.proofs.CompLaws.{none_bytes, some_bytes, text_back, text_again, none_some as none_label, some_some as some_label}
use Rattle.lnfs_format.proofs.LongLaws.{long_back, long_again}

same_label-is : (a b : Label) → a ≡ b → same_label a b ≡ true
same_label-is a b e = subst (λ (x : Label). same_label a x ≡ true) e (same_label-refl a)

-- names: the first row with some bytes is the first row with its label, where all rows differ
pub name_back : (rows : List NameRow) → IsTable rows → (bytes : List ℕ) (label : Label) → reads_name rows bytes ≡ Some label → writes_name rows label ≡ Some bytes
name_back [] table bytes label e = absurd (none_label label e)
name_back (row ∷ rows) table bytes label e =
    elim (cases_Bool (bytes_eq row.bytes bytes)) [
      | inl here ↦
          (let same = some_label row.label label (sym (cond-true (bytes_eq row.bytes bytes) (Some row.label) (reads_name rows bytes) here) ∙ e) in
          cond-true (same_label row.label label) (Some row.bytes) (writes_name rows label) (same_label-is row.label label same)
          ∙ ap Some ((bytes_eq-Decides row.bytes bytes).0 here))
      | inr there ↦
          (let rest = name_back rows table.2 bytes label (sym (cond-false (bytes_eq row.bytes bytes) (Some row.label) (reads_name rows bytes) there) ∙ e) in
          cond-false (same_label row.label label) (Some row.bytes) (writes_name rows label)
          (false_from_ne_true (same_label row.label label) (λ h. none_bytes bytes (sym table.0 ∙ ap (writes_name rows) (same_label-true row.label label h) ∙ rest)))
          ∙ rest)
    ]

pub name_again : (rows : List NameRow) → IsTable rows → (label : Label) (bytes : List ℕ) → writes_name rows label ≡ Some bytes → reads_name rows bytes ≡ Some label
name_again [] table label bytes e = absurd (none_bytes bytes e)
name_again (row ∷ rows) table label bytes e =
    elim (cases_Bool (same_label row.label label)) [
      | inl here ↦
          (let same = some_bytes row.bytes bytes (sym (cond-true (same_label row.label label) (Some row.bytes) (writes_name rows label) here) ∙ e) in
          cond-true (bytes_eq row.bytes bytes) (Some row.label) (reads_name rows bytes) ((bytes_eq-Decides row.bytes bytes).1 same)
          ∙ ap Some (same_label-true row.label label here))
      | inr there ↦
          (let rest = name_again rows table.2 label bytes (sym (cond-false (same_label row.label label) (Some row.bytes) (writes_name rows label) there) ∙ e) in
          cond-false (bytes_eq row.bytes bytes) (Some row.label) (reads_name rows bytes)
          (false_from_ne_true (bytes_eq row.bytes bytes) (λ h. none_label label (sym table.1 ∙ ap (reads_name rows) ((bytes_eq-Decides row.bytes bytes).0 h) ∙ rest)))
          ∙ rest)
    ]

-- what the bodies of labels keep
abbrev pub BodyBack : Type 0
BodyBack = (bytes : List ℕ) → ((k : ℕ) → slice_index bytes k < 256) → (label : Label) → label_of_body bytes ≡ Some label → body_of label ≡ bytes

abbrev pub BodyAgain : Type 0
BodyAgain = (label : Label) → IsLabel label → label_of_body (body_of label) ≡ Some label

-- the two laws of a kind
pub written_back : BodyBack → (kind : Kind) → IsFormat kind → (bytes : List ℕ) → ((k : ℕ) → slice_index bytes k < 256) → (label : Label) → reads kind bytes ≡ Some label → writes kind label ≡ Some bytes
unfolding reads writes
written_back back Calipso is bytes fit label e = ap Some (back bytes fit label e)
written_back back (Text doi) is bytes fit label e = text_back doi bytes is label e
written_back back (Name rows) is bytes fit label e = name_back rows is bytes label e
written_back back Long is bytes fit label e = long_back bytes label e

pub read_back : BodyAgain → (kind : Kind) → IsFormat kind → (label : Label) → IsLabel label → (bytes : List ℕ) → writes kind label ≡ Some bytes → reads kind bytes ≡ Some label
unfolding reads writes
read_back again Calipso is label valid bytes e = ap label_of_body (sym (some_bytes (body_of label) bytes e)) ∙ again label valid
read_back again (Text doi) is label valid bytes e = text_again doi label valid bytes e
read_back again (Name rows) is label valid bytes e = name_again rows is label bytes e
read_back again Long is label valid bytes e = long_again label valid bytes e
