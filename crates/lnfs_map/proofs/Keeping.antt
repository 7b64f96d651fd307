-- A translation keeps the level.
use Rattle.std.proofs.Common.{◌≡◌, ℕ, ◌<◌, List, length, Option, Some, None, Result, Ok, Err, refl, sym, ap, ◌∙◌}
use Rattle.std.specs.Prelude.{All}
use Rattle.std.specs.List.{slice_index_or}
use Rattle.std.proofs.lemmas.List.Quantifiers.{position-Some}
use Rattle.lnfs_calipso.specs.Label.{Label, IsLabel, label_at, lowest}
use Rattle.lnfs_calipso.specs.Same.{same_label, level_of}
use Rattle.lnfs_calipso.specs.Equality.{same_label-true}
use Rattle.lnfs_format.specs.Kinds.{reads, writes}
use Rattle.lnfs_format.specs.Laws.{IsFormat, ReadBack}
use Rattle.lnfs_format.specs.Entries.{entry_of}
use Rattle.lnfs_format.specs.Site.{IsSite}
use Rattle.lnfs_format.specs.LevelRead.{or_bad, level_in, read_in, level_read}
use Rattle.lnfs_format.specs.LevelWritten.{or_none, written_in, level_written}
use Rattle.lnfs_format.specs.declared.kind.Kind.{Kind}
use Rattle.lnfs_format.specs.declared.formats.FormatEntry.{FormatEntry}
use Rattle.lnfs_format.specs.declared.formats.Pair.{Pair}
use Rattle.lnfs_format.specs.declared.formats.ReadError.{ReadError}
use Rattle.lnfs_format.specs.declared.formats.WriteError.{WriteError}
use Rattle.lnfs_map.specs.Translated.{written, passed_on, into, translated}
use Rattle.lnfs_map.specs.Kept.{level_by, IsOneLevel, dom_told, dom_by}

-- the level of a label is that of the label at its place
abbrev IsHeld : List Label → ℕ → Type 0
IsHeld labels level = (level < length labels) × (level_of labels (label_at labels level) ≡ Some level)

level_held : (labels : List Label) (label : Label) (level : ℕ) → level_of labels label ≡ Some level → IsHeld labels level
level_held labels label level h =
    let first = position-Some (λ l. same_label l label) labels level (slice_index_or labels 0 lowest) h in
    (first.0, ap (level_of labels) (same_label-true (label_at labels level) label first.1) ∙ h)

place_held : (labels : List Label) (label : Label) (place : Option ℕ) (level : ℕ) → level_of labels label ≡ place → or_bad place ≡ Ok level → IsHeld labels level
place_held labels label None level e h = cc
place_held labels label (Some place) level e h = let same : place ≡ level = cc in level_held labels label level (e ∙ ap Some same)

label_held : (labels : List Label) (label : Option Label) (level : ℕ) → level_in labels label ≡ Ok level → IsHeld labels level
label_held labels None level h = cc
label_held labels (Some label) level h = place_held labels label (level_of labels label) level refl h

read_held : (entry : Option FormatEntry) (labels : List Label) (bytes : List ℕ) (level : ℕ) → read_in entry labels bytes ≡ Ok level → IsHeld labels level
read_held None labels bytes level h = cc
read_held (Some entry) labels bytes level h = label_held labels (reads entry.kind bytes) level h

text_of : (o : Option (List ℕ)) (text : List ℕ) → or_none o ≡ Ok text → o ≡ Some text
text_of None text h = cc
text_of (Some other) text h = let same : other ≡ text = cc in ap Some same

-- a level's label that was written is read as that level
read_again : ReadBack → (labels : List Label) → All IsLabel labels → (entry : Option FormatEntry) → ((e : FormatEntry) → entry ≡ Some e → IsFormat e.kind)
    → (level : ℕ) (text : List ℕ) → IsHeld labels level → written_in entry (label_at labels level) ≡ Ok text → read_in entry labels text ≡ Ok level
read_again back labels are None is level text held h = cc
read_again back labels are (Some entry) is level text held h =
    ap (level_in labels) (back entry.kind (is entry refl) (label_at labels level) (are level (slice_index_or labels 0 lowest) held.0) text (text_of (writes entry.kind (label_at labels level)) text h))
    ∙ ap or_bad held.1

-- a translation passes on a level
record PassesOn (told : Result ℕ ReadError) (write : ℕ → Result (List ℕ) WriteError) (text : List ℕ) : Type 0 where
  level : ℕ
  read : told ≡ Ok level
  wrote : write level ≡ Ok text

text_is : (given : Result (List ℕ) WriteError) (text : List ℕ) → written given ≡ Ok text → given ≡ Ok text
text_is (Ok bytes) text h = let same : bytes ≡ text = cc in ap Ok same
text_is (Err error) text h = cc

passes_on : (target : Option FormatEntry) (told : Result ℕ ReadError) (write : ℕ → Result (List ℕ) WriteError) (text : List ℕ) → into target (passed_on told write) ≡ Ok text → PassesOn told write text
passes_on None told write text h = cc
passes_on (Some entry) (Err error) write text h = cc
passes_on (Some entry) (Ok level) write text h = record { level = level; read = refl; wrote = text_is (write level) text h }

pub keeps_level : ReadBack → (entries : List FormatEntry) (labels : List Label) → IsSite entries labels → (source target : Pair) (bytes text : List ℕ) → translated entries labels source target bytes ≡ Ok text → IsOneLevel entries labels source target bytes text
unfolding translated level_read level_written
keeps_level back entries labels site source target bytes text h =
    let on = passes_on (entry_of entries target.lfs target.pi) (level_read entries labels source.lfs source.pi bytes) (level_written entries labels target.lfs target.pi) text h in
    let held = read_held (entry_of entries source.lfs source.pi) labels bytes on.level on.read in
    record {
      level = on.level;
      source_is = on.read;
      target_is = read_again back labels site.labels_are (entry_of entries target.lfs target.pi) (site.formats_are target.lfs target.pi) on.level text held on.wrote;
    }

pub keeps_dominance : ReadBack → (entries : List FormatEntry) (labels : List Label) → IsSite entries labels → (source target : Pair) (a b text_a text_b : List ℕ) → translated entries labels source target a ≡ Ok text_a → translated entries labels source target b ≡ Ok text_b → dom_by entries labels target text_a text_b ≡ dom_by entries labels source a b
keeps_dominance back entries labels site source target a b text_a text_b h k =
    let p = keeps_level back entries labels site source target a text_a h in
    let q = keeps_level back entries labels site source target b text_b k in
    ap (λ (o : Result ℕ ReadError). dom_told labels o (level_by entries labels target text_b)) (p.target_is ∙ sym p.source_is)
    ∙ ap (λ (o : Result ℕ ReadError). dom_told labels (level_by entries labels source a) o) (q.target_is ∙ sym q.source_is)
