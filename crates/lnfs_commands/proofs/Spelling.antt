-- Translations, by their answers.
use Rattle.std.proofs.Common.{◌≡◌, ℕ, List, [], ◌∷◌, ◌++◌}
use Rattle.std.specs.Prelude.{Result, Ok, Err}
use Rattle.std.specs.declared.option.Option.{Option}
use Rattle.std.specs.declared.option.Option.TheVariants.{Some, None}
use Rattle.hex.specs.Hex.{encode_lower}
use Rattle.lnfs_calipso.specs.Label.{Label, label_at}
use Rattle.lnfs_calipso.specs.Same.{level_of}
use Rattle.lnfs_format.specs.Kinds.{reads, writes}
use Rattle.lnfs_format.specs.LevelRead.{or_bad, level_in, read_in, level_read}
use Rattle.lnfs_format.specs.LevelWritten.{or_none, written_in, level_written}
use Rattle.lnfs_format.specs.Entries.{entry_of}
use Rattle.lnfs_format.specs.declared.formats.FormatEntry.{FormatEntry}
use Rattle.lnfs_format.specs.declared.formats.Pair.{Pair}
use Rattle.lnfs_map.specs.declared.table.MapError.{MapError}
use Rattle.lnfs_map.specs.declared.table.MapError.TheVariants as error
use Rattle.lnfs_format.specs.declared.formats.WriteError.{WriteError}
use Rattle.lnfs_map.specs.Translated.{IsTranslated, written, passed_on, into, translated}
use Rattle.lnfs_stage.specs.declared.stop.Stop.{Stop}
use Rattle.lnfs_stage.specs.Seen.{Seen}
use Rattle.lnfs_stage.specs.Does.{Does}
use Rattle.lnfs_stage.proofs.Doing.{does_end, does_short}
use Rattle.lnfs_commands.specs.Commands.{shown, spelled, stop_of}

module _ {result : Result (Unit {0}) Stop} {s : Seen} (told : Result (List ℕ) MapError) where
  pub does_spelled : {t : Seen} (text : List ℕ) → told ≡ Ok text → Does result s t (shown (encode_lower text ++ 10 ∷ [])) → Does result s t (spelled told)
  does_spelled text e p = rw e p

  pub does_untranslated : (cause : MapError) → IsTranslated (Err cause) told → result ≡ Err (stop_of cause) → Does result s s (spelled told)
  does_untranslated error.WrongLfs e is = rw e (does_end _ s is)
  does_untranslated error.BadLabel e is = rw e (does_end _ s is)
  does_untranslated error.NoRow e is = rw e (does_end _ s is)
  does_untranslated error.Memory e is = does_short s (spelled told) is

-- ---- a translation isn't short of memory

abbrev Short : Result (List ℕ) MapError → Type 0
Short answer = answer ≡ Err error.Memory

short_ok : (bytes : List ℕ) → Short (Ok bytes) → ⊥
short_ok bytes e = cc

short_lfs : Short (Err error.WrongLfs) → ⊥
short_lfs e = cc

short_label : Short (Err error.BadLabel) → ⊥
short_label e = cc

short_row : Short (Err error.NoRow) → ⊥
short_row e = cc

wrote_as : (o : Option (List ℕ)) → Short (written (or_none o)) → ⊥
wrote_as None e = short_row e
wrote_as (Some bytes) e = short_ok bytes e

wrote : (entry : Option FormatEntry) (label : Label) → Short (written (written_in entry label)) → ⊥
wrote None label e = short_lfs e
wrote (Some entry) label e = wrote_as (writes entry.kind label) e

module _ (write : ℕ → Result (List ℕ) WriteError) (never : (level : ℕ) → Short (written (write level)) → ⊥) where
  read_level : (o : Option ℕ) → Short (passed_on (or_bad o) write) → ⊥
  read_level None e = short_label e
  read_level (Some level) e = never level e

  read_label : (labels : List Label) (o : Option Label) → Short (passed_on (level_in labels o) write) → ⊥
  read_label labels None e = short_label e
  read_label labels (Some label) e = read_level (level_of labels label) e

  read_bytes : (labels : List Label) (bytes : List ℕ) (entry : Option FormatEntry) → Short (passed_on (read_in entry labels bytes) write) → ⊥
  read_bytes labels bytes None e = short_lfs e
  read_bytes labels bytes (Some entry) e = read_label labels (reads entry.kind bytes) e

came_into : (target : Option FormatEntry) (answer : Result (List ℕ) MapError) → (Short answer → ⊥) → Short (into target answer) → ⊥
came_into None answer never e = short_lfs e
came_into (Some entry) answer never e = never e

pub never_short : (formats : List FormatEntry) (labels : List Label) (source target : Pair) (bytes : List ℕ) → translated formats labels source target bytes ≡ Err error.Memory → ⊥
unfolding translated level_read level_written
never_short formats labels source target bytes e =
    came_into (entry_of formats target.lfs target.pi) _
    (read_bytes (level_written formats labels target.lfs target.pi) (λ level. wrote (entry_of formats target.lfs target.pi) (label_at labels level)) labels bytes (entry_of formats source.lfs source.pi)) e
