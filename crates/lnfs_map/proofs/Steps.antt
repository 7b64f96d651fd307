-- A translation reads a level and writes it.
use Rattle.std.proofs.Common.{◌≡◌, ℕ, true, false, List, Option, Some, None, Result, Ok, Err, refl, sym, ap, ◌∙◌, subst}
use Rattle.std.specs.Option.{option_map, is_some, IsSome}
use Rattle.std.proofs.lemmas.Bool.{false≢true}
use Rattle.lnfs_calipso.specs.Label.{Label}
use Rattle.lnfs_format.specs.Entries.{entry_of}
use Rattle.lnfs_format.specs.LevelRead.{level_read, IsRead}
use Rattle.lnfs_format.specs.LevelWritten.{level_written, IsWritten}
use Rattle.lnfs_format.specs.declared.formats.Pair.{Pair}
use Rattle.lnfs_format.specs.declared.formats.FormatEntry.{FormatEntry}
use Rattle.lnfs_format.specs.declared.formats.ReadError.{ReadError}
use Rattle.lnfs_format.specs.declared.formats.ReadError.TheVariants as reading
use Rattle.lnfs_format.specs.declared.formats.WriteError.{WriteError}
use Rattle.lnfs_format.specs.declared.formats.WriteError.TheVariants as writing
use Rattle.lnfs_map.specs.declared.table.MapError.{MapError}
use Rattle.lnfs_map.specs.declared.table.MapError.TheVariants as mapping
use Rattle.lnfs_map.specs.Errors.{of_reading, of_writing}
use Rattle.lnfs_map.specs.Translated.{written, passed_on, into, translated, IsTranslated}

pub still_some : {A B : Type 0} (f : A → B) (r : Option A) (t : Option B) → option_map f r ≡ t → is_some r ≡ true → IsSome t
still_some f None t e h = absurd (false≢true h)
still_some f (Some x) t e h = subst IsSome e refl

pub still_none : {A B : Type 0} (f : A → B) (r : Option A) (t : Option B) → option_map f r ≡ t → is_some r ≡ false → t ≡ None
still_none f None t e h = sym e
still_none f (Some x) t e h = absurd (false≢true (sym h))

pub no_target : (entries : List FormatEntry) (labels : List Label) (source target : Pair) (bytes : List ℕ) → entry_of entries target.lfs target.pi ≡ None → translated entries labels source target bytes ≡ Err mapping.WrongLfs
unfolding translated
no_target entries labels source target bytes e =
    ap (λ (t : Option FormatEntry). into t (passed_on (level_read entries labels source.lfs source.pi bytes) (level_written entries labels target.lfs target.pi))) e

-- with a target, the translation is what was passed on
opened : (target : Option FormatEntry) (given : Result (List ℕ) MapError) → IsSome target → given ≡ into target given
opened None given some = absurd (false≢true some)
opened (Some entry) given some = refl

unread_level : (e : ReadError) (told : Result ℕ ReadError) (write : ℕ → Result (List ℕ) WriteError) → IsRead (Err e) told → IsTranslated (Err (of_reading e)) (passed_on told write)
unread_level reading.WrongLfs told write h = ap (λ (t : Result ℕ ReadError). passed_on t write) h
unread_level reading.BadLabel told write h = ap (λ (t : Result ℕ ReadError). passed_on t write) h
unread_level reading.Memory told write h = tt

pub unread : (e : ReadError) (target : Option FormatEntry) (told : Result ℕ ReadError) (write : ℕ → Result (List ℕ) WriteError) → IsSome target → IsRead (Err e) told → IsTranslated (Err (of_reading e)) (into target (passed_on told write))
unread e target told write some h = subst (IsTranslated (Err (of_reading e))) (opened target (passed_on told write) some) (unread_level e told write h)

unwritten_text : (e : WriteError) (text : Result (List ℕ) WriteError) → IsWritten (Err e) text → IsTranslated (Err (of_writing e)) (written text)
unwritten_text writing.WrongLfs text h = ap written h
unwritten_text writing.NotInFormat text h = ap written h
unwritten_text writing.Memory text h = tt

-- what is passed on of a level that was read
onward : (told : Result ℕ ReadError) (level : ℕ) (write : ℕ → Result (List ℕ) WriteError) (target : Option FormatEntry) → IsSome target → told ≡ Ok level → written (write level) ≡ into target (passed_on told write)
onward told level write target some read = ap (λ (t : Result ℕ ReadError). passed_on t write) (sym read) ∙ opened target (passed_on told write) some

pub unwritten : (e : WriteError) (target : Option FormatEntry) (told : Result ℕ ReadError) (write : ℕ → Result (List ℕ) WriteError) (level : ℕ) → IsSome target → told ≡ Ok level → IsWritten (Err e) (write level) → IsTranslated (Err (of_writing e)) (into target (passed_on told write))
unwritten e target told write level some read h = subst (IsTranslated (Err (of_writing e))) (onward told level write target some read) (unwritten_text e (write level) h)

pub all_done : (target : Option FormatEntry) (told : Result ℕ ReadError) (write : ℕ → Result (List ℕ) WriteError) (level : ℕ) (text : List ℕ) → IsSome target → told ≡ Ok level → write level ≡ Ok text → into target (passed_on told write) ≡ Ok text
all_done target told write level text some read h = sym (onward told level write target some read) ∙ ap written h
