-- The text of a policy. It spells a policy where each of its lines keeps the rules after the lines before it, and
-- none is missing. Any other text is refused with the first line that breaks a rule, and the first rule that it
-- breaks.
use Rattle.std.specs.Prelude.{◌≡◌, ◌==◌, ◌&&◌, ◌||◌, ◌+◌, ℕ, Bool, true, false, not, if◌then◌else◌, List, [], ◌∷◌, ◌++◌, Option, Some, None, is_some, filter, slice_get, Result, Ok, Err, codes}
use Rattle.std.specs.List.{list_any, list_all, flat_map}
use Rattle.lnfs_calipso.specs.Label.{Label}
use Rattle.lnfs_format.specs.Kinds.{writes}
use Rattle.lnfs_format.specs.declared.formats.FormatEntry.{FormatEntry}
use Rattle.std.specs.Str.{bytes_eq}
use Rattle.lnfs_words.specs.Words.{is_empty, split, newline, words, is_ascii, is_worded}
use Rattle.lnfs_policy.specs.Line.{◌>>=◌, demand, Line, line_of, in_order, is_mode, cause_of}
use Rattle.lnfs_policy.specs.Rows.{labels_of, formats_of}
use Rattle.lnfs_policy.specs.Fits.{fits}
use Rattle.lnfs_policy.specs.Policy.{Policy, policy_in}
use Rattle.lnfs_policy.specs.declared.cause.Cause.{Cause}
use Rattle.lnfs_policy.specs.declared.cause.Cause.TheVariants as because
use Rattle.lnfs_policy.specs.declared.cause.PolicyError.{PolicyError}
use Rattle.lnfs_policy.specs.declared.cause.PolicyError.TheVariants as error

-- a version line
abbrev pub is_version : List ℕ → Bool
is_version text = bytes_eq text (codes "lnfs-policy 1") || bytes_eq text (codes "lnfs-policy 2")

-- the first line is a version line, and no other is
abbrev pub version_in_place : (first : Bool) → List ℕ → Bool
version_in_place true text = is_version text
version_in_place false text = not (is_version text)

-- what a line says after those before it, or the first rule that it breaks
abbrev pub said_after : List Line → (ended : Bool) → List ℕ → Result Line Cause
said_after before ended text = do
  _ ← demand (version_in_place (is_empty before) text) because.Version
  _ ← demand (ended && is_worded text) because.Words
  line ← line_of (words text)
  _ ← demand (in_order before line) because.Order
  _ ← demand (fits before line) (cause_of line)
  Ok line

-- `#`
abbrev pub number_sign : ℕ
number_sign = 35

-- an empty line, and one that begins with `#`
abbrev pub is_skipped : List ℕ → Bool
is_skipped [] = true
is_skipped (b ∷ text) = b == number_sign

-- the lines after one more line of the text
abbrev pub lines_after : List Line → (ended : Bool) → List ℕ → Result (List Line) Cause
lines_after before ended text =
    if is_skipped text then (demand (ended && is_ascii text) because.Words >>= (λ _. Ok before))
    else (said_after before ended text >>= (λ line. Ok (before ++ line ∷ [])))

-- each label has a spelling in the first format
abbrev pub spells_each : Option FormatEntry → List Label → Bool
spells_each None labels = false
spells_each (Some entry) labels = list_all (λ label. is_some (writes entry.kind label)) labels

abbrev pub spells_all : List FormatEntry → List Label → Bool
spells_all entries labels = spells_each (slice_get entries 0) labels

-- behind the last line: a mode, a level and a format are there, and the first format spells each level
abbrev pub is_complete : List Line → Bool
is_complete lines =
    not (is_empty lines) && list_any is_mode lines && not (is_empty (labels_of lines)) && spells_all (formats_of lines) (labels_of lines)

pub record Refused : Type 0 where
  pub line : ℕ
  pub cause : Cause

abbrev pub told_at : {A B : Type 0} → (line : ℕ) → Result A Cause → (A → Result B Refused) → Result B Refused
told_at line (Ok a) next = next a
told_at line (Err cause) next = Err (record { line = line; cause = cause })

-- Each line ends with a newline, so behind the last newline stands nothing.
abbrev pub is_end : List ℕ → List (List ℕ) → Bool
is_end text others = is_empty text && is_empty others

unfoldable pub lines_from : (number : ℕ) → List Line → List (List ℕ) → Result (List Line) Refused
lines_from number before [] = told_at number (demand (is_complete before) because.Missing) (λ _. Ok before)
lines_from number before (text ∷ others) =
    if is_end text others then told_at number (demand (is_complete before) because.Missing) (λ _. Ok before)
    else told_at number (lines_after before (not (is_empty others)) text) (λ lines. lines_from (number + 1) lines others)

-- the lines as they stand, without the skipped ones
abbrev pub kept : List (List ℕ) → List ℕ
kept lines = flat_map (λ text. text ++ newline ∷ []) (filter (λ text. not (is_skipped text)) lines)

abbrev pub canonical : List ℕ → List ℕ
canonical text = kept (split newline text)

abbrev pub policy_from : List ℕ → Result (List Line) Refused → Result Policy Refused
policy_from text (Ok lines) = Ok (policy_in text lines)
policy_from text (Err refused) = Err refused

-- The policy that a text spells.
unfoldable pub policy_of : List ℕ → Result Policy Refused
policy_of text = policy_from (canonical text) (lines_from 1 [] (split newline text))

-- A policy is what its own text spells.
abbrev pub IsPolicy : Policy → Type 0
IsPolicy p = policy_of p.text ≡ Ok p

-- an error that isn't want of memory is that of the text
abbrev pub IsRefusal : Result Policy Refused → PolicyError → Type 0
IsRefusal spelled (error.Refused line cause) = spelled ≡ Err (record { line = line; cause = cause })
IsRefusal spelled error.Memory = Unit {0}
