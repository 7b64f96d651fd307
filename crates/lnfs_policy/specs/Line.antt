-- What a line of the policy file says: its kind, its numbers, and the words that are no numbers.
use Rattle.std.specs.Prelude.{ℕ, ◌==◌, ◌&&◌, ◌-◌, ◌^◌, Bool, true, false, not, if◌then◌else◌, nat_le, List, [], ◌∷◌, Option, Some, None, Result, Ok, Err, codes}
use Rattle.std.specs.List.{list_all, list_any}
use Rattle.std.specs.Str.{bytes_eq}
use Rattle.lnfs_words.specs.Words.{one_of, two_of, three_of, four_of}
use Rattle.lnfs_words.specs.Numbers.{number_up_to}
use Rattle.lnfs_policy.specs.declared.mode.Mode.{Mode}
use Rattle.lnfs_policy.specs.declared.mode.Mode.TheVariants.{Enforcing, Limited}
use Rattle.lnfs_policy.specs.declared.cause.Cause.{Cause}
use Rattle.lnfs_policy.specs.declared.cause.Cause.TheVariants as because

pub data Line : Type 0 where
  version_line : (version : ℕ) → Line
  mode_line : Mode → Line
  level_line : (place doi sens : ℕ) (comps : List ℕ) → Line
  format_line : (lfs pi : ℕ) (kind : List ℕ) → Line
  name_line : (lfs pi level : ℕ) (hex : List ℕ) → Line
  parent_line : (number : ℕ) (hex : List ℕ) (level : ℕ) → Line
  guest_line : (class : ℕ) (uid : Option ℕ) (level : ℕ) → Line
  quota_line : (level nodes bytes : ℕ) → Line
  dir_line : (path : List ℕ) (level : ℕ) → Line

-- ---- steps that may be refused

infixl 10 ◌>>=◌
abbrev pub ◌>>=◌ : {A B : Type 0} → Result A Cause → (A → Result B Cause) → Result B Cause
(Ok a) >>= next = next a
(Err cause) >>= next = Err cause

abbrev pub demand : Bool → Cause → Result (Unit {0}) Cause
demand true cause = Ok tt
demand false cause = Err cause

-- ---- the numbers of a line

abbrev pub or_number : Option ℕ → Result ℕ Cause
or_number (Some n) = Ok n
or_number None = Err because.Number

-- of 32 bits
abbrev pub number : List ℕ → Result ℕ Cause
number word = or_number (number_up_to (2 ^ 32 - 1) word)

-- of a quota, at most 2^62
abbrev pub long_number : List ℕ → Result ℕ Cause
long_number word = or_number (number_up_to (2 ^ 62) word)

-- ---- the words of a line: one definition for each kind, of the words behind the first

-- of one word, and likewise of two, three and four
abbrev pub of_one : Option (List ℕ) → (List ℕ → Result Line Cause) → Result Line Cause
of_one (Some a) says = says a
of_one None says = Err because.Words

abbrev pub of_two : Option (List ℕ × List ℕ) → (List ℕ → List ℕ → Result Line Cause) → Result Line Cause
of_two (Some p) says = says p.0 p.1
of_two None says = Err because.Words

abbrev pub of_three : Option (List ℕ × List ℕ × List ℕ) → (List ℕ → List ℕ → List ℕ → Result Line Cause) → Result Line Cause
of_three (Some p) says = says p.0 p.1 p.2
of_three None says = Err because.Words

abbrev pub of_four : Option (List ℕ × List ℕ × List ℕ × List ℕ) → (List ℕ → List ℕ → List ℕ → List ℕ → Result Line Cause) → Result Line Cause
of_four (Some p) says = says p.0 p.1 p.2 p.3
of_four None says = Err because.Words

abbrev pub says_version : List (List ℕ) → Result Line Cause
says_version words = of_one (one_of words) (λ version.
    if bytes_eq version (codes "1") then Ok (version_line 1)
    else (if bytes_eq version (codes "2") then Ok (version_line 2) else Err because.Words))

abbrev pub says_mode : List (List ℕ) → Result Line Cause
says_mode words = of_one (one_of words) (λ mode.
    if bytes_eq mode (codes "enforcing") then Ok (mode_line Enforcing)
    else (if bytes_eq mode (codes "limited") then Ok (mode_line Limited) else Err because.Words))

abbrev pub says_level : List (List ℕ) → Result Line Cause
says_level words = of_four (four_of words) (λ place doi sens comps. do
  place ← number place
  doi ← number doi
  sens ← number sens
  Ok (level_line place doi sens comps))

abbrev pub says_format : List (List ℕ) → Result Line Cause
says_format words = of_three (three_of words) (λ lfs pi kind. do
  lfs ← number lfs
  pi ← number pi
  Ok (format_line lfs pi kind))

abbrev pub says_name : List (List ℕ) → Result Line Cause
says_name words = of_four (four_of words) (λ lfs pi level hex. do
  lfs ← number lfs
  pi ← number pi
  level ← number level
  Ok (name_line lfs pi level hex))

abbrev pub says_parent : List (List ℕ) → Result Line Cause
says_parent words = of_three (three_of words) (λ place hex level. do
  place ← number place
  level ← number level
  Ok (parent_line place hex level))

-- `*` is any user id, and none
abbrev pub uid_of : List ℕ → Result (Option ℕ) Cause
uid_of word = if bytes_eq word (codes "*") then Ok None else (number word >>= (λ uid. Ok (Some uid)))

abbrev pub says_guest : List (List ℕ) → Result Line Cause
says_guest words = of_three (three_of words) (λ class uid level. do
  class ← number class
  uid ← uid_of uid
  level ← number level
  Ok (guest_line class uid level))

abbrev pub says_quota : List (List ℕ) → Result Line Cause
says_quota words = of_three (three_of words) (λ level nodes bytes. do
  level ← number level
  nodes ← long_number nodes
  bytes ← long_number bytes
  Ok (quota_line level nodes bytes))

abbrev pub says_dir : List (List ℕ) → Result Line Cause
says_dir words = of_two (two_of words) (λ path level. do
  level ← number level
  Ok (dir_line path level))

unfoldable pub line_of : List (List ℕ) → Result Line Cause
line_of [] = Err because.Words
line_of (name ∷ others) =
    if bytes_eq name (codes "lnfs-policy") then says_version others
    else (if bytes_eq name (codes "mode") then says_mode others
    else (if bytes_eq name (codes "level") then says_level others
    else (if bytes_eq name (codes "format") then says_format others
    else (if bytes_eq name (codes "name") then says_name others
    else (if bytes_eq name (codes "parent") then says_parent others
    else (if bytes_eq name (codes "guest") then says_guest others
    else (if bytes_eq name (codes "quota") then says_quota others
    else (if bytes_eq name (codes "dir") then says_dir others
    else Err because.Words))))))))

-- ---- the order of the kinds

abbrev pub rank : Line → ℕ
rank (version_line version) = 0
rank (mode_line mode) = 1
rank (level_line place doi sens comps) = 2
rank (format_line lfs pi kind) = 3
rank (name_line lfs pi level hex) = 4
rank (parent_line number hex level) = 5
rank (guest_line class uid level) = 6
rank (quota_line level nodes bytes) = 7
rank (dir_line path level) = 8

abbrev pub is_mode : Line → Bool
is_mode line = rank line == 1

-- no line of a later kind stands before it, and a mode stands once
abbrev pub in_order : List Line → Line → Bool
in_order before line =
    list_all (λ earlier. nat_le (rank earlier) (rank line)) before && not (is_mode line && list_any is_mode before)

-- the cause where a line's own rules don't hold
abbrev pub cause_of : Line → Cause
cause_of (version_line version) = because.Version
cause_of (mode_line mode) = because.Words
cause_of (level_line place doi sens comps) = because.Level
cause_of (format_line lfs pi kind) = because.Format
cause_of (name_line lfs pi level hex) = because.Name
cause_of (parent_line number hex level) = because.Parent
cause_of (guest_line class uid level) = because.Guest
cause_of (quota_line level nodes bytes) = because.Quota
cause_of (dir_line path level) = because.Dir
