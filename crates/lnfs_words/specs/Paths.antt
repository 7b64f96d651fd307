-- Paths: names, each behind a slash.
use Rattle.std.specs.Prelude.{ℕ, ◌==◌, ◌&&◌, Bool, false, not, if◌then◌else◌, nat_lt, nat_le, List, [], ◌∷◌, length, codes}
use Rattle.std.specs.List.{list_all, list_any}
use Rattle.std.specs.Str.{bytes_eq}
use Rattle.lnfs_words.specs.Words.{is_empty, split, slash}
use Rattle.lnfs_words.specs.declared.paths.TheConstants.{MAX_COMPONENTS, MAX_NAME}

-- printable ASCII without space and slash
abbrev pub is_name_byte : ℕ → Bool
is_name_byte b = nat_lt 32 b && nat_lt b 127 && not (b == slash)

-- a name: from 1 to 255 such bytes, and neither `.` nor `..`
abbrev pub is_component : List ℕ → Bool
is_component name =
    nat_le 1 (length name) && nat_le (length name) MAX_NAME && list_all is_name_byte name
    && not (bytes_eq name (codes ".")) && not (bytes_eq name (codes ".."))

abbrev pub are_components : List (List ℕ) → Bool
are_components [] = false
are_components (front ∷ names) =
    is_empty front && nat_le 1 (length names) && nat_le (length names) MAX_COMPONENTS && list_all is_component names

-- from 1 to 16 names, each behind a slash
unfoldable pub is_path : List ℕ → Bool
is_path path = are_components (split slash path)

-- the bytes before the last separator; none where there is no separator
unfoldable pub before_last : ℕ → List ℕ → List ℕ
before_last separator [] = []
before_last separator (b ∷ text) = if list_any (λ c. c == separator) text then b ∷ before_last separator text else []

-- the path of the directory that holds that of a path; the root's has no bytes
abbrev pub parent_of : List ℕ → List ℕ
parent_of = before_last slash
