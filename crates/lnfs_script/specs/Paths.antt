-- The paths of a script, and their components.
use Rattle.std.specs.Prelude.{ℕ, ◌||◌, Bool, not, List, ◌∷◌, filter, codes}
use Rattle.std.specs.List.{flat_map}
use Rattle.std.specs.Str.{bytes_eq}
use Rattle.lnfs_words.specs.Words.{is_empty, split, slash}
use Rattle.lnfs_words.specs.Paths.{is_path}

-- `/`, or from 1 to 16 names, each behind a slash
abbrev pub is_root_or_path : List ℕ → Bool
is_root_or_path path = bytes_eq path (codes "/") || is_path path

abbrev pub are_filled : List (List ℕ) → List (List ℕ)
are_filled parts = filter (λ part. not (is_empty part)) parts

-- the names between the slashes of a path; the root has none
abbrev pub components : (path : List ℕ) → List (List ℕ)
components path = are_filled (split slash path)

-- each name behind a slash
abbrev pub joined : (names : List (List ℕ)) → List ℕ
joined names = flat_map (λ name. slash ∷ name) names
