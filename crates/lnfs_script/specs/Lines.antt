-- The lines of a script.
use Rattle.std.specs.Prelude.{ℕ, if◌then◌else◌, List, [], ◌∷◌, Option, Some, None}
use Rattle.lnfs_words.specs.Words.{is_empty, split, newline}

-- Each line ends with a newline, so nothing stands behind the last one. Bytes that stand there are counted as a line, and are none.
abbrev pub lines_in : (parts : List (List ℕ)) → List (Option (List ℕ))
lines_in [] = []
lines_in (part ∷ []) = if is_empty part then [] else None ∷ []
lines_in (part ∷ next ∷ more) = Some part ∷ lines_in (next ∷ more)

abbrev pub lines_of : (text : List ℕ) → List (Option (List ℕ))
lines_of text = lines_in (split newline text)
