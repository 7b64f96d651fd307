-- What a translation keeps.
use Rattle.std.specs.Prelude.{◌≡◌, ℕ, Bool, List, Option, Some, None, Result, Ok, Err}
use Rattle.lnfs_calipso.specs.Label.{Label, dom_of}
use Rattle.lnfs_format.specs.LevelRead.{level_read}
use Rattle.lnfs_format.specs.declared.formats.FormatEntry.{FormatEntry}
use Rattle.lnfs_format.specs.declared.formats.Pair.{Pair}
use Rattle.lnfs_format.specs.declared.formats.ReadError.{ReadError}

-- the level whose label some bytes spell in the format of a pair
abbrev pub level_by : List FormatEntry → List Label → Pair → List ℕ → Result ℕ ReadError
level_by entries labels pair bytes = level_read entries labels pair.lfs pair.pi bytes

-- both spell the label of one level
pub record IsOneLevel (entries : List FormatEntry) (labels : List Label) (source target : Pair) (bytes text : List ℕ) : Type 0 where
  pub level : ℕ
  pub source_is : level_by entries labels source bytes ≡ Ok level
  pub target_is : level_by entries labels target text ≡ Ok level

-- whether the one level dominates the other, where both are told
abbrev pub dom_told : List Label → Result ℕ ReadError → Result ℕ ReadError → Option Bool
dom_told labels (Ok a) (Ok b) = Some (dom_of labels a b)
dom_told labels (Ok a) (Err error) = None
dom_told labels (Err error) b = None

-- whether some bytes dominate others in the format of a pair
abbrev pub dom_by : List FormatEntry → List Label → Pair → List ℕ → List ℕ → Option Bool
dom_by entries labels pair a b = dom_told labels (level_by entries labels pair a) (level_by entries labels pair b)
