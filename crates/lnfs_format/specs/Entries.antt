-- The formats of a site.
use Rattle.std.specs.Prelude.{ℕ, ◌==◌, ◌&&◌, Bool, List, Option}
use Rattle.std.specs.List.{find}
use Rattle.lnfs_format.specs.declared.formats.Pair.{Pair}
use Rattle.lnfs_format.specs.declared.formats.FormatEntry.{FormatEntry}

-- a pair of this number and this policy identifier
abbrev pub is_pair : (lfs pi : ℕ) → Pair → Bool
is_pair lfs pi pair = pair.lfs == lfs && pair.pi == pi

-- under which a format stands
abbrev pub pair_of : FormatEntry → Pair
pair_of entry = record { lfs = entry.lfs; pi = entry.pi }

-- the format of a number and a policy identifier
abbrev pub entry_of : List FormatEntry → (lfs pi : ℕ) → Option FormatEntry
entry_of entries lfs pi = find (λ entry. is_pair lfs pi (pair_of entry)) entries
