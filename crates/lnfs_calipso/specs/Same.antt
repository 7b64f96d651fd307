-- Equality of labels, and where a label stands among the levels.
use Rattle.std.specs.Prelude.{ℕ, ◌==◌, ◌&&◌, Bool, List, Option, position}
use Rattle.std.specs.Str.{bytes_eq}
use Rattle.lnfs_calipso.specs.Label.{Label}

-- two labels are equal where DOI, sensitivity and compartments are
abbrev pub same_label : Label → Label → Bool
same_label a b = a.doi == b.doi && a.sens == b.sens && bytes_eq a.comps b.comps

-- the level of an equal label: the first place at which it stands
abbrev pub level_of : List Label → Label → Option ℕ
level_of labels label = position (λ l. same_label l label) labels
