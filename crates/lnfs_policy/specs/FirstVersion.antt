-- What version 1 has of labels.
use Rattle.std.specs.Prelude.{◌≡◌, true, nat_lt}
use Rattle.std.specs.List.{list_all}
use Rattle.lnfs_calipso.specs.Label.{Label}

-- a label of version 1 has no compartment above 255
abbrev pub IsOfFirst : Label → Type 0
IsOfFirst label = list_all (λ c. nat_lt c 256) label.comps ≡ true
