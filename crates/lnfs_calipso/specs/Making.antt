-- What is answered to the parts of a label.
use Rattle.std.specs.Prelude.{◌≡◌, ℕ, ◌<◌, ◌≤◌, List, All, Any, Result, Ok, Err}
use Rattle.lnfs_calipso.specs.Label.{Label, labelled}
use Rattle.lnfs_calipso.specs.declared.bitmap.TheConstants.{COMPARTMENTS}
use Rattle.lnfs_calipso.specs.declared.label.LabelError.{LabelError}
use Rattle.lnfs_calipso.specs.declared.label.LabelError.TheVariants.{BadCompartment, Memory}

-- the label of these parts, or a compartment is no number of one
abbrev pub IsMade : (doi sens : ℕ) → List ℕ → Result Label LabelError → Type 0
IsMade doi sens comps (Ok label) = (label ≡ labelled doi sens comps) × All (λ c. c < COMPARTMENTS) comps
IsMade doi sens comps (Err BadCompartment) = Any (λ c. COMPARTMENTS ≤ c) comps
IsMade doi sens comps (Err Memory) = Unit {0}
