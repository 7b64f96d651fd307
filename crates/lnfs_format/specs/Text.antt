-- The text of a label: `s`, the sensitivity, and where there are compartments `:` and their runs.
use Rattle.std.specs.Prelude.{ℕ, ◌+◌, ◌==◌, List, [], ◌∷◌, ◌++◌, if◌then◌else◌}
use Rattle.std.specs.Fmt.{decimal}
use Rattle.std.specs.List.{flat_map}
use Rattle.lnfs_calipso.specs.Label.{Label}

-- a run of numbers, from the first to the last
pub record Run : Type 0 where
  pub first : ℕ
  pub last : ℕ

-- the runs of a rising list with one more number in front
abbrev pub join : ℕ → List Run → List Run
join c [] = record { first = c; last = c } ∷ []
join c (run ∷ runs) =
    if run.first == c + 1 then record { first = c; last = run.last } ∷ runs else record { first = c; last = c } ∷ run ∷ runs

-- the maximal runs of a rising list
abbrev pub runs_of : List ℕ → List Run
runs_of [] = []
runs_of (c ∷ comps) = join c (runs_of comps)

-- one compartment as `cA`
abbrev pub comp_text : ℕ → List ℕ
comp_text c = 99 ∷ decimal c

-- what stands between the first and the last
abbrev pub separator : Run → ℕ
separator run = if run.first + 1 == run.last then 44 else 46

-- a run of one as `cA`, of two as `cA,cB`, of three or more as `cA.cB`
unfoldable pub run_text : Run → List ℕ
run_text run =
    if run.first == run.last then comp_text run.first else comp_text run.first ++ separator run ∷ comp_text run.last

-- a run after others
abbrev pub next_text : Run → List ℕ
next_text run = 44 ∷ run_text run

-- runs, joined by commas
abbrev pub runs_text : List Run → List ℕ
runs_text [] = []
runs_text (run ∷ runs) = run_text run ++ flat_map next_text runs

-- compartments as their maximal runs
abbrev pub comps_text : List ℕ → List ℕ
comps_text comps = runs_text (runs_of comps)

abbrev pub marked_text : List ℕ → List ℕ
marked_text [] = []
marked_text (c ∷ comps) = 58 ∷ comps_text (c ∷ comps)

unfoldable pub text_of : Label → List ℕ
text_of label = 115 ∷ decimal label.sens ++ marked_text label.comps
