-- The runs of some compartments from a number on.
use Rattle.std.specs.Prelude.{◌≡◌, ℕ, ◌+◌, ◌-◌, ◌<◌, ◌≤◌, Bool, true, false, List, [], ◌∷◌, filter, Option, Some, None}
use Rattle.std.specs.List.{range_with_len}
use Rattle.lnfs_calipso.specs.Label.{has_comp}
use Rattle.lnfs_calipso.specs.declared.bitmap.TheConstants.{COMPARTMENTS}
use Rattle.lnfs_format.specs.Text.{Run, runs_of}
use Rattle.lnfs_format.specs.declared.runs.Run.{Run as Found}

-- the n numbers from a on that pass a test
unfoldable pub numbers_from : (ℕ → Bool) → ℕ → ℕ → List ℕ
numbers_from test a n = filter test (range_with_len a n)

unfoldable pub runs_from : List ℕ → ℕ → List Run
runs_from comps from = runs_of (numbers_from (has_comp comps) from (COMPARTMENTS - from))

abbrev pub as_run : Found → Run
as_run run = record { first = run.first; last = run.last }

-- c is the first compartment from a number on
pub record HasOriginFrom (comps : List ℕ) (from c : ℕ) : Type 0 where
  pub least : from ≤ c
  pub below : c < COMPARTMENTS
  pub member : has_comp comps c ≡ true
  pub none : (k : ℕ) → from ≤ k → k < c → has_comp comps k ≡ false

-- the compartments go on from the first to the last, and no further
pub record IsRun (comps : List ℕ) (first last : ℕ) : Type 0 where
  pub order : first ≤ last
  pub below : last < COMPARTMENTS
  pub members : (k : ℕ) → first ≤ k → k ≤ last → has_comp comps k ≡ true
  pub ends : last + 1 < COMPARTMENTS → has_comp comps (last + 1) ≡ false

-- the run that is first from a number on
pub record IsNextRun (comps : List ℕ) (from : ℕ) (run : Found) : Type 0 where
  pub least : from ≤ run.first
  pub order : run.first ≤ run.last
  pub below : run.last < COMPARTMENTS
  pub runs : runs_from comps from ≡ as_run run ∷ runs_from comps (run.last + 1)

abbrev pub HasRun : List ℕ → ℕ → Option Found → Type 0
HasRun comps from None = runs_from comps from ≡ []
HasRun comps from (Some run) = IsNextRun comps from run
