use Rattle.std.proofs.Common.{◌≡◌, ℕ, ◌<◌, ◌≤◌, ◌-◌, true}
use Rattle.lnfs_calipso.specs.Label.{has_comp}
use Rattle.lnfs_format.proofs.runs.last_of_run.Given as goal

abbrev pub invariant-loop-last : goal.invariant-loop-last
invariant-loop-last l = record {
  order : l.first ≤ l.last;
  below : l.last < 1920;
  members : (k : ℕ) → l.first ≤ k → k ≤ l.last → has_comp l.label.comps k ≡ true;
}

abbrev pub decreases-loop-last : goal.decreases-loop-last
decreases-loop-last l = 1920 - l.last
