use Rattle.std.proofs.Common.{◌≡◌, ◌<◌, ◌≤◌, ◌+◌, ◌-◌, ◌++◌}
use Rattle.std.specs.List.{flat_map}
use Rattle.lnfs_format.specs.Text.{next_text, comps_text}
use Rattle.lnfs_format.specs.Runs.{runs_from}
use Rattle.lnfs_format.proofs.runs.put_comps.Given as goal

abbrev pub invariant-loop-next : goal.invariant-loop-next
invariant-loop-next l = record {
  order : l.run.first ≤ l.run.last;
  below : l.run.last < 1920;
  text : l.text.items ++ flat_map next_text (runs_from l.label.comps (l.run.last + 1)) ≡ l.fn.text.items ++ comps_text l.label.comps;
}

abbrev pub decreases-loop-next : goal.decreases-loop-next
decreases-loop-next l = 1920 - l.run.last
