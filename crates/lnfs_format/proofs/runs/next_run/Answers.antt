use Rattle.std.proofs.Common.{◌∙◌, arith}
use Rattle.lnfs_format.proofs.RunLemmas.{skip_to, run_from, no_runs}
use Rattle.lnfs_format.proofs.runs.next_run.Goals as goal

pub returns : goal.returns
returns c =
    let first = c.in_ok-first.ensures in
    let run = c.last_of_run-last.ensures in
    record {
      least = first.least;
      order = run.order;
      below = run.below;
      runs =
          skip_to c.args.label.now.comps c.args.from c.in_ok-first.first first.least (omega (arith, first.below)) first.none
          ∙ run_from c.args.label.now.comps c.in_ok-first.first c.last_of_run-last.result run.order run.below run.members run.ends;
    }

pub returns-in_err-first : goal.returns-in_err-first
returns-in_err-first c = rw c.from_residual.ensures (no_runs c.args.label.now.comps c.args.from c.requires c.in_err-first.ensures)
