use Rattle.std.proofs.Common.{arith}
use Rattle.lnfs_format.proofs.RunLemmas.{none_written, first_written}
use Rattle.lnfs_format.proofs.runs.put_comps.Goals as goal

pub returns-in_default : goal.returns-in_default
returns-in_default c = none_written c.args.label.now.comps c.args.text.now.items c.law_label.ensures.comps c.in_default.ensures

pub loop-next-init : goal.loop-next-init
loop-next-init c = record {
  order = c.in-Some.ensures.order;
  below = c.in-Some.ensures.below;
  text = first_written c.args.label.now.comps c.args.text.now.items c.put_run.new.text.items _ _ c.law_label.ensures.comps c.in-Some.ensures.runs c.in_ok-put_run.ensures;
}

pub loop-next-smaller : goal.loop-next-smaller
loop-next-smaller c = omega (arith, c.in-Some-next_run.ensures.least, c.in-Some-next_run.ensures.order, c.in-Some-next_run.ensures.below)
