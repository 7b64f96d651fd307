use Rattle.std.proofs.Common.{ap, ◌∙◌, arith}
use Rattle.lnfs_calipso.specs.Label.{Label, with_comp}
use Rattle.lnfs_format.proofs.RangeLemmas.{range_none, range_more, range_all}
use Rattle.lnfs_format.proofs.reading.insert_range.Goals as goal

pub loop-comp-init : goal.loop-comp-init
loop-comp-init c = record { most = omega arith; label = range_none c.args.label.now c.law_label.ensures c.args.low }

pub returns : goal.returns
returns c = c.loop-comp.invariant.label ∙ range_all c.args.label.now c.args.low c.args.high c.loop-comp.comp (omega arith) c.loop-comp.invariant.most

pub loop-comp-preserved : goal.loop-comp-preserved
loop-comp-preserved c = record {
  most = omega arith;
  label = c.in_ok-insert.ensures.ok ∙ ap (λ (l : Label). with_comp l c.loop-comp.comp) c.loop-comp.invariant.label ∙ range_more c.args.label.now c.args.low c.loop-comp.comp (omega arith);
}
