use Rattle.lnfs_step.proofs.ContextLaws.{there_seen, make_context_view, make_context_footprint, end_context_view, end_context_footprint}
use Rattle.lnfs_step.proofs.context_laws.contexts_are_lawful.Goals as goal

pub returns : goal.returns
returns c = record {
  make_view = λ dom lattice parent. make_context_view dom lattice parent;
  make_footprint = λ dom parent. make_context_footprint dom parent;
  end_view = λ dom number. end_context_view dom number;
  end_footprint = λ dom number. end_context_footprint dom number;
  there = λ dom level s context w above. there_seen dom level s context w above;
}
