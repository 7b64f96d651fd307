use Rattle.std.proofs.Common.{◌≡◌, ◌<◌, take, All}
use Rattle.lnfs_calipso.specs.Label.{labelled}
use Rattle.lnfs_calipso.proofs.label.Label.new.Given as goal

abbrev pub invariant-loop-comp : goal.invariant-loop-comp
invariant-loop-comp l = record {
  below : All (λ c. c < 1920) (take l.comp-index l.comps);
  label : l.label ≡ labelled l.doi l.sens (take l.comp-index l.comps);
}
