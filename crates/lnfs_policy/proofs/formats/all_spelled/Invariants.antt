use Rattle.std.proofs.Common.{◌≡◌, drop}
use Rattle.std.specs.Prelude.{is_some}
use Rattle.std.specs.List.{list_all}
use Rattle.lnfs_format.specs.Kinds.{writes}
use Rattle.lnfs_policy.proofs.formats.all_spelled.Given as goal

-- the labels that are left decide
abbrev pub invariant-loop-label : goal.invariant-loop-label
invariant-loop-label g l = list_all (λ label. is_some (writes l.kind label)) l.labels ≡ list_all (λ label. is_some (writes l.kind label)) (drop l.label-index l.labels)
