use Rattle.std.proofs.Common.{map}
use Rattle.std.specs.List.{AllByRecursion}
use Rattle.lnfs_tree.specs.Flat.{row_of}
use Rattle.lnfs_tree.specs.Makes.{IsStorable}
use Rattle.lnfs_tree.proofs.ToldRows.{held_at}
use Rattle.lnfs_tree.proofs.laws.law_slots.Given as goal

-- those at the keys so far
abbrev pub invariant-loop-key : goal.invariant-loop-key
invariant-loop-key l = AllByRecursion (λ n. IsStorable (row_of n)) (held_at l.slots (map (λ k. k.now) l.yielded))
