use Rattle.std.proofs.Common.{◌≡◌, Ok}
use Rattle.lnfs_workers.specs.Pairs.{Each}
use Rattle.lnfs_workers.proofs.pool.gathered.Given as goal

abbrev pub invariant-loop-one : goal.invariant-loop-one
invariant-loop-one g l = Each (λ one value. one ≡ Ok value) l.yielded l.all.items
