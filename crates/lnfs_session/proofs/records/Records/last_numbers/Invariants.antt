use Rattle.std.proofs.Common.{◌≡◌}
use Rattle.lnfs_rows.specs.Lasts.{each_of}
use Rattle.lnfs_session.proofs.records.Records.last_numbers.Given as goal

-- the last numbers of the levels before
abbrev pub invariant-loop-level : goal.invariant-loop-level
invariant-loop-level l = l.numbers.items ≡ each_of l.level l.self.lasts
