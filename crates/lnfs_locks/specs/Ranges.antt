-- The range that is asked for (RFC 8881 section 18.10.3).
use Rattle.std.specs.Prelude.{ℕ, ◌+◌, ◌-◌, ◌==◌, ◌&&◌, ◌||◌, Bool, not, cond, nat_le}
use Rattle.lnfs_arguments.specs.declared.statuses.TheConstants.{NFS4ERR_INVAL}
use Rattle.lnfs_world.specs.Outcome.{Place, Outcome}
use Rattle.lnfs_operations.specs.declared.Gate.TheVariants.{Argument}
use Rattle.lnfs_operations.specs.declared.numbers.TheConstants.{OPEN4_SHARE_ACCESS_READ, OPEN4_SHARE_ACCESS_WRITE}
use Rattle.lnfs_operations.specs.Chain.{Answer, refuse, demand}
use Rattle.lnfs_locks.specs.declared.numbers.TheConstants.{READ_LT, WRITE_LT, WRITEW_LT, LAST_OFFSET}
use Rattle.lnfs_locks.specs.Arguments.{Asked}

abbrev pub is_kind : ℕ → Bool
is_kind kind = nat_le READ_LT kind && nat_le kind WRITEW_LT

-- a lock for write; no lock waits, so that those for which a client would wait are as the others
abbrev pub for_write : Asked → Bool
for_write a = a.kind == WRITE_LT || a.kind == WRITEW_LT

-- the access that its open has to have
abbrev pub access_for : Asked → ℕ
access_for a = cond (for_write a) OPEN4_SHARE_ACCESS_WRITE OPEN4_SHARE_ACCESS_READ

-- Not empty, and not past the last offset; a length of all ones goes up to there. An offset itself is past it in no message.
abbrev pub is_range : Asked → Bool
is_range a = not (a.length == 0) && (a.length == LAST_OFFSET && nat_le a.offset LAST_OFFSET || nat_le (a.offset + a.length) LAST_OFFSET)

abbrev pub last_asked : Asked → ℕ
last_asked a = cond (a.length == LAST_OFFSET) LAST_OFFSET (a.offset + a.length - 1)

abbrev pub where_range : {R : Type 0} → Place → Asked → Outcome (Answer R) → Outcome (Answer R)
where_range p a next =
    demand (is_kind a.kind) (refuse p Argument NFS4ERR_INVAL) (
    demand (is_range a) (refuse p Argument NFS4ERR_INVAL) next)
