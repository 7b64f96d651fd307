-- Sequences of requests (RFC 8881 sections 2.10.6.1 and 18.36.4): one that comes again is answered as it was
-- the first time.
use Rattle.std.specs.Prelude.{ℕ, ◌-◌, ◌==◌, cond, List, Option, None, if◌then◌else◌}
use Rattle.std.specs.Str.{bytes_eq}
use Rattle.lnfs_world.specs.World.{Kept}
use Rattle.lnfs_world.specs.Outcome.{Place, Outcome}
use Rattle.lnfs_arguments.specs.declared.statuses.TheConstants.{NFS4ERR_SEQ_FALSE_RETRY, NFS4ERR_SEQ_MISORDERED}
use Rattle.lnfs_operations.specs.declared.Gate.TheVariants.{Session}
use Rattle.lnfs_world.specs.declared.numbers.TheConstants.{LAST_SEQUENCE}
use Rattle.lnfs_operations.specs.Chain.{Answer, refuse, demand, where_there}

-- the sequence before one
abbrev pub sequence_before : ℕ → ℕ
sequence_before n = if n == 0 then LAST_SEQUENCE else n - 1

-- The last sequence is a retry, where an answer was kept: it has to bring the same arguments, and gets that
-- answer again. Another request has to bring the next one.
abbrev pub in_order : {R : Type 0} → Place → (last next : ℕ) → Option Kept → (sequence : ℕ) (arguments : List ℕ) → (List ℕ → Outcome (Answer R)) → Outcome (Answer R) → Outcome (Answer R)
in_order p last next kept sequence arguments again new =
    where_there (cond (sequence == last) kept None)
    (λ k. demand (bytes_eq k.arguments arguments) (refuse p Session NFS4ERR_SEQ_FALSE_RETRY) (again k.reply))
    (demand (sequence == next) (refuse p Session NFS4ERR_SEQ_MISORDERED) new)
