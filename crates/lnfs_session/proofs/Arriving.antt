-- The order of requests, by how a request came.
use Rattle.std.proofs.Common.{◌≡◌, ℕ, Bool, true, false, cond, List, Option, Some, None, refl}
use Rattle.std.specs.Prelude.{◌==◌}
use Rattle.std.specs.Str.{bytes_eq}
use Rattle.lnfs_world.specs.World.{Kept}
use Rattle.lnfs_world.specs.Outcome.{Place, Outcome}
use Rattle.lnfs_arguments.specs.declared.statuses.TheConstants.{NFS4ERR_SEQ_FALSE_RETRY, NFS4ERR_SEQ_MISORDERED}
use Rattle.lnfs_operations.specs.declared.Gate.TheVariants.{Session}
use Rattle.lnfs_operations.specs.Chain.{Answer, refuse, where_there, demand}
use Rattle.lnfs_operations.specs.InOrder.{in_order}
use Rattle.lnfs_session.specs.Arrivals.{Arrival, Again, FalseRetry, Misordered, Next, arrival, retried}

abbrev pub followed : {R : Type 0} → Place → (List ℕ → Outcome (Answer R)) → Outcome (Answer R) → Arrival → Outcome (Answer R)
followed p again new (Again reply) = again reply
followed p again new FalseRetry = refuse p Session NFS4ERR_SEQ_FALSE_RETRY
followed p again new Misordered = refuse p Session NFS4ERR_SEQ_MISORDERED
followed p again new Next = new

module _ {R : Type 0} (p : Place) (again : List ℕ → Outcome (Answer R)) (new : Outcome (Answer R)) (arguments : List ℕ) where
  at : (c : Bool) (o : Option Kept) → where_there o (λ k. demand (bytes_eq k.arguments arguments) (refuse p Session NFS4ERR_SEQ_FALSE_RETRY) (again k.reply)) (demand c (refuse p Session NFS4ERR_SEQ_MISORDERED) new) ≡ followed p again new (retried o arguments (cond c Next Misordered))
  at true None = refl
  at false None = refl
  at c (Some k) = same (bytes_eq k.arguments arguments)
    where
      same : (e : Bool) → demand e (refuse p Session NFS4ERR_SEQ_FALSE_RETRY) (again k.reply) ≡ followed p again new (cond e (Again k.reply) FalseRetry)
      same true = refl
      same false = refl

  pub ordered : (last next : ℕ) (kept : Option Kept) (sequence : ℕ) → in_order p last next kept sequence arguments again new ≡ followed p again new (arrival last next kept sequence arguments)
  ordered last next kept sequence = at (sequence == next) (cond (sequence == last) kept None)
