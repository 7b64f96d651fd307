-- LOCK up to the test for locks of others, as the code goes through it.
use Rattle.std.specs.Prelude.{◌≡◌, ℕ, not, true, Some, Result, Ok, Err}
use Rattle.lnfs_arguments.specs.declared.statuses.TheConstants.{NFS4ERR_OPENMODE, NFS4ERR_OP_NOT_IN_SESSION}
use Rattle.lnfs_world.specs.Opens.{has_any}
use Rattle.lnfs_world.specs.World.{Node, World}
use Rattle.lnfs_world.specs.Outcome.{Site, Place, Outcome}
use Rattle.lnfs_monitor.specs.Rules.{Deny}
use Rattle.lnfs_operations.specs.declared.Gate.TheVariants as gates
use Rattle.lnfs_operations.specs.declared.Refusal.{Refusal}
use Rattle.lnfs_operations.specs.Chain.{Answer, refuse, demand, where_there}
use Rattle.lnfs_operations.specs.Judged.{where_allowed}
use Rattle.lnfs_tree.specs.Rows.{id_of}
use Rattle.lnfs_locks.specs.declared.numbers.TheConstants.{NFS4ERR_NO_GRACE}
use Rattle.lnfs_locks.specs.Arguments.{LockArgs}
use Rattle.lnfs_locks.specs.Locks.{Lock, Locks}
use Rattle.lnfs_locks.specs.Ranges.{is_range, access_for}
use Rattle.lnfs_locks.specs.Effects.{Came}
use Rattle.lnfs_locks.specs.Lock.{where_locker}
use Rattle.lnfs_byte_locks.specs.declared.asks.Target.{Target}
use Rattle.lnfs_byte_locks.specs.declared.asks.Asks.{Asks}
use Rattle.lnfs_byte_locks.specs.Files.{where_asked_file}
use Rattle.lnfs_byte_locks.specs.Holders.{IsLockOf, lock_held}

-- ---- the client and the file

abbrev pub where_target : Site → LockArgs → Place → World → ((client : ℕ) → Node → Outcome (Answer Came)) → Outcome (Answer Came)
where_target site args p w next =
    where_there p.client
    (λ client.
    where_asked_file p w args.asked (λ n.
    demand (not args.reclaim) (refuse p gates.Open NFS4ERR_NO_GRACE) (
    where_allowed site p (Deny n.label) (next client n))))
    (refuse p gates.Session NFS4ERR_OP_NOT_IN_SESSION)

pub record IsTarget (site : Site) (args : LockArgs) (p : Place) (w : World) (x : Target) : Type 0 where
  pub node : Node
  pub id : id_of x.node ≡ node.id
  pub client : p.client ≡ Some x.client
  pub range : is_range args.asked ≡ true
  pub leads : (next : (client : ℕ) → Node → Outcome (Answer Came)) → where_target site args p w next ≡ next x.client node

abbrev pub FindsTarget : Site → LockArgs → Place → World → Result Target Refusal → Type 0
FindsTarget site args p w (Ok x) = IsTarget site args p w x
FindsTarget site args p w (Err why) = (next : (client : ℕ) → Node → Outcome (Answer Came)) → where_target site args p w next ≡ refuse p why.gate why.status

-- ---- and whose lock

abbrev pub where_asks : Site → LockArgs → Locks → Place → World → ((client : ℕ) → Node → Lock → Outcome (Answer Came)) → Outcome (Answer Came)
where_asks site args own p w next =
    where_target site args p w (λ client n.
    where_locker own p w client n args.locker (λ o l.
    demand (has_any o.access (access_for args.asked)) (refuse p gates.Open NFS4ERR_OPENMODE) (next client n l)))

pub record AreAsks (site : Site) (args : LockArgs) (own : Locks) (p : Place) (w : World) (x : Asks) : Type 0 where
  pub node : Node
  pub id : id_of x.node ≡ node.id
  pub client : p.client ≡ Some x.client
  pub range : is_range args.asked ≡ true
  pub lock_is : IsLockOf own p w x.client node x.holder
  pub leads : (next : (client : ℕ) → Node → Lock → Outcome (Answer Came)) → where_asks site args own p w next ≡ next x.client node (lock_held own p x.client node x.holder)

abbrev pub FindsAsks : Site → LockArgs → Locks → Place → World → Result Asks Refusal → Type 0
FindsAsks site args own p w (Ok x) = AreAsks site args own p w x
FindsAsks site args own p w (Err why) = (next : (client : ℕ) → Node → Lock → Outcome (Answer Came)) → where_asks site args own p w next ≡ refuse p why.gate why.status
