-- LOCK, LOCKT and LOCKU as further operations.
use Rattle.std.specs.Prelude.{ℕ, ◌==◌, List, [], Option, Some, None, Ok, Err, if◌then◌else◌}
use Rattle.lnfs_xdr.specs.Reading.{Read, read}
use Rattle.lnfs_arguments.specs.declared.statuses.TheConstants.{NFS4ERR_BADXDR, NFS4ERR_NOTSUPP}
use Rattle.lnfs_arguments.specs.SharedTexts.{state_id_text}
use Rattle.lnfs_world.specs.World.{World}
use Rattle.lnfs_world.specs.Outcome.{Site, Place}
use Rattle.lnfs_world.specs.Both.{Both, both}
use Rattle.lnfs_operations.specs.declared.Gate.TheVariants.{Argument, Outside, Open}
use Rattle.lnfs_operations.specs.Chain.{Refusal, Answer, Done, Refused}
use Rattle.lnfs_operations.specs.Extra.{Spot, After, place_at, Extra}
use Rattle.lnfs_locks.specs.declared.numbers.TheConstants.{OP_LOCK, OP_LOCKT, OP_LOCKU, NFS4ERR_DENIED}
use Rattle.lnfs_locks.specs.Arguments.{lock_args, lockt_args, locku_args, lock_grammar}
use Rattle.lnfs_locks.specs.Locks.{Locks, Row, level_of, rows_of, locks_of}
use Rattle.lnfs_locks.specs.Denial.{denial_text}
use Rattle.lnfs_locks.specs.StateIds.{state_of}
use Rattle.lnfs_locks.specs.Effects.{Came, Denied, Free, Holds, kept_with}
use Rattle.lnfs_locks.specs.Lock.{lock}
use Rattle.lnfs_locks.specs.LockT.{lockt}
use Rattle.lnfs_locks.specs.LockU.{locku}
use Rattle.lnfs_locks.specs.Facts.{AreKept}

-- the file handles stay
abbrev pub ended : Spot → Option Refusal → (bytes : List ℕ) → Both Row → After (Both Row)
ended at refusal bytes state = record { said = record { refusal = refusal; bytes = bytes }; current = at.current; saved = at.saved; state = state }

-- A refusal leaves all. It has bytes where another's lock stands in the way.
abbrev pub concluded : Answer Came → Spot → Both Row → After (Both Row)
concluded (Refused why) at a = ended at (Some why) [] a
concluded (Done (Denied d)) at a = ended at (Some (record { gate = Open; status = NFS4ERR_DENIED })) (denial_text d) a
concluded (Done Free) at a = ended at None [] a
concluded (Done (Holds l gone)) at a = ended at None (state_id_text (state_of l)) (both a.world (rows_of (kept_with l gone (locks_of a.own))))

-- Arguments have been measured before they come here, so that they are there.
abbrev pub with_arguments : {A : Type 0} → Read ⊥ A → (A → Answer Came) → Answer Came
with_arguments (Ok x) next = next x.0
with_arguments (Err stuck) next = Refused (record { gate = Argument; status = NFS4ERR_BADXDR })

abbrev pub answered : Site → (number : ℕ) (arguments : List ℕ) → Locks → Place → World → Answer Came
answered site number arguments own p w =
    if number == OP_LOCK then with_arguments (read lock_args arguments) (λ args. (lock site args own p w).answer) else
    if number == OP_LOCKT then with_arguments (read lockt_args arguments) (λ args. (lockt site args own p w).answer) else
    if number == OP_LOCKU then with_arguments (read locku_args arguments) (λ args. (locku args own p w).answer) else
    Refused (record { gate = Outside; status = NFS4ERR_NOTSUPP })

abbrev pub outcome : Site → (number : ℕ) (arguments : List ℕ) → Spot → Both Row → After (Both Row)
outcome site number arguments at a = concluded (answered site number arguments (locks_of a.own) (place_at at) a.world) at a

abbrev pub locking : Extra
locking = record {
  grammar = lock_grammar;
  Row = Row;
  level_of = level_of;
  outcome = outcome;
  Fact = AreKept;
}
