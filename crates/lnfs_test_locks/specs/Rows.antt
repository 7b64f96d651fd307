-- A file of level 0 that is open to a client of that level, and locks of it.
use Rattle.std.specs.Prelude.{ℕ, true, false, List, [], ◌∷◌, Some, None, nat_le}
use Rattle.lnfs_arguments.specs.declared.stateid.StateId.{StateId}
use Rattle.lnfs_world.specs.World.{Id, File, Node, Open, World}
use Rattle.lnfs_world.specs.Erased.{blank}
use Rattle.lnfs_world.specs.Outcome.{Site, Place, WrongFormat}
use Rattle.lnfs_operations.specs.Chain.{Answer}
use Rattle.lnfs_operations.specs.Handles.{handle_of}
use Rattle.lnfs_locks.specs.Arguments.{Asked, New}
use Rattle.lnfs_locks.specs.Effects.{Came, kept_with}
use Rattle.lnfs_locks.specs.Locks.{Lock, Locks}
use Rattle.lnfs_locks.specs.StateIds.{told_id}
use Rattle.lnfs_locks.specs.Lock.{lock}
use Rattle.lnfs_locks.specs.LockT.{lockt}
use Rattle.lnfs_locks.specs.LockU.{locku}

abbrev pub id : (level number : ℕ) → Id
id level number = record { level = level; number = number }

abbrev pub site : Site
site = record {
  dom = λ a b. nat_le b a;
  levels = 4;
  limited = false;
  nodes = λ level. 4096;
  bytes = λ level. 67108864;
  spelling = λ level. record { lfs = 0; pi = 0; bytes = [] };
  reading = λ stored. WrongFormat;
}

abbrev pub file : Node
file = record { id = id 0 5; kind = File; label = 0; verifier = None; inner = blank }

abbrev pub opening : Open
opening = record { id = id 0 1; client = 1; owner = 97 ∷ []; node = id 0 5; access = 3; deny = 0; sequence = 1 }

abbrev pub world : World
world = record {
  clients = [];
  sessions = [];
  contexts = [];
  nodes = file ∷ [];
  entries = [];
  opens = opening ∷ [];
  lasts = record { clients = []; sessions = []; contexts = []; nodes = id 0 5 ∷ []; opens = id 0 1 ∷ [] };
}

abbrev pub at : (subject : ℕ) → Place
at subject = record { subject = subject; moment = record { secs = 100; nanos = 0 }; client = Some 1; session = None; current = Some (id 0 5); saved = None }

abbrev pub asked : (kind offset length : ℕ) → Asked
asked kind offset length = record { kind = kind; offset = offset; length = length }

-- owners
abbrev pub a : List ℕ
a = 97 ∷ []

abbrev pub b : List ℕ
b = 98 ∷ []

abbrev pub none : Locks
none = record { lasts = []; locks = [] }

abbrev pub taken : Lock
taken = record { id = id 0 1; client = 1; opening = 1; owner = a; node = id 0 5; sequence = 1; ranges = record { first = 0; last = 9; write = true } ∷ [] }

abbrev pub left : Lock
left = record taken { sequence = 2; ranges = record { first = 0; last = 3; write = true } ∷ record { first = 6; last = 9; write = true } ∷ [] }

abbrev pub of_open : StateId
of_open = record { seqid = 1; other = handle_of (id 0 1) }

abbrev pub of_lock : StateId
of_lock = record { seqid = 1; other = handle_of (told_id (id 0 1)) }

abbrev pub first_locked : Answer Came
first_locked = (lock site (record { asked = asked 2 0 10; reclaim = false; locker = New of_open a }) none (at 0) world).answer

abbrev pub after_locking : Locks
after_locking = kept_with taken [] none

abbrev pub tested_beside : Answer Came
tested_beside = (lockt site (record { asked = asked 1 9 1; owner = b }) after_locking (at 0) world).answer

abbrev pub unlocked : Answer Came
unlocked = (locku (record { asked = asked 2 4 2; lock = of_lock }) after_locking (at 0) world).answer

abbrev pub after_unlocking : Locks
after_unlocking = kept_with left [] after_locking

abbrev pub tested_inside : Answer Came
tested_inside = (lockt site (record { asked = asked 1 4 2; owner = b }) after_unlocking (at 0) world).answer

abbrev pub locked_from_above : Answer Came
locked_from_above = (lock site (record { asked = asked 1 0 10; reclaim = false; locker = New of_open a }) after_unlocking (at 3) world).answer

abbrev pub tested_from_above : Answer Came
tested_from_above = (lockt site (record { asked = asked 1 0 10; owner = b }) after_unlocking (at 3) world).answer
