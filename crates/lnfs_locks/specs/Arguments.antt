-- The arguments of LOCK, LOCKT and LOCKU, one block each (RFC 8881 sections 18.10.1, 18.11.1 and 18.12.1).
use Rattle.std.specs.Prelude.{ℕ, ◌==◌, Bool, cond, List, [], ◌∷◌}
use Rattle.lnfs_xdr.specs.Format.{Format, Word, Long, Boolean, Opaque, Fixed, Done, ◌>>=◌, when◌then◌else◌}
use Rattle.lnfs_arguments.specs.declared.numbers.TheConstants.{OWNER_LIMIT}
use Rattle.lnfs_arguments.specs.declared.stateid.StateId.{StateId}
use Rattle.lnfs_arguments.specs.Further.{Further, Blocks, further_of}
use Rattle.lnfs_locks.specs.declared.numbers.TheConstants.{OP_LOCK, OP_LOCKT, OP_LOCKU, LOCK_BOUND, LOCKU_BOUND}

-- what is asked for, and from where on, how far
pub record Asked : Type 0 where
  pub kind : ℕ
  pub offset : ℕ
  pub length : ℕ

-- whose lock is asked for
pub data Locker : Type 0 where
  -- of a lock owner, under an open
  New : (opening : StateId) (owner : List ℕ) → Locker
  -- a lock that is there
  Known : (lock : StateId) → Locker

-- What the operations look at of their arguments: neither the client ids nor the sequences beside the state ids.
pub record LockArgs : Type 0 where
  pub asked : Asked
  pub reclaim : Bool
  pub locker : Locker

pub record LockTArgs : Type 0 where
  pub asked : Asked
  pub owner : List ℕ

pub record LockUArgs : Type 0 where
  pub asked : Asked
  pub lock : StateId

-- a format that leaves nothing unread
abbrev pub Args : Type 0 → Type 1
Args A = Format ⊥ A

-- stateid4, section 3.3.12
unfoldable pub state_id : Args StateId
state_id = do
  seqid ← Word
  other ← Fixed 12
  Done (record { seqid = seqid; other = other })

-- lock_owner4, section 3.3.10.3
unfoldable pub lock_owner : Args (List ℕ)
lock_owner = do
  client ← Long
  owner ← Opaque OWNER_LIMIT
  Done owner

-- open_to_lock_owner4, section 18.10.1
unfoldable pub new_locker : Args Locker
new_locker = do
  open_seqid ← Word
  opening ← state_id
  lock_seqid ← Word
  owner ← lock_owner
  Done (New opening owner)

-- exist_lock_owner4, section 18.10.1
unfoldable pub known_locker : Args Locker
known_locker = do
  lock ← state_id
  lock_seqid ← Word
  Done (Known lock)

unfoldable pub lock_args : Args LockArgs
lock_args = do
  kind ← Word
  reclaim ← Boolean
  offset ← Long
  length ← Long
  is_new ← Boolean
  locker ← when is_new then new_locker else known_locker
  Done (record { asked = record { kind = kind; offset = offset; length = length }; reclaim = reclaim; locker = locker })

unfoldable pub lockt_args : Args LockTArgs
lockt_args = do
  kind ← Word
  offset ← Long
  length ← Long
  owner ← lock_owner
  Done (record { asked = record { kind = kind; offset = offset; length = length }; owner = owner })

unfoldable pub locku_args : Args LockUArgs
locku_args = do
  kind ← Word
  seqid ← Word
  lock ← state_id
  offset ← Long
  length ← Long
  Done (record { asked = record { kind = kind; offset = offset; length = length }; lock = lock })

-- ---- how they are read

abbrev pub blocks : Blocks
blocks = (OP_LOCK, lock_args >>= λ args. Done tt)
    ∷ (OP_LOCKT, lockt_args >>= λ args. Done tt)
    ∷ (OP_LOCKU, locku_args >>= λ args. Done tt)
    ∷ []

abbrev pub lock_grammar : Further
lock_grammar = further_of blocks (λ number arguments. cond (number == OP_LOCKU) LOCKU_BOUND LOCK_BOUND)
