-- The arguments of ALLOCATE, DEALLOCATE, SEEK and CLONE, one block each (RFC 7862 sections 15.1.1, 15.4.1, 15.11.1 and 15.13.1).
use Rattle.std.specs.Prelude.{ℕ, ◌==◌, cond, [], ◌∷◌}
use Rattle.lnfs_xdr.specs.Format.{Format, Word, Long, Fixed, Done, ◌>>=◌}
use Rattle.lnfs_arguments.specs.declared.stateid.StateId.{StateId}
use Rattle.lnfs_arguments.specs.Further.{Further, Blocks, further_of}
use Rattle.lnfs_sparse_ops.specs.declared.numbers.TheConstants.{OP_ALLOCATE, OP_DEALLOCATE, OP_SEEK, OP_CLONE, PLAIN_BOUND, SEEK_BOUND}

-- so many bytes of a file, from an offset on
pub record RegionArgs : Type 0 where
  pub id : StateId
  pub offset : ℕ
  pub length : ℕ

pub record SeekArgs : Type 0 where
  pub id : StateId
  pub offset : ℕ
  pub what : ℕ

-- A count of 0 stands for all bytes of the source up to its end.
pub record CloneArgs : Type 0 where
  pub source : StateId
  pub target : StateId
  pub from : ℕ
  pub to : ℕ
  pub count : ℕ

-- a format that leaves nothing unread
abbrev pub Args : Type 0 → Type 1
Args A = Format ⊥ A

-- stateid4, RFC 8881 section 3.3.12
unfoldable pub state_id : Args StateId
state_id = do
  seqid ← Word
  other ← Fixed 12
  Done (record { seqid = seqid; other = other })

-- ALLOCATE4args and DEALLOCATE4args
unfoldable pub region_args : Args RegionArgs
region_args = do
  id ← state_id
  offset ← Long
  length ← Long
  Done (record { id = id; offset = offset; length = length })

-- SEEK4args. The sort is a word: which there are is a test of the operation.
unfoldable pub seek_args : Args SeekArgs
seek_args = do
  id ← state_id
  offset ← Long
  what ← Word
  Done (record { id = id; offset = offset; what = what })

-- CLONE4args
unfoldable pub clone_args : Args CloneArgs
clone_args = do
  source ← state_id
  target ← state_id
  from ← Long
  to ← Long
  count ← Long
  Done (record { source = source; target = target; from = from; to = to; count = count })

-- ---- how they are read

abbrev pub blocks : Blocks
blocks = (OP_ALLOCATE, region_args >>= λ args. Done tt)
    ∷ (OP_DEALLOCATE, region_args >>= λ args. Done tt)
    ∷ (OP_SEEK, seek_args >>= λ args. Done tt)
    ∷ (OP_CLONE, clone_args >>= λ args. Done tt)
    ∷ []

abbrev pub sparse_grammar : Further
sparse_grammar = further_of blocks (λ number arguments. cond (number == OP_SEEK) SEEK_BOUND PLAIN_BOUND)
