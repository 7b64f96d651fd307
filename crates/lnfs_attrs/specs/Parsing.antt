-- The formats of NFS.
use Rattle.std.specs.Prelude.{ℕ}
use Rattle.lnfs_xdr.specs.Format.{Format}

-- A format of NFS. Where it leaves, that is an operation outside of what is served: its number and its status.
abbrev pub Args : Type 0 → Type 1
Args A = Format (ℕ × ℕ) A
