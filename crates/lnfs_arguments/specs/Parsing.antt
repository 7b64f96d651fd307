-- What the readers of structures promise that take memory.
use Rattle.std.specs.Prelude.{◌≡◌, ℕ, Result, Ok, Err}
use Rattle.lnfs_xdr.specs.Reading.{Read, Fault, Leaves}
use Rattle.lnfs_xdr.specs.Cursor.{Cursor}
use Rattle.lnfs_arguments.specs.declared.halt.Halt.{Halt}
use Rattle.lnfs_arguments.specs.declared.halt.Halt.TheVariants as halts

-- What a function returned, seen by view, is what reading gives, unless memory ran out, and the reader stands where reading does.
abbrev pub ParsesInMemory : {X A : Type 0} → (X → A) → Result X Halt → Cursor → Cursor → Read (ℕ × ℕ) A → Type 0
ParsesInMemory view (Ok x) old new r = (r ≡ Ok (view x, new.rest)) × (new.total ≡ old.total)
ParsesInMemory view (Err halts.Memory) old new r = Unit {0}
ParsesInMemory view (Err (halts.Fault c)) old new r = (r ≡ Err (Fault c new.rest)) × (new.total ≡ old.total)
ParsesInMemory view (Err (halts.Outside number status)) old new r = r ≡ Err (Leaves (number, status))
