-- How many bytes spell the value of a format that stands at the front.
use Rattle.std.specs.Prelude.{ℕ, ◌-◌, List, length, Result, Ok, Err}
use Rattle.lnfs_xdr.specs.declared.error.XdrError.{XdrError}
use Rattle.lnfs_xdr.specs.Format.{Format}
use Rattle.lnfs_xdr.specs.Reading.{Read, Fault, Leaves, read}

abbrev pub length_read : {A : Type 0} → Read ⊥ A → List ℕ → Result ℕ XdrError
length_read (Ok x) bytes = Ok (length bytes - length x.1)
length_read (Err (Fault c stuck)) bytes = Err c
length_read (Err (Leaves e)) bytes = absurd e

-- the bytes of the value, or the fault of the first item that isn't there
unfoldable pub length_at : {A : Type 0} → Format ⊥ A → List ℕ → Result ℕ XdrError
length_at f bytes = length_read (read f bytes) bytes
