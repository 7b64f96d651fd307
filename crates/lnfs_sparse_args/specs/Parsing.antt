-- What the readers of whole arguments promise.
use Rattle.std.specs.Prelude.{◌≡◌, ℕ, List, Result, Ok, Err}
use Rattle.lnfs_xdr.specs.declared.error.XdrError.{XdrError}
use Rattle.lnfs_xdr.specs.Reading.{Read, Fault}

-- What a function returned, seen by view, is what reading gives, whatever is left behind it.
abbrev pub Reads : {X A : Type 0} → (X → A) → Result X XdrError → Read ⊥ A → Type 0
Reads view (Ok x) r = (rest : List ℕ) × (r ≡ Ok (view x, rest))
Reads view (Err e) r = (stuck : List ℕ) × (r ≡ Err (Fault e stuck))
