-- What a reader's calls promise.
use Rattle.std.specs.Prelude.{◌≡◌, ℕ, List, Result, Ok, Err}
use Rattle.lnfs_xdr.specs.declared.error.XdrError.{XdrError}
use Rattle.lnfs_xdr.specs.Reading.{Item, Read, Fault}

-- how many bytes there were, and those that are left
pub record Cursor : Type 0 where
  pub total : ℕ
  pub rest : List ℕ

-- What a call returned, seen by view, is what reading gives, and the reader stands where reading does.
abbrev pub Gives : {X A : Type 0} → (X → A) → Result X XdrError → Cursor → Cursor → Item A → Type 0
Gives view (Ok x) old new item = (item ≡ Ok (view x, new.rest)) × (new.total ≡ old.total)
Gives view (Err e) old new item = (item ≡ Err e) × (new ≡ old)

-- The same of a function on slices.
abbrev pub Takes : {X A : Type 0} → (X → A × List ℕ) → Result X XdrError → Item A → Type 0
Takes view (Ok x) item = item ≡ Ok (view x)
Takes view (Err e) item = item ≡ Err e

-- The same of a function that reads a format: what it returned, seen by view, is what reading gives, and the reader stands where reading does.
abbrev pub Parses : {E X A : Type 0} → (X → A) → Result X XdrError → Cursor → Cursor → Read E A → Type 0
Parses view (Ok x) old new r = (r ≡ Ok (view x, new.rest)) × (new.total ≡ old.total)
Parses view (Err e) old new r = (r ≡ Err (Fault e new.rest)) × (new.total ≡ old.total)
