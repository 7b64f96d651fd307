-- What the readers promise that take memory.
use Rattle.std.specs.Prelude.{◌≡◌, ℕ, ◌+◌, List, length, Option, Some, None, Result, Ok, Err}
use Rattle.std.specs.Option.{option_map}
use Rattle.lnfs_xdr.specs.Reading.{Read, Fault}
use Rattle.lnfs_xdr.specs.Cursor.{Cursor}
use Rattle.lnfs_rows.specs.World.{AreOf, world_of}
use Rattle.lnfs_lock_rows.specs.Told.{locks_told}
use Rattle.lnfs_layout.specs.declared.errors.Halt.{Halt}
use Rattle.lnfs_layout.specs.declared.errors.Halt.TheVariants as halts
use Rattle.lnfs_layout.specs.declared.errors.LayoutError.{LayoutError}
use Rattle.lnfs_layout.specs.declared.errors.LayoutError.TheVariants as errors
use Rattle.lnfs_layout.specs.declared.reading.Laid.{Laid}
use Rattle.lnfs_layout.specs.Whole.{Told}

-- What a function returned, seen by view, is what reading gives, unless memory ran out, and the reader stands where reading does.
abbrev pub ParsesInMemory : {X A : Type 0} → (X → A) → Result X Halt → Cursor → Cursor → Read ⊥ A → Type 0
ParsesInMemory view (Ok x) old new r = (r ≡ Ok (view x, new.rest)) × (new.total ≡ old.total)
ParsesInMemory view (Err halts.Memory) old new r = Unit {0}
ParsesInMemory view (Err (halts.Fault c)) old new r = (r ≡ Err (Fault c new.rest)) × (new.total ≡ old.total)

-- what a state that was read stands for
abbrev pub told_of : Laid → Told
told_of l = record { events = l.events; world = world_of l.lists; locks = locks_told l.locks }

-- The same of the whole layout: nothing where the policy is another.
abbrev pub Completes : Result (Option Laid) Halt → Cursor → Cursor → Result (Option Told) (List ℕ) → Type 0
Completes (Ok x) old new r = r ≡ Ok (option_map told_of x)
Completes (Err halts.Memory) old new r = Unit {0}
Completes (Err (halts.Fault c)) old new r = (r ≡ Err new.rest) × (new.total ≡ old.total)

-- The same over bytes.
abbrev pub Answers : Result Laid LayoutError → List ℕ → Result (Option Told) (List ℕ) → Type 0
Answers (Ok x) bytes r = r ≡ Ok (Some (told_of x))
Answers (Err errors.Memory) bytes r = Unit {0}
Answers (Err errors.Policy) bytes r = r ≡ Ok None
Answers (Err (errors.Damaged at)) bytes r = (stuck : List ℕ) × (r ≡ Err stuck) × (at + length stuck ≡ length bytes)

-- a fact of the offset that is refused
abbrev pub IfDamaged : Result Laid LayoutError → (ℕ → Type 0) → Type 0
IfDamaged (Err (errors.Damaged at)) P = P at
IfDamaged r P = Unit {0}

-- a fact where the policy is another
abbrev pub IfPolicy : Result Laid LayoutError → Type 0 → Type 0
IfPolicy (Err errors.Policy) P = P
IfPolicy r P = Unit {0}

-- a last number for each level, of the world's identifiers and of locks
abbrev pub HasLasts : (levels : ℕ) → Laid → Type 0
HasLasts levels l = AreOf levels l.lists.lasts × (length l.locks.lasts.items ≡ levels)

-- the same of a state that was read
abbrev pub EachLevel : (levels : ℕ) → Result (Option Laid) Halt → Type 0
EachLevel levels (Ok (Some x)) = HasLasts levels x
EachLevel levels r = Unit {0}
