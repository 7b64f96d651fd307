-- The bytes of the arguments of a COMPOUND (RFC 8881 section 16.2.1), and what reading them promises.
use Rattle.std.specs.Prelude.{◌≡◌, ℕ, zero, suc, ◌+◌, Bool, true, false, List, [], ◌∷◌, ◌++◌, length, take, drop, Result, Ok, Err, nat_lt, nat_le, ◌==◌, if◌then◌else◌}
use Rattle.std.specs.Int.{w32}
use Rattle.lnfs_xdr.specs.declared.error.XdrError.{XdrError}
use Rattle.lnfs_xdr.specs.declared.error.XdrError.TheVariants.{Short}
use Rattle.lnfs_xdr.specs.Format.{Format, Word, Opaque, Done, ◌>>=◌, when◌then◌else◌}
use Rattle.lnfs_xdr.specs.Reading.{Read, Fault, Leaves, read, after, here, number_at}
use Rattle.lnfs_xdr.specs.Cursor.{Cursor}
use Rattle.lnfs_xdr.specs.Message.{Message, Closed, Unread, Next, Measured}
use Rattle.lnfs_arguments.specs.Further.{Further}
use Rattle.lnfs_arguments.specs.declared.halt.Halt.{Halt}
use Rattle.lnfs_arguments.specs.declared.halt.Halt.TheVariants as halts
use Rattle.lnfs_arguments.specs.declared.halt.CompoundError.{CompoundError}
use Rattle.lnfs_arguments.specs.declared.halt.CompoundError.TheVariants as errors
use Rattle.lnfs_arguments.specs.declared.types.Compound.{Compound}
use Rattle.lnfs_arguments.specs.declared.types.Op.{Op}
use Rattle.lnfs_arguments.specs.declared.types.Op.TheVariants as ops
use Rattle.lnfs_arguments.specs.Grammar.{arguments}

-- Tag, minor version and count, and no operation yet. Behind another minor version nothing is read, the count neither.
unfoldable pub header : Format ⊥ Compound
header = do
  tag ← Opaque 1024
  minor ← Word
  when minor == 2 then (do
    count ← Word
    Done (record { tag = tag; minor = minor; count = count; ops = [] }))
      else Done (record { tag = tag; minor = minor; count = 0; ops = [] })

-- How many operations are read, and whether what follows them is unread. Of another minor version there is none, and above 32 only the first.
abbrev pub served : ℕ → ℕ → ℕ
served minor count = if minor == 2 then (if nat_lt 32 count then 1 else count) else 0

abbrev pub is_cut : ℕ → ℕ → Bool
is_cut minor count = if minor == 2 then nat_lt 32 count else true

abbrev pub with_op : Compound → Op → Compound
with_op c op = record c { ops = c.ops ++ op ∷ [] }

abbrev pub ended : Bool → Compound → Message Compound
ended true c = Unread c
ended false c = Closed c

abbrev pub chosen : {B : Type 0} → Bool → Message B → Message B → Message B
chosen true m n = m
chosen false m n = n

-- So many operations, behind those that c has. One that is outside is the last.
unfoldable pub operations : Further → Bool → ℕ → Compound → Message Compound
operations x cut zero c = ended cut c
operations x cut (suc n) c = Next Word (λ number. chosen (x.serves number)
    (Measured (x.measure number) (λ args. operations x cut n (with_op c (ops.Extra number args))))
    (Next (arguments number) (λ op. operations x cut n (with_op c op)) (λ e. with_op c (ops.Outside e.0 e.1)))) (λ e. absurd e)

unfoldable pub compound : Further → Message Compound
compound x = Next header (λ h. operations x (is_cut h.minor h.count) (served h.minor h.count) h) (λ e. absurd e)

-- ---- one operation, as it is read

abbrev pub further_at : Result ℕ XdrError → ℕ → List ℕ → Read (ℕ × ℕ) Op
further_at (Ok n) number bytes = if nat_le n (length bytes) then Ok (ops.Extra number (take n bytes), drop n bytes) else Err (Fault Short bytes)
further_at (Err c) number bytes = Err (Fault c bytes)

abbrev pub operation_at : Further → List ℕ → Read (ℕ × ℕ) Op
operation_at x bytes = after (here bytes (number_at w32 bytes)) (λ number rest. if x.serves number then further_at (x.measure number rest) number rest else read (arguments number) rest)

-- ---- what functions promise

-- one that reads tag, minor version and count
abbrev pub Heads : Result (List ℕ × ℕ × ℕ) Halt → Cursor → Read ⊥ Compound → Type 0
Heads (Ok x) new r = r ≡ Ok (record { tag = x.0; minor = x.1; count = x.2; ops = [] }, new.rest)
Heads (Err halts.Memory) new r = Unit {0}
Heads (Err (halts.Fault c)) new r = r ≡ Err (Fault c new.rest)
Heads (Err (halts.Outside number status)) new r = ⊥

-- one that reads an operation
abbrev pub Steps : Result Op Halt → Cursor → Read (ℕ × ℕ) Op → Type 0
Steps (Ok op) new r = r ≡ Ok (op, new.rest)
Steps (Err halts.Memory) new r = Unit {0}
Steps (Err (halts.Fault c)) new r = r ≡ Err (Fault c new.rest)
Steps (Err (halts.Outside number status)) new r = r ≡ Err (Leaves (number, status))

-- one over a reader
abbrev pub Completes : Result Compound Halt → Cursor → Result Compound (List ℕ) → Type 0
Completes (Ok x) new r = r ≡ Ok x
Completes (Err halts.Memory) new r = Unit {0}
Completes (Err (halts.Fault c)) new r = r ≡ Err new.rest
Completes (Err (halts.Outside number status)) new r = ⊥

-- one over bytes
abbrev pub Answers : {A : Type 0} → Result A CompoundError → List ℕ → Result A (List ℕ) → Type 0
Answers (Ok x) bytes r = r ≡ Ok x
Answers (Err errors.Memory) bytes r = Unit {0}
Answers (Err (errors.Garbage at)) bytes r = (stuck : List ℕ) × (r ≡ Err stuck) × (at + length stuck ≡ length bytes)

-- a fact of the offset that is refused
abbrev pub IfGarbage : {A : Type 0} → Result A CompoundError → (ℕ → Type 0) → Type 0
IfGarbage (Ok x) P = Unit {0}
IfGarbage (Err errors.Memory) P = Unit {0}
IfGarbage (Err (errors.Garbage at)) P = P at
