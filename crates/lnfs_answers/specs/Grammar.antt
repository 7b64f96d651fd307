-- What the answer to a list of operations is (RFC 8881 section 16.2.2), as a format of its own: numbers, counts, masks and
-- fixed words are those that are awaited, so that the first word that no such answer has is the first fault.
use Rattle.std.specs.Prelude.{ℕ, zero, suc, ◌+◌, ◌-◌, ◌%◌, Bool, ◌&&◌, List, [], ◌∷◌, length, take, nat_lt, nat_le, ◌==◌, if◌then◌else◌}
use Rattle.lnfs_xdr.specs.Format.{Word, Long, Boolean, Count, Among, Opaque, OpaqueOf, Fixed, Done, Linked, ◌>>=◌, when◌then◌else◌, padding}
use Rattle.lnfs_xdr.specs.Message.{Message, Closed, Next}
use Rattle.lnfs_attrs.specs.Parsing.{Args}
use Rattle.lnfs_attrs.specs.Bitmaps.{bitmap}
use Rattle.lnfs_attrs.specs.declared.view.LabelValue.{LabelValue}
use Rattle.lnfs_arguments.specs.declared.numbers.TheConstants.{LONG_LIMIT}
use Rattle.lnfs_arguments.specs.Numbers.{op_getattr, op_readdir, op_setattr}
use Rattle.lnfs_results.specs.declared.types.OpResult.TheVariants as results
use Rattle.lnfs_results.specs.Grammar.{fields}
use Rattle.lnfs_answers.specs.declared.numbers.TheConstants.{RDATTR_ERROR_WORD, SEC_LABEL_WORD, FEWEST_WORDS, MOST_WORDS, BEFORE_LABEL, BEFORE_LABEL_OF_ENTRY, VERIFIER_SIZE}
use Rattle.lnfs_answers.specs.declared.types.Awaits.{Awaits}
use Rattle.lnfs_answers.specs.declared.types.Awaits.TheVariants as awaits
use Rattle.lnfs_answers.specs.declared.types.Named.{Named}
use Rattle.lnfs_answers.specs.declared.types.Told.{Told}
use Rattle.lnfs_answers.specs.declared.types.Told.TheVariants as told
use Rattle.lnfs_answers.specs.declared.types.Said.{Said}

-- ---- masks (RFC 8881 section 3.2): the first word, 0, and the word of sec_label; then zero words, or none, up to the most words of a mask

unfoldable pub zeros : ℕ → Args (Unit {0})
zeros zero = Done tt
zeros (suc n) = Among (λ w. w == 0) >>= λ _. zeros n

abbrev pub is_mask_count : ℕ → Bool
is_mask_count n = nat_le FEWEST_WORDS n && nat_le n MOST_WORDS

unfoldable pub mask : (first : ℕ) → Args (Unit {0})
mask first = do
  count ← Among is_mask_count
  low ← Among (λ w. w == first)
  middle ← Among (λ w. w == 0)
  high ← Among (λ w. w == SEC_LABEL_WORD)
  zeros (count - FEWEST_WORDS)

-- ---- values: a list of attributes is an opaque, whose bytes its values fill

-- the length word of a list that has so many bytes before the bytes of sec_label
abbrev pub is_list_size : (before : ℕ) → ℕ → Bool
is_list_size before size = nat_le before size && (nat_le size LONG_LIMIT && size % 4 == 0)

-- the number of the bytes of sec_label, which fill the list
abbrev pub fills : (before size : ℕ) → ℕ → Bool
fills before size n = before + n + padding n == size

-- sec_label (RFC 7862 section 12.2.4) at the end of a list. Its bytes are one item, which isn't there where they don't fill the list.
unfoldable pub label_in : (before size : ℕ) → Args LabelValue
label_in before size = do
  lfs ← Word
  pi ← Word
  bytes ← OpaqueOf (fills before size)
  Done (record { lfs = lfs; pi = pi; bytes = bytes })

-- GETATTR of sec_label: two numbers and a length word stand before its bytes
unfoldable pub label : Args Told
label = do
  attributes ← mask 0
  size ← Among (is_list_size BEFORE_LABEL)
  value ← label_in BEFORE_LABEL size
  Done (told.Label value)

-- an entry of READDIR of rdattr_error, attribute 11, and sec_label
unfoldable pub named : Args Named
named = do
  cookie ← Long
  called ← Opaque LONG_LIMIT
  attributes ← mask RDATTR_ERROR_WORD
  size ← Among (is_list_size BEFORE_LABEL_OF_ENTRY)
  error ← Word
  value ← label_in BEFORE_LABEL_OF_ENTRY size
  Done (record { cookie = cookie; name = called; error = error; label = value })

unfoldable pub names : Args Told
names = do
  verifier ← Fixed VERIFIER_SIZE
  entries ← Linked named
  eof ← Boolean
  Done (told.Names entries eof)

unfoldable pub other : (number : ℕ) → Args Told
other number = fields number >>= λ r. Done (told.Other r)

-- SETATTR says which attributes were set after any status
unfoldable pub set : (status : ℕ) → Args Told
set status = bitmap >>= λ set. Done (told.Other (results.SetAttr status set))

-- ---- one result: its place tells its number and its status

abbrev pub number_of : Awaits → ℕ
number_of (awaits.Fields number) = number
number_of awaits.Set = op_setattr
number_of awaits.Label = op_getattr
number_of awaits.Names = op_readdir

-- what follows the status 0
abbrev pub done : Awaits → Args Told
done (awaits.Fields number) = other number
done awaits.Set = set 0
done awaits.Label = label
done awaits.Names = names

-- what follows another status
abbrev pub failed : Awaits → (status : ℕ) → Args Told
failed (awaits.Fields number) status = Done (told.Other (results.Failed number status))
failed awaits.Set status = set status
failed awaits.Label status = Done (told.Other (results.Failed op_getattr status))
failed awaits.Names status = Done (told.Other (results.Failed op_readdir status))

unfoldable pub result_for : Awaits → (status : ℕ) → Args Told
result_for a status = do
  number ← Among (λ n. n == number_of a)
  own ← Among (λ n. n == status)
  when status == 0 then done a else failed a status

-- the status of each but the last is 0, and that of the last is the COMPOUND's
abbrev pub status_before : (status : ℕ) → List Awaits → ℕ
status_before status [] = status
status_before status (a ∷ more) = 0

unfoldable pub results_for : (status : ℕ) → List Awaits → Args (List Told)
results_for status [] = Done []
results_for status (a ∷ more) = result_for a (status_before status more) >>= λ r. results_for status more >>= λ rs. Done (r ∷ rs)

-- ---- the whole

-- with status 0 as many results as operations, otherwise from 1 to that many
abbrev pub is_count : (status asked : ℕ) → ℕ → Bool
is_count status asked n = if status == 0 then n == asked else (nat_lt 0 n && nat_le n asked)

unfoldable pub said : List Awaits → Args Said
said awaited = do
  status ← Word
  tag ← Count 0
  count ← Among (is_count status (length awaited))
  rs ← results_for status (take count awaited)
  Done (record { status = status; results = rs })

-- The same as a message, which nothing follows. Where a format leaves, that is an operation that can't succeed; of others none does.
abbrev pub answer : List Awaits → Message Said
answer awaited = Next (said awaited) (λ s. Closed s) (λ e. record { status = e.1; results = [] })
