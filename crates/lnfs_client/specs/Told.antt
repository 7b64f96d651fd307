-- What the results of a request tell.
use Rattle.std.specs.Prelude.{ℕ, ◌-◌, Bool, false, List, [], ◌∷◌, length, Option, Some, None, slice_get}
use Rattle.lnfs_policy.specs.Policy.{Policy}
use Rattle.lnfs_attrs.specs.declared.view.LabelValue.{LabelValue}
use Rattle.lnfs_results.specs.declared.types.OpResult.TheVariants as results
use Rattle.lnfs_answers.specs.declared.types.Told.{Told}
use Rattle.lnfs_answers.specs.declared.types.Told.TheVariants as told
use Rattle.lnfs_answers.specs.declared.types.Named.{Named}
use Rattle.lnfs_asking.specs.Labels.{level_of}
use Rattle.lnfs_client.specs.declared.answer.Shown.{Shown}

-- ---- the label that GETATTR tells

abbrev pub label_in : List Told → Option LabelValue
label_in [] = None
label_in (told.Label v ∷ more) = Some v
label_in (told.Names entries eof ∷ more) = label_in more
label_in (told.Other r ∷ more) = label_in more

-- ---- what the last operation of a request tells

abbrev pub last_in : List Told → Option Told
last_in rs = slice_get rs (length rs - 1)

-- the bytes that READ gives
abbrev pub data_of : Option Told → List ℕ
data_of (Some (told.Other (results.Read eof content))) = content
data_of last = []

-- the entries that READDIR gives, and whether they are the last
abbrev pub entries_of : Option Told → List Named
entries_of (Some (told.Names entries eof)) = entries
entries_of last = []

abbrev pub is_end : Option Told → Bool
is_end (Some (told.Names entries eof)) = eof
is_end last = false

-- how many bytes WRITE has taken
abbrev pub count_of : Option Told → ℕ
count_of (Some (told.Other (results.Write count committed verifier))) = count
count_of last = 0

-- ---- entries as they are shown

abbrev pub shown_as : Policy → Named → Shown
shown_as p entry = record { name = entry.name; level = level_of p entry.label }

-- the cookie of the last entry; without an entry it stays
abbrev pub last_cookie : (before : ℕ) → List Named → ℕ
last_cookie before [] = before
last_cookie before (entry ∷ more) = last_cookie entry.cookie more
