-- The policy of tables that lack nothing.
use Rattle.std.proofs.Common.{◌≡◌, true, false, refl}
use Rattle.std.specs.Prelude.{Ok, Some}
use Rattle.lnfs_words.specs.Words.{is_empty}
use Rattle.lnfs_policy.specs.PolicyText.{spells_all}
use Rattle.lnfs_policy.specs.Reading.{Read, finish, finished, entries_in}
use Rattle.lnfs_policy.specs.declared.mode.Mode.{Mode}

pub full : (read : Read) (mode : Mode) → read.begun ≡ true → read.mode ≡ Some mode → is_empty read.labels ≡ false → spells_all (entries_in read) read.labels ≡ true → finish read ≡ Ok (record (finished read) { mode = mode })
full read mode b m l s = rw (b, m, l, s) refl
