-- The levels of guests, by whom their lines name.
use Rattle.std.specs.Prelude.{◌≡◌, ℕ, List, Option, None, option_map, find}
use Rattle.std.specs.Option.{option_or, option_cmp}
use Rattle.std.specs.Ordering.{nat_cmp, ordering_then}
use Rattle.std.specs.declared.cmp.Ordering.{Ordering}
use Rattle.std.specs.BTreeMap.{BTreeMap, get}
use Rattle.lnfs_calipso.specs.declared.Level.{Level}
use Rattle.lnfs_policy.specs.Policy.{is_for}
use Rattle.lnfs_policy.specs.declared.rows.Guest.{Guest}
use Rattle.lnfs_policy.specs.declared.guests.Named.{Named}

abbrev pub named_cmp : Named → Named → Ordering
named_cmp a b = ordering_then (nat_cmp a.class b.class) (option_cmp nat_cmp a.uid b.uid)

abbrev pub level_under : BTreeMap Named Level → (class : ℕ) → (uid : Option ℕ) → Option Level
level_under levels class uid = get named_cmp levels (record { class = class; uid = uid })

-- a line with a uid that stands behind one for all of its class is none of these
abbrev pub level_in : BTreeMap Named Level → (class : ℕ) → (uid : Option ℕ) → Option Level
level_in levels class uid = option_or (level_under levels class uid) (level_under levels class None)

abbrev pub first_level : List Guest → (class : ℕ) → (uid : Option ℕ) → Option Level
first_level lines class uid = option_map (λ line. line.level) (find (is_for class uid) lines)

-- Each caller has the level of the first line that fits.
abbrev pub AreLevelsOf : List Guest → BTreeMap Named Level → Type 0
AreLevelsOf lines levels = (class : ℕ) (uid : Option ℕ) → level_in levels class uid ≡ first_level lines class uid
