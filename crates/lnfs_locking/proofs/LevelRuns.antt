-- The locks of a level, which lie beside each other in the map, from one on.
use Rattle.std.proofs.Common.{◌≡◌, ℕ, Bool, true, false, cond, ◌&&◌, List, [], ◌∷◌, map, refl, sym, ap, arith}
use Rattle.std.specs.Prelude.{◌==◌, filter, find, nat_le}
use Rattle.std.specs.Option.{option_map}
use Rattle.std.specs.Ordering.{is_le}
use Rattle.std.specs.declared.cmp.Ordering.TheVariants.{Less}
use Rattle.std.specs.declared.ops.Bound.TheVariants.{Included, Unbounded}
use Rattle.std.specs.BTreeMap.Range.{entries_between}
use Rattle.std.specs.List.{AllByRecursion}
use Rattle.std.specs.List.Sorted.{IsStrictlySortedBy}
use Rattle.std.specs.Map.{keys_of}
use Rattle.std.proofs.lemmas.Map.Keys.{sorted_head, sorted_tail}
use Rattle.std.proofs.lemmas.Bool.Decides.{nat_tests}
use Rattle.lnfs_locks.specs.Locks.{Lock}
use Rattle.lnfs_locking.specs.declared.keys.Key.{Key}
use Rattle.lnfs_locking.specs.declared.keys.LockRow.{LockRow}
use Rattle.lnfs_locking.specs.Keys.{id_of}
use Rattle.lnfs_locking.specs.Rows.{entry_of, AreOwn}
use Rattle.lnfs_locking.specs.Walks.{from_on}
use Rattle.lnfs_locking.proofs.Entries.{key_cmp}

abbrev pub Rows : Type 0
Rows = List (Key × LockRow)

-- the first rows, up to one of another level
abbrev pub level_run : ℕ → Rows → Rows
level_run level [] = []
level_run level (e ∷ es) = cond (e.0.level == level) (e ∷ level_run level es) []

abbrev pub is_from : Key → Key × LockRow → Bool
is_from from e = e.0.level == from.level && is_le (key_cmp from e.0)

levels_from : (a b : Key) → is_le (key_cmp a b) ≡ true → nat_le a.level b.level ≡ true
levels_from a b from = grind (arith, nat_tests)

levels_rise : (a b : Key) → key_cmp a b ≡ Less → nat_le a.level b.level ≡ true
levels_rise a b less = grind (arith, nat_tests)

above_other : (g a b : ℕ) → nat_le g a ≡ true → (a == g) ≡ false → nat_le a b ≡ true → (b == g) ≡ false
above_other g a b x y z = grind (arith, nat_tests)

-- ---- the run is what a test leaves

module _ (from : Key) where
  none_above : (p : Key) → nat_le from.level p.level ≡ true → (p.level == from.level) ≡ false → (es : Rows) → AllByRecursion (λ q. key_cmp p q ≡ Less) (keys_of es) → filter (is_from from) es ≡ []
  none_above p later other [] all = refl
  none_above p later other (e ∷ es) all =
      let apart = above_other from.level p.level e.0.level later other (levels_rise p e.0 all.0) in
      rw apart (none_above p later other es all.1)

  pub of_level : (es : Rows) → IsStrictlySortedBy key_cmp (keys_of es) → level_run from.level (entries_between key_cmp (Included from) Unbounded es) ≡ filter (is_from from) es
  of_level [] sorted = refl
  of_level (e ∷ es) sorted = by (is_le (key_cmp from e.0)) (e.0.level == from.level) refl refl (of_level es (sorted_tail key_cmp e.0 (keys_of es) sorted))
    where
      by : (later same : Bool) → is_le (key_cmp from e.0) ≡ later → (e.0.level == from.level) ≡ same → level_run from.level (entries_between key_cmp (Included from) Unbounded es) ≡ filter (is_from from) es → level_run from.level (entries_between key_cmp (Included from) Unbounded (e ∷ es)) ≡ filter (is_from from) (e ∷ es)
      by true true later same rest = rw (later, same) (ap (λ r. e ∷ r) rest)
      by true false later same rest = rw (later, same) (sym (none_above e.0 (levels_from from e.0 later) same es (sorted_head key_cmp e.0 (keys_of es) sorted)))
      by false true later same rest = rw (later, same) rest
      by false false later same rest = rw (later, same) rest

  -- the first of a run is the first of all that lies from there on
  pub first_of_run : (test : Lock → Bool) (es : Rows) →
      option_map entry_of (find (λ e. test (entry_of e)) (filter (is_from from) es)) ≡ find (from_on (id_of from) test) (map entry_of es)
  first_of_run test [] = refl
  first_of_run test (e ∷ es) = by (e.0.level == from.level) (is_le (key_cmp from e.0)) (test (entry_of e)) refl refl refl (first_of_run test es)
    where
      by : (same later passes : Bool) → (e.0.level == from.level) ≡ same → is_le (key_cmp from e.0) ≡ later → test (entry_of e) ≡ passes →
          option_map entry_of (find (λ e. test (entry_of e)) (filter (is_from from) es)) ≡ find (from_on (id_of from) test) (map entry_of es) →
          option_map entry_of (find (λ e. test (entry_of e)) (filter (is_from from) (e ∷ es))) ≡ find (from_on (id_of from) test) (map entry_of (e ∷ es))
      by true true true same later passes rest = rw (same, later, passes) refl
      by true true false same later passes rest = rw (same, later, passes) rest
      by true false p same later passes rest = rw (same, later) rest
      by false l p same later passes rest = rw same rest

-- ---- those that lie between are as all are

pub own_between : (from : Key) (es : Rows) → AreOwn es → AreOwn (entries_between key_cmp (Included from) Unbounded es)
own_between from [] all = tt
own_between from (e ∷ es) all = by (is_le (key_cmp from e.0)) refl (own_between from es all.1)
  where
    by : (b : Bool) → is_le (key_cmp from e.0) ≡ b → AreOwn (entries_between key_cmp (Included from) Unbounded es) → AreOwn (entries_between key_cmp (Included from) Unbounded (e ∷ es))
    by true is rest = rw is (all.0, rest)
    by false is rest = rw is rest
