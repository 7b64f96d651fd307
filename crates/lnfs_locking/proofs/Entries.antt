-- A map's entries as locks in the order of their identifiers, each of the level of its client.
use Rattle.std.proofs.Common.{◌≡◌, Bool, true, false, cond, List, [], ◌∷◌, Option, Some, refl, ap, ◌∙◌, arith}
use Rattle.std.specs.Ordering.{nat_cmp, ordering_then, is_eq, match_ordering}
use Rattle.std.specs.declared.cmp.Ordering.{Ordering}
use Rattle.std.specs.declared.cmp.Ordering.TheVariants.{Less, Equal, Greater}
use Rattle.std.specs.BTreeMap.{insert_entry}
use Rattle.std.specs.Map.{lookup, remove_entry, set_value}
use Rattle.std.proofs.lemmas.Bool.Decides.{nat_tests}
use Rattle.lnfs_counts.proofs.Entries.{AreKeys, tied}
use Rattle.lnfs_locking.specs.declared.keys.Key.{Key}
use Rattle.lnfs_locking.specs.declared.keys.LockRow.{LockRow}
use Rattle.lnfs_locking.specs.Keys.{id_of}
use Rattle.lnfs_locking.specs.Rows.{AreOwn}

abbrev pub key_cmp : Key → Key → Ordering
key_cmp a b = ordering_then (nat_cmp a.level b.level) (nat_cmp a.number b.number)

pub keys : AreKeys id_of key_cmp
keys = record { one = λ a b same t. record { level = (same t).level; number = (same t).number }; order = λ a b. refl }

abbrev Entries : Type 0
Entries = List (Key × LockRow)

abbrev pub at : Key → Entries → Option LockRow
at i es = lookup (λ k. is_eq (key_cmp i k)) es

-- ---- each is of the level of its client

pub own_at : (i : Key) (w : LockRow) (es : Entries) → AreOwn es → at i es ≡ Some w → w.client.level.0 ≡ i.level
own_at i w [] all found = absurd (cc)
own_at i w (e ∷ es) all found = by (key_cmp i e.0) refl found (own_at i w es all.1)
  where
    by : (o : Ordering) → key_cmp i e.0 ≡ o → at i (e ∷ es) ≡ Some w → (at i es ≡ Some w → w.client.level.0 ≡ i.level) → w.client.level.0 ≡ i.level
    by Less is found rest = grind (arith, is, found, rest)
    by Equal is found rest = grind (arith, is, found, tied id_of key_cmp keys i e.0 is, all.0)
    by Greater is found rest = grind (arith, is, found, rest)

pub own_inserted : (i : Key) (v : LockRow) (es : Entries) → v.client.level.0 ≡ i.level → AreOwn es → AreOwn (insert_entry key_cmp es i v)
own_inserted i v [] here all = (here, tt)
own_inserted i v (e ∷ es) here all = by (key_cmp i e.0) refl (own_inserted i v es here all.1)
  where
    by : (o : Ordering) → key_cmp i e.0 ≡ o → AreOwn (insert_entry key_cmp es i v) → AreOwn (match_ordering o ((i, v) ∷ e ∷ es) ((e.0, v) ∷ es) (e ∷ insert_entry key_cmp es i v))
    by Less is rest = (here, all)
    by Equal is rest = (here ∙ ap (λ (k : Key). k.level) (tied id_of key_cmp keys i e.0 is), all.1)
    by Greater is rest = (all.0, rest)

pub own_removed : (i : Key) (es : Entries) → AreOwn es → AreOwn (remove_entry (λ k. is_eq (key_cmp i k)) es)
own_removed i [] all = tt
own_removed i (e ∷ es) all = by (is_eq (key_cmp i e.0)) (own_removed i es all.1)
  where
    by : (b : Bool) → AreOwn (remove_entry (λ k. is_eq (key_cmp i k)) es) → AreOwn (cond b es (e ∷ remove_entry (λ k. is_eq (key_cmp i k)) es))
    by true rest = all.1
    by false rest = (all.0, rest)

pub own_set : (i : Key) (v : LockRow) (es : Entries) → v.client.level.0 ≡ i.level → AreOwn es → AreOwn (set_value (λ k. is_eq (key_cmp i k)) es v)
own_set i v [] here all = tt
own_set i v (e ∷ es) here all = by (is_eq (key_cmp i e.0)) refl (own_set i v es here all.1)
  where
    by : (b : Bool) → is_eq (key_cmp i e.0) ≡ b → AreOwn (set_value (λ k. is_eq (key_cmp i k)) es v) → AreOwn (cond b ((e.0, v) ∷ es) (e ∷ set_value (λ k. is_eq (key_cmp i k)) es v))
    by true is rest = (here ∙ grind (arith, nat_tests, is), all.1)
    by false is rest = (all.0, rest)
