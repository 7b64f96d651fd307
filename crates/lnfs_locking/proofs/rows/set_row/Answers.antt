use Rattle.std.proofs.Common.{◌≡◌, Some, None, map, option_map, refl, sym, ap, subst, ◌∙◌}
use Rattle.lnfs_counts.proofs.Entries.{find-entries, set-entries}
use Rattle.lnfs_locking.specs.declared.keys.LockRow.{LockRow}
use Rattle.lnfs_locking.specs.Keys.{id_of}
use Rattle.lnfs_locking.specs.Rows.{lock_of, lock_id, entry_of, with_ranges, rows_with, AreOwn}
use Rattle.lnfs_locking.proofs.Entries.{key_cmp, keys, at, own_at, own_set}
use Rattle.lnfs_locking.proofs.rows.set_row.Goals as goal

pub returns-in-Some-clause-set : goal.returns-in-Some-clause-set
returns-in-Some-clause-set c =
    let entries = c.args.rows.now.entries in
    let old : LockRow = c.in-Some.row.now in
    let there : Some old ≡ at c.args.id entries = c.in-Some.ensures.value in
    let new : LockRow = record old { seq = c.args.seq; ranges = c.args.ranges } in
    ap (map entry_of) (c.get_mut.follows.holds new).0
    ∙ set-entries id_of key_cmp keys entry_of lock_id (λ e. refl) c.args.id new old entries c.get_mut.ensures.ordered (sym there)
    ∙ ap (λ o. rows_with (with_ranges c.args.seq c.args.ranges) o (map entry_of entries)) (ap (option_map (lock_of (id_of c.args.id))) there ∙ sym (find-entries id_of key_cmp keys entry_of lock_id (λ e. refl) c.args.id entries))

pub returns-in-Some-clause-own : goal.returns-in-Some-clause-own
returns-in-Some-clause-own c =
    let entries = c.args.rows.now.entries in
    let old : LockRow = c.in-Some.row.now in
    let there : Some old ≡ at c.args.id entries = c.in-Some.ensures.value in
    let new : LockRow = record old { seq = c.args.seq; ranges = c.args.ranges } in
    λ own. subst AreOwn (sym (c.get_mut.follows.holds new).0) (own_set c.args.id new entries (own_at c.args.id old entries own (sym there)) own)

pub returns-in-None-clause-set : goal.returns-in-None-clause-set
returns-in-None-clause-set c =
    let entries = c.args.rows.now.entries in
    let none : None ≡ at c.args.id entries = c.in-None.ensures.value in
    ap (λ m. map entry_of m.entries) c.get_mut.follows.holds-at-none
    ∙ ap (λ o. rows_with (with_ranges c.args.seq c.args.ranges) o (map entry_of entries)) (ap (option_map (lock_of (id_of c.args.id))) none ∙ sym (find-entries id_of key_cmp keys entry_of lock_id (λ e. refl) c.args.id entries))
