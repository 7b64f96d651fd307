use Rattle.std.proofs.Common.{◌≡◌, map, sym, ap, ◌∙◌, subst}
use Rattle.lnfs_world.specs.Rows.{inserted}
use Rattle.lnfs_world.specs.World.{Id}
use Rattle.lnfs_locks.specs.Locks.{Lock, lock_order}
use Rattle.lnfs_lock_rows.specs.declared.LockRow.{LockRow}
use Rattle.lnfs_lock_rows.specs.Told as told
use Rattle.lnfs_locking.specs.Keys.{id_of}
use Rattle.lnfs_locking.specs.Rows.{lock_of, lock_at, entry_of}
use Rattle.lnfs_locking.specs.Makes.{IsStorable}
use Rattle.lnfs_locking.proofs.Remade.{storable, absent, one_more}
use Rattle.lnfs_locking.proofs.making.parts_of.Goals as goal

pub lock_of_row-requires : goal.lock_of_row-requires
lock_of_row-requires c =
    let row = c.row-item.result in
    subst (λ (x : LockRow). IsStorable (told.lock_of x)) (sym c.row-item.is)
    (storable told.lock_of c.args.rows.now c.requires.makes (map entry_of c.loop-row.parts.rows.entries) c.loop-row.row-index row c.loop-row-test.true c.loop-row.invariant.rest)

pub key_of-requires : goal.key_of-requires
key_of-requires c =
    let row = c.row-item.result in
    subst (λ (x : LockRow). IsStorable (told.lock_of x)) (sym c.row-item.is)
    (storable told.lock_of c.args.rows.now c.requires.makes (map entry_of c.loop-row.parts.rows.entries) c.loop-row.row-index row c.loop-row-test.true c.loop-row.invariant.rest)

pub enter-requires-clause-level : goal.enter-requires-clause-level
enter-requires-clause-level c = c.in_ok-lock.ensures.level ∙ sym (ap (λ (i : Id). i.level) c.key_of.ensures)

pub enter-requires-clause-absent : goal.enter-requires-clause-absent
enter-requires-clause-absent c =
    let row = c.row-item.result in
    let made = map entry_of c.loop-row.parts.rows.entries in
    let id : id_of c.key_of.result ≡ _ = c.key_of.ensures ∙ ap (λ (x : LockRow). (told.lock_of x).id) c.row-item.is in
    ap (lock_at made) id
    ∙ absent told.lock_of c.args.rows.now c.requires.makes made c.loop-row.row-index row c.loop-row-test.true c.loop-row.invariant.rest

pub loop-row-preserved : goal.loop-row-preserved
loop-row-preserved c =
    let row = c.row-item.result in
    let made = map entry_of c.loop-row.parts.rows.entries in
    let entry = ap (λ (i : Id). lock_of i c.in_ok-lock.lock) c.key_of.ensures ∙ c.in_ok-lock.ensures.row ∙ ap told.lock_of c.row-item.is in
    record {
      rest = one_more told.lock_of c.args.rows.now c.requires.makes made c.loop-row.row-index row c.loop-row-test.true c.loop-row.invariant.rest
          (map entry_of c.enter.new.rows.entries) (c.in_ok-enter.ensures.added ∙ ap (λ (l : Lock). inserted lock_order l made) entry);
      indexed = c.in_ok-enter.ensures.indexed;
    }
