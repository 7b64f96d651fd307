use Rattle.std.proofs.Common.{◌≡◌, Option, Some, None, refl, sym, ap, ◌∙◌, option_map}
use Rattle.std.specs.Borrow.{Bor}
use Rattle.std.specs.Option.{option_copied, IfSome}
use Rattle.lnfs_counts.proofs.Entries.{find-entries}
use Rattle.lnfs_locking.specs.declared.keys.LockRow.{LockRow}
use Rattle.lnfs_locking.specs.Keys.{id_of}
use Rattle.lnfs_locking.specs.Rows.{lock_of, entry_of, lock_id, AreOwn}
use Rattle.lnfs_locking.proofs.Entries.{key_cmp, keys, own_at, at}
use Rattle.lnfs_locking.proofs.rows.row_at.Goals as goal

copied : {X : Type 0} (f : LockRow → X) (o : Option (Bor LockRow)) → option_map (λ x. f x.now) o ≡ option_map f (option_copied o)
copied f None = refl
copied f (Some x) = refl

pub returns-clause-row : goal.returns-clause-row
returns-clause-row c =
    copied (lock_of (id_of c.args.id)) c.get.result
    ∙ ap (option_map (lock_of (id_of c.args.id))) c.get.ensures.value
    ∙ sym (find-entries id_of key_cmp keys entry_of lock_id (λ e. refl) c.args.id c.args.rows.now.entries)

pub returns-clause-own : goal.returns-clause-own
returns-clause-own c = λ own. by c.get.result c.get.ensures.value own
  where
    by : (o : Option (Bor LockRow)) → option_copied o ≡ at c.args.id c.args.rows.now.entries → AreOwn c.args.rows.now.entries → IfSome o (λ x. x.now.client.level.0 ≡ c.args.id.level)
    by None is own = tt
    by (Some x) is own = own_at c.args.id x.now c.args.rows.now.entries own (sym is)
