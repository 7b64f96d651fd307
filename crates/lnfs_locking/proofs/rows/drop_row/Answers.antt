use Rattle.std.proofs.Common.{refl, sym, subst}
use Rattle.lnfs_counts.proofs.Entries.{removed-entries}
use Rattle.lnfs_locking.specs.Keys.{id_of}
use Rattle.lnfs_locking.specs.Rows.{entry_of, lock_id, AreOwn}
use Rattle.lnfs_locking.proofs.Entries.{key_cmp, keys, own_removed}
use Rattle.lnfs_locking.proofs.rows.drop_row.Goals as goal

pub returns-clause-left : goal.returns-clause-left
returns-clause-left c = removed-entries id_of key_cmp keys entry_of lock_id (λ e. refl) c.args.id c.args.rows.now.entries c.remove.new.self.entries c.remove.ensures.entries c.remove.ensures.updates.1

pub returns-clause-own : goal.returns-clause-own
returns-clause-own c = λ own. subst AreOwn (sym c.remove.ensures.entries) (own_removed c.args.id c.args.rows.now.entries own)
