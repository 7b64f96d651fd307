use Rattle.std.proofs.Common.{refl, sym, ap, subst, ◌∙◌}
use Rattle.std.specs.Prelude.{map}
use Rattle.lnfs_counts.proofs.Entries.{inserted-entries}
use Rattle.lnfs_locking.specs.Keys.{id_of}
use Rattle.lnfs_locking.specs.Rows.{entry_of, lock_id, AreOwn}
use Rattle.lnfs_locking.proofs.Entries.{key_cmp, keys, own_inserted}
use Rattle.lnfs_locking.proofs.rows.add_row.Goals as goal

pub returns-clause-added : goal.returns-clause-added
returns-clause-added c =
    ap (map entry_of) c.in_ok-insert.ensures.entries
    ∙ inserted-entries id_of key_cmp keys entry_of lock_id (λ e. refl) c.args.id c.args.row c.args.rows.now.entries

pub returns-clause-own : goal.returns-clause-own
returns-clause-own c = λ here own. subst AreOwn (sym c.in_ok-insert.ensures.entries) (own_inserted c.args.id c.args.row c.args.rows.now.entries here own)
