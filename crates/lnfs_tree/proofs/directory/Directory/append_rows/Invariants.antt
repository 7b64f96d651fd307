use Rattle.std.proofs.Common.{◌≡◌, ◌++◌, map}
use Rattle.lnfs_rows.specs.Told.{entry_of}
use Rattle.lnfs_tree.specs.Rows.{id_of, row_of_entry}
use Rattle.lnfs_tree.proofs.directory.Directory.append_rows.Given as goal

-- the names so far
abbrev pub invariant-loop-entry : goal.invariant-loop-entry
invariant-loop-entry l = map entry_of l.rows.items ≡ map entry_of l.fn.rows.items ++ map (λ e. row_of_entry (id_of l.directory) e.now) l.yielded
