use Rattle.std.proofs.Common.{length}
use Rattle.lnfs_workers.proofs.pool.serve_all.Given as goal

-- the history is the one that was just opened, with a place for each link, and the site is the vault's
abbrev pub ghosts-serve_named : goal.ghosts-serve_named
ghosts-serve_named g a = record { table = a.opened.table.shared.table_id; links = length a.links.items; policy = a.vault.policy }
