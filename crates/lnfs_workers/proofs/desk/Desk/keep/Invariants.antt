use Rattle.lnfs_history.specs.Entries.{entry}
use Rattle.lnfs_vault.specs.Sealed.{sealed_of}
use Rattle.lnfs_workers.proofs.desk.Desk.keep.Given as goal

-- the entry is the event with the reply that is to be sealed
abbrev pub ghosts-add_entry : goal.ghosts-add_entry
ghosts-add_entry g a = record { entry = entry a.event.now (sealed_of g.M.Mechanism.signing a.unsealed.now) }
