use Rattle.lnfs_vault.proofs.vault.VaultOf.from_parts.Goals as goal

pub returns-clause-stopped : goal.returns-clause-stopped
returns-clause-stopped g c = λ none. c.close.ensures.stopped none
