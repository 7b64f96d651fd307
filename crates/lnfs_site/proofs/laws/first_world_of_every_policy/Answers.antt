use Rattle.lnfs_site.proofs.FirstLines.{enforced, limited, has_root, in_order, counted}
use Rattle.lnfs_site.proofs.laws.first_world_of_every_policy.Goals as goal

pub returns : goal.returns
returns c = record { enforcing = λ text p e is. enforced text p e is; limited = λ text p e is. limited text p e is; root = λ text p e. has_root text p e; order = λ text p e. in_order text p e; count = λ text p e. counted text p e }
