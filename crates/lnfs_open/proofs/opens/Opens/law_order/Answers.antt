use Rattle.std.proofs.Common.{subst}
use Rattle.lnfs_world.specs.Rows.{Rising}
use Rattle.lnfs_world.specs.World.{open_order}
use Rattle.lnfs_open.specs.Lists.{Lists}
use Rattle.lnfs_open.proofs.opens.Opens.law_order.Goals as goal

pub returns : goal.returns
returns c = subst (λ (k : Lists). Rising open_order k.opens) c.self.view_is c.self.invariant.indexed.counted.rise
