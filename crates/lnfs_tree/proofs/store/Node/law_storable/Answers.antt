use Rattle.lnfs_tree.proofs.Restored.{storable_node}
use Rattle.std.proofs.Common.{◌≤◌, arith}
use Rattle.lnfs_world.specs.declared.numbers.TheConstants.{LAST_NUMBER}
use Rattle.lnfs_tree.proofs.store.Node.law_storable.Goals as goal

pub returns : goal.returns
returns c =
    let number : c.args.self.now.id.number ≤ LAST_NUMBER = omega arith in
    storable_node c.args.self.now number _ c.len-size.ensures.value c.len-size.ensures.limit
