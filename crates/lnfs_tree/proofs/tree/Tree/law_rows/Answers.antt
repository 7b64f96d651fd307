use Rattle.lnfs_tree.proofs.Restored.{own_rows}
use Rattle.lnfs_tree.proofs.tree.Tree.law_rows.Goals as goal

pub returns : goal.returns
returns c = λ dom facts few. own_rows c.self.inside.store c.self.inside.lasts.entries c.args.self.now c.self.view_is c.law_storable.ensures c.law_levels.ensures c.law_numbers.ensures (c.makes_tree.ensures dom c.args.self.now facts) few
