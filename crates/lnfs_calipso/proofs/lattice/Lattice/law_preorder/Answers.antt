use Rattle.std.proofs.Common.{List, subst}
use Rattle.lnfs_calipso.specs.Label.{Label, IsPreorderWithBottom, dom_of}
use Rattle.lnfs_calipso.proofs.Lattices.{preorder_of}
use Rattle.lnfs_calipso.proofs.lattice.Lattice.law_preorder.Goals as goal

pub returns : goal.returns
returns c = subst (λ (labels : List Label). IsPreorderWithBottom (dom_of labels)) c.self.view_is (preorder_of c.self.inside.labels.items)
