use Rattle.std.proofs.Common.{◌≡◌, List, All, length, subst}
use Rattle.lnfs_calipso.specs.Label.{Label, IsLabel, IsAntisymmetric, IsOfLabels, dom_of}
use Rattle.lnfs_calipso.specs.Levels.{AllAbove}
use Rattle.lnfs_calipso.proofs.Lattices.{antisymmetric_of, of_labels}
use Rattle.lnfs_calipso.proofs.lattice.Lattice.law_order.Goals as goal

pub returns-clause-antisymmetric : goal.returns-clause-antisymmetric
returns-clause-antisymmetric c =
    subst (λ (labels : List Label). All IsLabel labels → IsAntisymmetric labels (dom_of labels)) c.self.view_is
    (antisymmetric_of c.self.inside.labels.items c.self.invariant.first.apart)

pub returns-clause-labels : goal.returns-clause-labels
returns-clause-labels c =
    subst (λ (labels : List Label). All IsLabel labels → AllAbove labels (length labels) → IsOfLabels labels (dom_of labels)) c.self.view_is
    (of_labels c.self.inside.labels.items c.self.invariant.first.apart)
