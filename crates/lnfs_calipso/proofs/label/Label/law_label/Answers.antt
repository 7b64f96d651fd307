use Rattle.std.proofs.Common.{subst, arith}
use Rattle.lnfs_calipso.specs.Label.{Label, IsLabel}
use Rattle.lnfs_calipso.specs.Bitmap.{is_marked}
use Rattle.lnfs_calipso.proofs.Members.{compartments-are}
use Rattle.lnfs_calipso.proofs.label.Label.law_label.Goals as goal

pub returns : goal.returns
returns c =
    subst (λ (l : Label). IsLabel l) c.self.view_is (record { doi = omega arith; sens = omega arith; comps = compartments-are (is_marked c.self.inside.words.items) })
