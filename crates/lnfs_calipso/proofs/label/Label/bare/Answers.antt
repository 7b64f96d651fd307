use Rattle.std.proofs.Common.{◌∙◌, ap, List, ℕ}
use Rattle.lnfs_calipso.specs.Bitmap.{members}
use Rattle.lnfs_calipso.proofs.Marks.{members-none, with_comps}
use Rattle.lnfs_calipso.proofs.label.Label.bare.Goals as goal

pub returns : goal.returns
returns c =
    ap (λ (words : List ℕ). with_comps c.args.doi c.args.sens (members words)) c.new.ensures.items ∙ ap (with_comps c.args.doi c.args.sens) members-none
