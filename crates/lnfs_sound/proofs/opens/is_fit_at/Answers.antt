use Rattle.std.proofs.Common.{◌≡◌, true, subst}
use Rattle.std.specs.Prelude.{◌↔◌}
use Rattle.lnfs_sound.specs.Parts.{IsFitOpen}
use Rattle.lnfs_sound.proofs.opens.is_fit_at.Goals as goal

pub returns : goal.returns
returns c = subst (λ x. (c.is_fit.result ≡ true) ↔ IsFitOpen x) c.row_at.ensures c.is_fit.ensures
