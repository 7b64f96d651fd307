use Rattle.std.proofs.Common.{◌≡◌, true, subst}
use Rattle.std.specs.Prelude.{◌↔◌}
use Rattle.lnfs_sound.specs.Parts.{IsFitClient}
use Rattle.lnfs_sound.proofs.clients.is_fit_at.Goals as goal

pub returns : goal.returns
returns c = subst (λ x. (c.is_fit.result ≡ true) ↔ IsFitClient x) c.row_at.ensures c.is_fit.ensures
