use Rattle.std.proofs.Common.{◌≡◌, true, subst}
use Rattle.std.specs.Prelude.{◌↔◌}
use Rattle.lnfs_sound.specs.Parts.{IsFitSlot}
use Rattle.lnfs_sound.proofs.sessions.slot_fits_at.Goals as goal

pub returns : goal.returns
returns c = subst (λ x. (c.slot_fits.result ≡ true) ↔ IsFitSlot c.args.most x) c.slot_at.ensures c.slot_fits.ensures
