use Rattle.std.proofs.Common.{◌≡◌, true, sym, ap, ◌∙◌, subst}
use Rattle.std.specs.Prelude.{◌↔◌}
use Rattle.lnfs_rows.specs.Told.{session_of}
use Rattle.lnfs_fit.proofs.Mapped.{nth-map}
use Rattle.lnfs_sound.specs.Parts.{IsFitSession}
use Rattle.lnfs_sound.specs.RowsOf.{sessions_of, no_session, nth_session}
use Rattle.lnfs_sound.proofs.sessions.is_fit_at.Goals as goal

pub returns : goal.returns
returns c =
    let row = c.index-rows-place.result in
    let is : nth_session (sessions_of c.args.rows.now) c.args.place ≡ session_of row = nth-map session_of c.args.rows.now c.args.place row no_session c.requires ∙ ap session_of (sym c.index-rows-place.is) in
    subst (λ x. (c.is_fit.result ≡ true) ↔ IsFitSession x) (sym is) c.is_fit.ensures
