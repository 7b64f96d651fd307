use Rattle.std.proofs.Common.{sym, ap, ◌∙◌, get_or}
use Rattle.lnfs_session.proofs.LastNumbers.{with_last, given_next, fits_next}
use Rattle.lnfs_session.proofs.filing.levels_given.Goals as goal

pub give_last-requires-clause-fits : goal.give_last-requires-clause-fits
give_last-requires-clause-fits c = fits_next c.args.lasts.now c.loop-level.level 0 c.loop-level-test.true c.requires.fits

pub loop-level-preserved : goal.loop-level-preserved
loop-level-preserved c =
    let level = c.loop-level.level in
    let ns = c.args.lasts.now in
    record {
      none = c.in_ok-give_last.ensures.none;
      lasts = c.in_ok-give_last.ensures.lasts ∙ ap (with_last (record { level = level; number = get_or ns level 0 })) c.loop-level.invariant.lasts ∙ sym (given_next ns level 0 c.loop-level-test.true);
    }
