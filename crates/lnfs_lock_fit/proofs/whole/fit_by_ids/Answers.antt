use Rattle.std.proofs.Common.{sym, ◌∙◌, arith}
use Rattle.std.proofs.lemmas.List.{length-map}
use Rattle.std.proofs.lemmas.Bool.{false≢true}
use Rattle.lnfs_world.specs.World.{Open}
use Rattle.lnfs_rows.specs.World.{world_of}
use Rattle.lnfs_site.specs.Site.{site_of}
use Rattle.lnfs_fit.proofs.Mapped.{ids_rise}
use Rattle.lnfs_fit.proofs.Tail.{told_as}
use Rattle.lnfs_lock_rows.specs.Told.{lock_of}
use Rattle.lnfs_lock_fit.specs.RowsOf.{locks_of}
use Rattle.lnfs_lock_fit.proofs.OfLocks.{of_site, to_locks, locks_given, locks_few, lock_fits}
use Rattle.lnfs_lock_fit.proofs.whole.fit_by_ids.Goals as goal

pub returns-then-not-ids_fit : goal.returns-then-not-ids_fit
returns-then-not-ids_fit c = (
  λ never. absurd (false≢true never),
  λ fit. sym c.if-not-ids_fit.true ∙ c.ids_fit.ensures.1 (locks_given (site_of c.args.site.now) (world_of c.args.lists.now) c.args.last.now (locks_of c.args.rows.now) c.args.ids.now c.requires.ids fit),
)

pub few_of_a_level-requires : goal.few_of_a_level-requires
few_of_a_level-requires c = (c.ids_fit.ensures.0 c.if-not-ids_fit.false).bounds

pub returns-then-not-few : goal.returns-then-not-few
returns-then-not-few c = (
  λ never. absurd (false≢true never),
  λ fit. sym c.if-not-few.true ∙ c.in_ok-few.ensures.1 (locks_few (site_of c.args.site.now) (world_of c.args.lists.now) c.args.last.now (locks_of c.args.rows.now) c.args.ids.now c.requires.ids fit),
)

pub each_fits-requires-clause-rise : goal.each_fits-requires-clause-rise
each_fits-requires-clause-rise c = ids_rise (λ (o : Open). o.id) (world_of c.args.lists.now).opens c.args.open_ids.now c.requires.open_ids c.requires.sound.facts.opens.rise

pub returns-then-not-each_fits : goal.returns-then-not-each_fits
returns-then-not-each_fits c = (
  λ never. absurd (false≢true never),
  λ fit. sym c.if-not-each_fits.true ∙ c.each_fits.ensures.1 (λ k k_in. lock_fits (site_of c.args.site.now) (world_of c.args.lists.now) c.args.last.now (locks_of c.args.rows.now) c.args.ids.now c.requires.ids fit k (omega (arith, length-map c.args.rows.now lock_of, k_in))),
)

pub ranges_are_few-requires : goal.ranges_are_few-requires
ranges_are_few-requires c = of_site (site_of c.args.site.now) (world_of c.args.lists.now) c.args.last.now (locks_of c.args.rows.now) c.args.ids.now c.requires.ids (c.ids_fit.ensures.0 c.if-not-ids_fit.false)

pub returns-then-not-ranges_few : goal.returns-then-not-ranges_few
returns-then-not-ranges_few c = (
  λ never. absurd (false≢true never),
  λ fit. sym c.if-not-ranges_few.true ∙ c.in_ok-ranges_few.ensures.1 fit.facts.ranges,
)

pub doubles_differ-requires-clause-rise : goal.doubles_differ-requires-clause-rise
doubles_differ-requires-clause-rise c = ids_rise (λ (o : Open). o.id) (world_of c.args.lists.now).opens c.args.open_ids.now c.requires.open_ids c.requires.sound.facts.opens.rise

pub returns : goal.returns
returns c =
    let len = length-map c.args.rows.now lock_of in
    told_as c.doubles_differ.result _ _ c.doubles_differ.ensures
    (λ apart. to_locks (site_of c.args.site.now) (world_of c.args.lists.now) c.args.last.now (locks_of c.args.rows.now) c.args.ids.now c.requires.ids (c.ids_fit.ensures.0 c.if-not-ids_fit.false) (c.in_ok-few.ensures.0 c.if-not-few.false)
    (λ k k_in. c.each_fits.ensures.0 c.if-not-each_fits.false k (omega (arith, len, k_in))) (c.in_ok-ranges_few.ensures.0 c.if-not-ranges_few.false) apart)
    (λ fit. fit.facts.apart)
