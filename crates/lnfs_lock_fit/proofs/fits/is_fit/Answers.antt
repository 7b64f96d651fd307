use Rattle.std.proofs.Common.{sym, ◌∙◌}
use Rattle.std.proofs.lemmas.Bool.{false≢true}
use Rattle.lnfs_lock_fit.proofs.fits.is_fit.Goals as goal

pub returns-then-not-has_numbers : goal.returns-then-not-has_numbers
returns-then-not-has_numbers c = (λ never. absurd (false≢true never), λ fit. sym c.if-not-has_numbers.true ∙ c.has_numbers.ensures.1 fit.numbers)

pub returns-then-not-is_of_site : goal.returns-then-not-is_of_site
returns-then-not-is_of_site c = (λ never. absurd (false≢true never), λ fit. sym c.if-not-is_of_site.true ∙ c.is_of_site.ensures.1 fit.node)

pub returns-then-not-has_ranges : goal.returns-then-not-has_ranges
returns-then-not-has_ranges c = (λ never. absurd (false≢true never), λ fit. sym c.if-not-has_ranges.true ∙ c.has_ranges.ensures.1 fit.ranges)

pub returns : goal.returns
returns c = (
  λ has. record {
    numbers = c.has_numbers.ensures.0 c.if-not-has_numbers.false;
    node = c.is_of_site.ensures.0 c.if-not-is_of_site.false;
    ranges = c.has_ranges.ensures.0 c.if-not-has_ranges.false;
    opening = c.has_opening.ensures.0 has;
  },
  λ fit. c.has_opening.ensures.1 fit.opening,
)
