use Rattle.std.proofs.Common.{arith}
use Rattle.lnfs_words.proofs.Digits.{too_large, all_read}
use Rattle.lnfs_words.proofs.numbers.value_of.Goals as goal

pub returns-in_err-checked_mul : goal.returns-in_err-checked_mul
returns-in_err-checked_mul c = rw (too_large c.loop-digit.value c.args.digits.now c.loop-digit.digit-index c.requires c.loop-digit.invariant.0 c.loop-digit-test.true (omega (arith, c.in_err-checked_mul.ensures))) c.from_residual.ensures

pub returns-in_err-value : goal.returns-in_err-value
returns-in_err-value c = rw (too_large c.loop-digit.value c.args.digits.now c.loop-digit.digit-index c.requires c.loop-digit.invariant.0 c.loop-digit-test.true (omega (arith, c.in_err-value.ensures, c.in_ok-checked_mul.ensures, c.from.ensures))) c.from_residual-in_err-value.ensures

pub returns : goal.returns
returns c = all_read c.loop-digit.value c.args.digits.now c.loop-digit.digit-index c.loop-digit.invariant.0 c.loop-digit-test.false c.loop-digit.invariant.1
