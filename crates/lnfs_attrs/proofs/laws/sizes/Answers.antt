use Rattle.lnfs_attrs.proofs.Sizes.{listed_narrow, settable_narrow, values_short, answer_small}
use Rattle.lnfs_attrs.proofs.laws.sizes.Goals as goal

pub returns : goal.returns
returns c = record {
  listed = λ b fits all. listed_narrow b fits all;
  settable = λ b fits all. settable_narrow b fits all;
  values = λ asked v inner fits. values_short asked v inner fits;
  answer = λ a is. answer_small a is;
}
