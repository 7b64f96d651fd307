use Rattle.lnfs_operations.proofs.BitmapLaws.{bitmap_itself, bitmap_told, bitmap_has, bitmap_fits}
use Rattle.lnfs_operations.proofs.Answering.{answer_fits, handle_length}
use Rattle.lnfs_operations.proofs.laws.attributes_are_told.Goals as goal

pub returns : goal.returns
returns c = record {
  itself = λ b fits. bitmap_itself b fits;
  told = λ b fits test has. bitmap_told b fits test has;
  has = λ test n lt. bitmap_has test n lt;
  fits = λ test. bitmap_fits test;
  answer = λ asked inner view fits. answer_fits asked inner view fits;
  handle = λ i. handle_length i;
}
