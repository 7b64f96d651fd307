use Rattle.lnfs_step.proofs.SignedCalls.{called_signed, made_signed, refused_signed}
use Rattle.lnfs_step.proofs.context_laws.contexts_are_signed.Goals as goal

pub returns : goal.returns
returns c = record {
  called = λ further m p class bytes message call task context read asked is. called_signed further m p class bytes message read call task context asked is;
  made = λ further m p class bytes message call parent assertion read asked. made_signed further m p class bytes message read call parent assertion asked;
  refused = λ further m p class bytes message xid w stat read flavor is. refused_signed further m p class bytes message read xid w stat flavor is;
}
