use Rattle.lnfs_signed_calls.proofs.Calling.{created, asked_in, ended}
use Rattle.lnfs_signed_calls.proofs.laws.callers.Goals as goal

pub returns : goal.returns
returns g c = let m = g.M.Mechanism.signing in let sized = g.M.Mechanism.sized in record {
  created = λ p parent xid a level good known lt fits read cleared. created m p parent good sized known xid lt a level fits read cleared;
  asked = λ p parent xid h arguments good known lt fits under cleared within. asked_in m p parent good sized known xid lt h fits under cleared arguments within;
  ended = λ p parent xid h good known lt fits under cleared. ended m p parent good sized known xid lt h fits under cleared;
}
