use Rattle.lnfs_signed_calls.proofs.Parts.{front, size, data_size}
use Rattle.lnfs_signed_calls.proofs.laws.parts.Goals as goal

pub returns : goal.returns
returns g c = let m = g.M.Mechanism.signing in let header = c.args.header.now in let arguments = c.args.arguments.now in record {
  front = λ parent. front m parent header arguments;
  length = λ parent. size m g.M.Mechanism.sized parent header arguments;
  asked = λ parent xid handle. data_size m g.M.Mechanism.sized parent xid handle arguments;
}
