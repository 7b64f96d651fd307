use Rattle.lnfs_gss3.specs.Mechanism.{keyed, plain}
use Rattle.lnfs_signed_calls.proofs.Accepting.{equality_accepts}
use Rattle.lnfs_signed_calls.proofs.laws.accepting.Goals as goal

pub returns : goal.returns
returns c = record { keyed = equality_accepts keyed; plain = equality_accepts plain }
