use Rattle.std.proofs.Common.{rules, arith}
use Rattle.lnfs_client.proofs.Fitting.{session_fits}
use Rattle.lnfs_client.proofs.requests.create_session.Goals as goal

pub returns-clause-fits : goal.returns-clause-fits
returns-clause-fits c = session_fits c.args.client c.args.number c.new-2.result (omega arith) (omega arith) (first_of (cc, search rules))
