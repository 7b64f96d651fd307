use Rattle.lnfs_calls.proofs.Called.{is_call, none_fits, user_fits, user_spelled, is_request}
use Rattle.lnfs_calls.proofs.laws.written.Goals as goal

pub returns : goal.returns
returns c = record { call = is_call; none = none_fits; fits = user_fits; user = user_spelled; request = is_request }
