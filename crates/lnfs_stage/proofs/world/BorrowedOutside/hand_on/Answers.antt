use Rattle.std.proofs.Common.{rules}
use Rattle.lnfs_stage.proofs.Calling.{hands_first, hands_second}
use Rattle.lnfs_stage.proofs.world.BorrowedOutside.hand_on.Goals as goal

pub returns-in_err-first-clause-does : goal.returns-in_err-first-clause-does
returns-in_err-first-clause-does g c = hands_first _ (search rules) c.in_err-first.ensures c.hand_on-second.ensures

pub returns-clause-does : goal.returns-clause-does
returns-clause-does g c = hands_second _ _ c.hand_on-first.ensures c.hand_on-second.ensures
