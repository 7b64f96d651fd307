use Rattle.std.proofs.Common.{refl}
use Rattle.lnfs_xdr.specs.Canon.{word, long, padded}
use Rattle.lnfs_arguments.specs.SharedTexts.{state_id_text}
use Rattle.lnfs_test_locks.proofs.a_range_is_locked_and_parted.Goals as goal

pub returns-clause-locked : goal.returns-clause-locked
unfolding word long
returns-clause-locked c = refl

pub returns-clause-told : goal.returns-clause-told
unfolding state_id_text word long padded
returns-clause-told c = refl

pub returns-clause-unlocked : goal.returns-clause-unlocked
unfolding word long
returns-clause-unlocked c = refl
