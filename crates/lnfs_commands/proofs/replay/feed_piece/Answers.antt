use Rattle.std.proofs.Common.{rules}
use Rattle.lnfs_commands.proofs.Replaying.{feeds_stop, feeds_short}
use Rattle.lnfs_commands.proofs.replay.feed_piece.Goals as goal

pub returns-in_err-count : goal.returns-in_err-count
returns-in_err-count g c = feeds_stop _ _ _ (search rules) c.in_err-count.ensures

pub returns-in_err-feed : goal.returns-in_err-feed
returns-in_err-feed g c = feeds_short _ _ c.in_ok-count.ensures _ (search rules)
