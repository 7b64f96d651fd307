use Rattle.lnfs_stage.proofs.Telling.{handed_later}
use Rattle.lnfs_commands.proofs.alone.alone.Goals as goal

pub returns-clause-runs : goal.returns-clause-runs
returns-clause-runs g c =
    let j = c.judge-judged.ensures.follows in
    let t = c.tell-told.ensures.does 0 0 _ _ j.does in
    record { follows = record { contents = j.contents; held = j.held; does = c.close.ensures.does 0 0 _ _ t }; handed = handed_later t.stays c.close.ensures.handed }
