use Rattle.lnfs_stage.proofs.Telling.{becomes_then, handed_later}
use Rattle.lnfs_checkpointing.proofs.Keeping.{saved_later}
use Rattle.lnfs_checkpointing.proofs.saving.run_saving.Goals as goal

pub returns-clause-saves : goal.returns-clause-saves
returns-clause-saves g c =
    let j = c.judge-judged.ensures in
    let f = j.follows in
    let t = c.tell-told.ensures.does 0 0 _ _ f.does in
    record {
      follows = record { contents = f.contents; held = f.held; does = c.close.ensures.does 0 0 _ _ t };
      kept = saved_later _ _ _ (becomes_then _ _ _ c.tell-told.ensures.becomes c.close.ensures.becomes) j.kept;
    }

pub returns-clause-handed : goal.returns-clause-handed
returns-clause-handed g c =
    let t = c.tell-told.ensures.does 0 0 _ _ c.judge-judged.ensures.follows.does in
    handed_later t.stays c.close.ensures.handed
