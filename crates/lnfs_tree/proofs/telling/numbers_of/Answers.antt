use Rattle.std.proofs.Common.{◌++◌, [], ◌∷◌, map, sym, ◌∙◌}
use Rattle.lnfs_tree.specs.Flat.{last_row}
use Rattle.lnfs_tree.proofs.ToldRows.{each_more}
use Rattle.lnfs_tree.proofs.telling.numbers_of.Goals as goal

pub loop-level-preserved : goal.loop-level-preserved
loop-level-preserved c = c.in_ok-push.ensures.items ∙ (λ k. c.loop-level.invariant k ++ c.last_number.ensures k ∷ []) ∙ sym (each_more c.loop-level.level (map last_row c.args.lasts.now.entries))
