use Rattle.std.proofs.Common.{◌∙◌, ap}
use Rattle.lnfs_world.specs.World.{Stored}
use Rattle.lnfs_operations.specs.SetAttr.{same_spelling}
use Rattle.lnfs_world.specs.Given.{stored_of}
use Rattle.lnfs_files.proofs.labelling.shows.Goals as goal

pub returns : goal.returns
returns c = λ n p holds. c.is_spelled.ensures ∙ ap (λ (s : Stored). same_spelling s (stored_of c.args.spelled.now)) (c.label_shown.ensures n p holds)
