use Rattle.std.proofs.Common.{refl}
use Rattle.lnfs_stage.specs.declared.ending.Ending.TheVariants.{Usage}
use Rattle.lnfs_stage.proofs.Doing.{does_end}
use Rattle.lnfs_stage.proofs.Reading.{follows_does}
use Rattle.lnfs_commands.proofs.perform.judge.Goals as goal

pub returns-in-None-clause-follows : goal.returns-in-None-clause-follows
returns-in-None-clause-follows g c = rw c.in-None.is (follows_does (does_end Usage _ refl))
