use Rattle.std.proofs.Common.{◌∙◌}
use Rattle.lnfs_stage.proofs.Doing.{put_as}
use Rattle.lnfs_stage.proofs.Reading.{follows_does}
use Rattle.lnfs_commands.proofs.perform.obey.Goals as goal

pub returns-in-Help-clause-follows : goal.returns-in-Help-clause-follows
returns-in-Help-clause-follows g c = rw c.in-Help.is (follows_does (put_as (c.as_bytes.ensures.value ∙ c.help.ensures) c.put_text.ensures.does))

pub returns-in-Version-clause-follows : goal.returns-in-Version-clause-follows
returns-in-Version-clause-follows g c = rw c.in-Version.is (follows_does (put_as (c.as_bytes-in-Version.ensures.value ∙ c.version.ensures) c.put_text-in-Version.ensures.does))
