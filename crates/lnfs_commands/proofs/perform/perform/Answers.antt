use Rattle.std.proofs.Common.{sym}
use Rattle.lnfs_stage.proofs.Reading.{follows_does}
use Rattle.lnfs_commands.proofs.perform.perform.Goals as goal

pub returns-in-Check : goal.returns-in-Check
returns-in-Check g c = rw c.in-Check.is (follows_does c.check.ensures)

pub returns-in-Migrate : goal.returns-in-Migrate
returns-in-Migrate g c = rw c.in-Migrate.is (follows_does c.migrate.ensures)

pub returns-in-Generate : goal.returns-in-Generate
returns-in-Generate g c = rw c.in-Generate.is (follows_does c.serve_generated.ensures)

pub returns-in-Translate : goal.returns-in-Translate
returns-in-Translate g c = rw (c.in-Translate.is, sym c.deref.ensures.value) (follows_does c.translate.ensures)
