use Rattle.std.proofs.Common.{inl, refl}
use Rattle.lnfs_stage.proofs.Doing.{does_nothing}
use Rattle.lnfs_stage.proofs.Writing.{takes_none}
use Rattle.lnfs_talk.proofs.driver.show.Goals as goal

pub returns-in-None-clause-does : goal.returns-in-None-clause-does
returns-in-None-clause-does g c = rw c.in-None.is (does_nothing tt (g.O.Outside.seen c.args.outside.now))

pub returns-in-None-clause-shown : goal.returns-in-None-clause-shown
returns-in-None-clause-shown g c = rw c.in-None.is (takes_none (g.O.Outside.seen c.args.outside.now), inl refl)
