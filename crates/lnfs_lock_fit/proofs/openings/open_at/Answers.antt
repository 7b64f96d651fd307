use Rattle.lnfs_rows.specs.Told.{id_of}
use Rattle.lnfs_lock_fit.proofs.Opened.{is_found, is_missing}
use Rattle.lnfs_lock_fit.proofs.openings.open_at.Goals as goal

pub returns-in-Some : goal.returns-in-Some
returns-in-Some c = is_found c.args.opens.now c.args.ids.now c.requires.ids (id_of c.args.id) c.requires.rise c.in-Some.place c.in-Some.ensures.found.0 c.in-Some.ensures.found.1 _

pub returns-in-None : goal.returns-in-None
returns-in-None c = is_missing c.args.opens.now c.args.ids.now c.requires.ids (id_of c.args.id) c.in-None.ensures.missing
