use Rattle.std.proofs.Common.{sym}
use Rattle.lnfs_words.proofs.Splits.{split_found, split_none}
use Rattle.lnfs_words.proofs.parts.Parts.next.Goals as goal

pub returns-in-Some : goal.returns-in-Some
returns-in-Some c = rw (← c.self.view_is, c.in_ok-rest.was) (split_found c.self.inside.separator c.in_ok-rest.rest.now c.in-Some.place (sym c.in-Some.ensures))

pub returns-in-None : goal.returns-in-None
returns-in-None c = rw (← c.self.view_is, c.in_ok-rest.was) (split_none c.self.inside.separator c.in_ok-rest.rest.now (sym c.in-None.ensures))
