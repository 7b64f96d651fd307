use Rattle.std.proofs.Common.{◌∙◌}
use Rattle.lnfs_rows.specs.Told.{id_of}
use Rattle.lnfs_sound.proofs.Among.{among_is}
use Rattle.lnfs_sound.proofs.opens.is_among.Goals as goal

pub returns : goal.returns
returns c = c.is_some.ensures ∙ among_is c.args.ids.now (id_of c.args.id) c.place_of.result c.place_of.ensures.found c.place_of.ensures.missing
