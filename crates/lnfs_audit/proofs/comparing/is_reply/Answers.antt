use Rattle.std.proofs.lemmas.Bool.Decides.{Decides-eqb}
use Rattle.std.proofs.lemmas.Slice.Eq.{slice_eq-Decides}
use Rattle.lnfs_audit.proofs.comparing.is_reply.Goals as goal

pub returns : goal.returns
returns c = slice_eq-Decides Decides-eqb c.args.found.now c.args.reply.now c.eq.result c.eq.ensures
