use Rattle.lnfs_site.specs.Site.{site_of}
use Rattle.lnfs_checkpoint.specs.Checkpoint.{digest_of}
use Rattle.lnfs_checkpoint.specs.Takes.{told_of}
use Rattle.lnfs_checkpointing.proofs.Few.{told_few}
use Rattle.lnfs_checkpointing.proofs.resuming.server_of.Goals as goal

pub returns-in-Ok-clause-few : goal.returns-in-Ok-clause-few
returns-in-Ok-clause-few g c = told_few (site_of c.args.policy).levels (digest_of c.args.policy) (told_of c.in-Ok.server) c.args.bytes.now c.in-Ok.ensures.takes.0

pub returns-in-Err-clause-server : goal.returns-in-Err-clause-server
returns-in-Err-clause-server g c = (c.in-Err.error, c.stop_of.ensures, c.in-Err.ensures.takes)
