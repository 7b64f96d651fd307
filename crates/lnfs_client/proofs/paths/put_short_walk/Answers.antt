use Rattle.lnfs_client.proofs.Walking.{walked_fits, walked_few}
use Rattle.lnfs_client.proofs.paths.put_short_walk.Goals as goal

pub returns-clause-fits : goal.returns-clause-fits
returns-clause-fits c = walked_fits c.put_walk.result c.args.ops.now.items c.put_walk.new.ops.items c.args.names.now c.requires c.put_walk.ensures

pub returns-clause-few : goal.returns-clause-few
returns-clause-few c = walked_few c.put_walk.result c.args.ops.now.items c.put_walk.new.ops.items c.args.names.now c.requires c.put_walk.ensures
