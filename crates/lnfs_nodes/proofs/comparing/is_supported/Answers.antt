use Rattle.lnfs_nodes.proofs.Supported.{supported_told}
use Rattle.lnfs_nodes.proofs.comparing.is_supported.Goals as goal

pub returns : goal.returns
returns c = supported_told c.args.mask.now c.supported.result c.law_whole.ensures.0 c.supported.ensures
