use Rattle.std.proofs.lemmas.List.Elements.{All-push}
use Rattle.lnfs_requests.specs.Fits.{OpFits}
use Rattle.lnfs_client.proofs.requests.put_guarded.Goals as goal

-- the comparison is within its bounds, and what is changed behind it
pub returns-clause-fits : goal.returns-clause-fits
returns-clause-fits g c = λ fits. c.put_change.ensures.fits (rw c.in_ok-push.ensures.items (All-push OpFits c.args.ops.now.items _ fits c.in_ok-guard.ensures.fits))
