use Rattle.std.proofs.Common.{rules}
use Rattle.lnfs_service.proofs.Handing.{idle_same}
use Rattle.lnfs_service.proofs.Offering.{offers_stopped, offers_served}
use Rattle.lnfs_service.proofs.offer.offer.Goals as goal

pub returns-in_err-policy-clause-offers : goal.returns-in_err-policy-clause-offers
returns-in_err-policy-clause-offers g c = offers_stopped _ _ _ _ _ _ _ (search rules) c.in_err-policy.ensures

pub returns-in_err-policy-clause-idle : goal.returns-in_err-policy-clause-idle
returns-in_err-policy-clause-idle g c = idle_same _ _

pub returns-clause-offers : goal.returns-clause-offers
returns-clause-offers g c = offers_served _ _ _ _ c.in_ok-policy.ensures c.serve_new.ensures.serves
