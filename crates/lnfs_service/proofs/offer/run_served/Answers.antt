use Rattle.lnfs_stage.proofs.Telling.{handed_later, becomes_then}
use Rattle.lnfs_service.specs.Handed.{IsSpelled, IsService}
use Rattle.lnfs_service.proofs.Dealing.{says}
use Rattle.lnfs_service.proofs.Handing.{idle_becomes, served_becomes}
use Rattle.lnfs_service.proofs.offer.run_served.Goals as goal

pub returns-clause-offers : goal.returns-clause-offers
returns-clause-offers g c =
    let j = c.offer-judged.ensures.offers in
    let t = c.tell-told.ensures.does _ _ _ _ j.does in
    let becomes = becomes_then _ _ _ c.tell-told.ensures.becomes c.close.ensures.becomes in
    record {
      policy = j.policy;
      session = j.session;
      held = j.held;
      does = c.close.ensures.does _ _ _ _ t;
      links = says (λ deals backs h. served_becomes (IsSpelled j.policy) (IsService (g.C.Clock.may c.args.clock.now) j.policy) _ deals backs j.session _ _ becomes h) j.links;
      later = j.later;
    }

pub returns-clause-handed : goal.returns-clause-handed
returns-clause-handed g c =
    let t = c.tell-told.ensures.does _ _ _ _ c.offer-judged.ensures.offers.does in
    handed_later t.stays c.close.ensures.handed

pub returns-clause-idle : goal.returns-clause-idle
returns-clause-idle g c = idle_becomes _ _ _ _ (becomes_then _ _ _ c.tell-told.ensures.becomes c.close.ensures.becomes) c.offer-judged.ensures.idle
