use Rattle.lnfs_stage.proofs.Telling.{handed_later, becomes_then}
use Rattle.lnfs_service.proofs.Dealing.{says}
use Rattle.lnfs_dialling.specs.Visits.{MayVisit, IsVisit}
use Rattle.lnfs_dialling.proofs.Visiting.{idle_becomes, visit_late, visited_becomes}
use Rattle.lnfs_dialling.proofs.visit.run_visit.Goals as goal

pub returns-clause-visits : goal.returns-clause-visits
returns-clause-visits g c =
    let j = c.visit-judged.ensures.visits in
    let level = c.args.asked.now.level in
    let t = c.tell-told.ensures.does _ _ _ _ j.does in
    let becomes = becomes_then _ _ _ c.tell-told.ensures.becomes c.close.ensures.becomes in
    record {
      contents = j.contents;
      records = j.records;
      held = j.held;
      does = c.close.ensures.does _ _ _ _ t;
      links = says (λ deals backs h. visited_becomes (MayVisit j.contents level) (IsVisit j.contents level) (visit_late j.contents level) deals backs j.records _ _ becomes h) j.links;
      later = j.later;
    }

pub returns-clause-handed : goal.returns-clause-handed
returns-clause-handed g c =
    let t = c.tell-told.ensures.does _ _ _ _ c.visit-judged.ensures.visits.does in
    handed_later t.stays c.close.ensures.handed

pub returns-clause-idle : goal.returns-clause-idle
returns-clause-idle g c = idle_becomes _ _ _ _ (becomes_then _ _ _ c.tell-told.ensures.becomes c.close.ensures.becomes) c.visit-judged.ensures.idle
