use Rattle.std.proofs.Common.{◌≡◌, ◌∙◌, ap}
use Rattle.lnfs_calipso.specs.Label.{dom_of}
use Rattle.lnfs_policy.specs.Policy.{Policy}
use Rattle.lnfs_site.specs.Site.{site_of}
use Rattle.lnfs_operations.specs.Extra.{place_at}
use Rattle.lnfs_engine.specs.Further.{spot_of}
use Rattle.lnfs_locks.specs.Denial.{Asker, is_rival, denial}
use Rattle.lnfs_locks.specs.Lock.{asker}
use Rattle.lnfs_byte_locks.specs.Standing.{counts_by}
use Rattle.lnfs_byte_locks.proofs.LiveLocks.{denial_counts}
use Rattle.lnfs_byte_locks.proofs.InTheWay.{can_be_told}
use Rattle.lnfs_byte_locks.proofs.denials.first_in_way.Goals as goal

pub returns-clause-told : goal.returns-clause-told
returns-clause-told c = can_be_told c.args.store.now c.args.locks.now c.requires.facts _ _ _ _ _ _ c.conflict.ensures

pub returns-clause-denial : goal.returns-clause-denial
returns-clause-denial c = λ n node.
    let who : Asker = asker (place_at (spot_of c.args.at.now)) c.args.client c.args.owner.now in
    let lattice : c.lattice.result.now ≡ c.args.at.now.site.now.labels = c.lattice.ensures ∙ ap (λ (x : Policy). x.labels) c.policy.ensures in
    let named = c.node_key.ensures ∙ node in
    c.conflict.ensures
    ∙ (λ k. denial (is_rival (dom_of (lattice k)) (counts_by (c.opens.ensures k).opens (c.clients.ensures k).clients c.args.at.now.moment) who) (named k) (c.wanted_by.ensures.first k) (c.wanted_by.ensures.last k) (c.wanted_by.ensures.write k) c.args.locks.now.locks)
    ∙ denial_counts c.args.store.now c.args.locks.now c.requires.facts (site_of c.args.at.now.site.now).dom c.args.at.now.moment who n.id _ _ _
