use Rattle.std.proofs.Common.{◌≡◌, ap, ◌∙◌, Bool, Some}
use Rattle.lnfs_calipso.specs.Label.{dom_of}
use Rattle.lnfs_policy.specs.Policy.{Policy}
use Rattle.lnfs_world.specs.World.{Id}
use Rattle.lnfs_world.specs.Leases.{over_at}
use Rattle.lnfs_world.specs.Opens.{conflicts}
use Rattle.lnfs_world.specs.Outcome.{Place}
use Rattle.lnfs_nodes.specs.Acts.{placed}
use Rattle.lnfs_files.proofs.sharing.has_conflict.Goals as goal

pub returns : goal.returns
returns g c = λ p rest t n tells level node.
    let at : Place = placed p c.args.caller.now in
    let told : Id → Bool = over_at rest.clients at.moment in
    let lattice : c.lattice.result.now ≡ c.args.site.now.labels = c.lattice.ensures ∙ ap (λ (x : Policy). x.labels) c.policy.ensures in
    let named = c.node_key.ensures ∙ node in
    c.conflicts.ensures told tells
    ∙ (λ k. conflicts (dom_of (lattice k)) at.subject (Some (record { level = (level k).0; number = c.args.client.number }, c.args.args.now.owner.now)) (named k) (c.share.ensures k) c.args.args.now.deny told c.args.opens.now.opens)
