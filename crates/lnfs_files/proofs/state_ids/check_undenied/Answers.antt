use Rattle.std.proofs.Common.{◌≡◌, ap, sym, ◌∙◌, Bool, None}
use Rattle.lnfs_calipso.specs.Label.{dom_of}
use Rattle.lnfs_policy.specs.Policy.{Policy}
use Rattle.lnfs_world.specs.World.{Id}
use Rattle.lnfs_world.specs.Leases.{over_at}
use Rattle.lnfs_world.specs.Opens.{conflicts}
use Rattle.lnfs_world.specs.Outcome.{Place}
use Rattle.lnfs_site.specs.Site.{site_of}
use Rattle.lnfs_nodes.specs.Acts.{placed}
use Rattle.lnfs_files.specs.Worlds.{with_opens}
use Rattle.lnfs_files.specs.Uses.{way_of}
use Rattle.lnfs_files.proofs.StateIds.{use_denied, use_left}
use Rattle.lnfs_files.proofs.state_ids.check_undenied.Goals as goal

pub returns-then-conflicts : goal.returns-then-conflicts
returns-then-conflicts g c = λ p rest n tells node.
    let at : Place = placed p c.args.caller.now in
    let told : Id → Bool = over_at rest.clients at.moment in
    let lattice : c.lattice-lattice.result.now ≡ c.args.site.now.labels = c.lattice-lattice.ensures ∙ ap (λ (x : Policy). x.labels) c.policy.ensures in
    let named = c.node_key-node.ensures ∙ node in
    let is = c.conflicts.ensures told tells ∙ (λ k. conflicts (dom_of (lattice k)) at.subject None (named k) (c.bit.ensures k) 0 told c.args.opens.now.opens) in
    use_denied (site_of c.args.site.now) at (with_opens rest c.args.opens.now) n (way_of c.args.way) (sym is ∙ c.if-conflicts.true)

pub returns-else-conflicts : goal.returns-else-conflicts
returns-else-conflicts g c = λ p rest n tells node.
    let at : Place = placed p c.args.caller.now in
    let told : Id → Bool = over_at rest.clients at.moment in
    let lattice : c.lattice-lattice.result.now ≡ c.args.site.now.labels = c.lattice-lattice.ensures ∙ ap (λ (x : Policy). x.labels) c.policy.ensures in
    let named = c.node_key-node.ensures ∙ node in
    let is = c.conflicts.ensures told tells ∙ (λ k. conflicts (dom_of (lattice k)) at.subject None (named k) (c.bit.ensures k) 0 told c.args.opens.now.opens) in
    use_left (site_of c.args.site.now) at (with_opens rest c.args.opens.now) n (way_of c.args.way) (sym is ∙ c.if-conflicts.false)
