use Rattle.std.proofs.Common.{option_map, ap, ◌∙◌}
use Rattle.lnfs_calipso.specs.Label.{dom_of}
use Rattle.lnfs_world.specs.Opens.{stands_in_way, conflicts}
use Rattle.lnfs_open.specs.Lists.{Lists}
use Rattle.lnfs_open.specs.Listed.{id_of, node_id, owner_of}
use Rattle.lnfs_open.specs.Kept.{lists_in}
use Rattle.lnfs_open.proofs.Sharings.{by_node}
use Rattle.lnfs_open.proofs.opens.Opens.conflicts.Goals as goal

pub is_stopped-requires-clause-found : goal.is_stopped-requires-clause-found
is_stopped-requires-clause-found g c = record { own = c.self.invariant.own; rise = c.self.invariant.indexed.counted.rise; grouped = c.self.invariant.indexed.nodes }

pub returns : goal.returns
returns g c = λ told tells.
    let s = lists_in c.self.inside.rows.entries c.self.inside.counters in
    let dom = dom_of c.args.lattice.now in
    let subject = c.args.subject.0 in
    let own = option_map owner_of c.args.own in
    let access = c.args.access in
    let deny = c.args.deny in
    let node = id_of c.key.result in
    c.is_stopped.ensures told tells
    ∙ by_node node (λ n o. stands_in_way dom subject own n access deny told o) s.opens
    ∙ ap (λ n. conflicts dom subject own n access deny told s.opens) c.key.ensures
    ∙ ap (λ (k : Lists). conflicts dom subject own (node_id c.args.node) access deny told k.opens) c.self.view_is
