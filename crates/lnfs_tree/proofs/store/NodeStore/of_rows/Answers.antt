use Rattle.std.proofs.Common.{map, take, ap, ◌∙◌}
use Rattle.std.proofs.lemmas.List.{take_all}
use Rattle.lnfs_rows.specs.Told.{node_of, entry_of}
use Rattle.lnfs_tree.proofs.Restored.{entry_in, entry_itself, named_bare, named_tree, directory_fits, node_fits, open_next, few_next, named_next}
use Rattle.lnfs_tree.proofs.store.NodeStore.of_rows.Goals as goal

pub loop-entry-init : goal.loop-entry-init
loop-entry-init c = named_bare (map node_of c.args.nodes.now) c.in_ok-store.store c.in_ok-store.ensures.rows c.in_ok-store.ensures.bare

pub node_id-directory-requires : goal.node_id-directory-requires
node_id-directory-requires c = directory_fits (map node_of c.args.nodes.now) c.requires.nodes c.args.entries.now c.requires.names c.loop-entry.entry-index (entry_in c.args.entries.now c.loop-entry.entry-index) c.loop-entry-test.true (entry_itself c.args.entries.now c.loop-entry.entry-index c.loop-entry-test.true)

pub node_id-node-requires : goal.node_id-node-requires
node_id-node-requires c = node_fits (map node_of c.args.nodes.now) c.requires.nodes c.args.entries.now c.requires.names c.loop-entry.entry-index (entry_in c.args.entries.now c.loop-entry.entry-index) c.loop-entry-test.true (entry_itself c.args.entries.now c.loop-entry.entry-index c.loop-entry-test.true)

pub put_entry-requires : goal.put_entry-requires
put_entry-requires c = open_next (map node_of c.args.nodes.now) c.requires.nodes c.args.entries.now c.requires.names c.loop-entry.entry-index (entry_in c.args.entries.now c.loop-entry.entry-index) c.loop-entry-test.true (entry_itself c.args.entries.now c.loop-entry.entry-index c.loop-entry-test.true) c.node_id-directory.result c.node_id-node.result c.node_id-directory.ensures c.node_id-node.ensures c.loop-entry.store c.loop-entry.invariant

pub count_name-requires : goal.count_name-requires
count_name-requires c = few_next (map node_of c.args.nodes.now) c.requires.nodes c.args.entries.now c.requires.names c.loop-entry.entry-index (entry_in c.args.entries.now c.loop-entry.entry-index) c.loop-entry-test.true (entry_itself c.args.entries.now c.loop-entry.entry-index c.loop-entry-test.true) c.node_id-directory.result c.node_id-node.result c.node_id-directory.ensures c.node_id-node.ensures c.loop-entry.store c.loop-entry.invariant c.put_entry.new.self c.in_ok-put_entry.ensures

pub loop-entry-preserved : goal.loop-entry-preserved
loop-entry-preserved c = named_next (map node_of c.args.nodes.now) c.requires.nodes c.args.entries.now c.requires.names c.loop-entry.entry-index (entry_in c.args.entries.now c.loop-entry.entry-index) c.loop-entry-test.true (entry_itself c.args.entries.now c.loop-entry.entry-index c.loop-entry-test.true) c.node_id-directory.result c.node_id-node.result c.node_id-directory.ensures c.node_id-node.ensures c.loop-entry.store c.loop-entry.invariant c.put_entry.new.self c.in_ok-put_entry.ensures c.count_name.new.self c.count_name.ensures

pub returns-clause-nodes : goal.returns-clause-nodes
returns-clause-nodes c = c.loop-entry.invariant.rows

pub returns-clause-entries : goal.returns-clause-entries
returns-clause-entries c = c.loop-entry.invariant.entries ∙ ap (map entry_of) (take_all c.loop-entry.entry-index c.args.entries.now c.loop-entry-test.false)

pub returns-clause-tree : goal.returns-clause-tree
returns-clause-tree c = named_tree (map node_of c.args.nodes.now) (map entry_of (take c.loop-entry.entry-index c.args.entries.now)) c.loop-entry.store c.loop-entry.invariant
