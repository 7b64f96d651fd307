use Rattle.std.proofs.Common.{List, not, sym, ◌∙◌, ap, subst, refl}
use Rattle.std.specs.Prelude.{filter}
use Rattle.lnfs_world.specs.Rows.{updated}
use Rattle.lnfs_tree.specs.declared.store.Node.{Node}
use Rattle.lnfs_tree.specs.Rows.{id_of}
use Rattle.lnfs_tree.specs.Held.{is_node, IsOpenTo, with_name, with_names_step}
use Rattle.lnfs_tree.proofs.NewNodes.{updated-inserted, out-inserted, apart_new, open_still, new_there}
use Rattle.lnfs_tree.proofs.store.NodeStore.make.Goals as goal

pub add_name-requires-clause-open : goal.add_name-requires-clause-open
add_name-requires-clause-open c = subst (λ (ns : List Node). IsOpenTo ns (id_of c.args.dir) c.args.cookie c.args.name.now) (sym c.in_ok-insert.ensures.ok) (open_still c.args.node c.args.self.now (id_of c.args.dir) c.args.cookie c.args.name.now c.requires.open c.requires.new)

pub returns-in-Ok-clause-ok : goal.returns-in-Ok-clause-ok
returns-in-Ok-clause-ok c =
    let other = apart_new c.args.self.now (id_of c.args.dir) (id_of c.args.node.id) c.requires.open.node c.requires.open.found c.requires.new in
    c.step_names.ensures
    ∙ ap (λ (ns : List Node). updated (is_node (id_of c.args.dir)) (with_names_step c.args.at) ns) (
    c.in-Ok.ensures.ok
    ∙ ap (λ (ns : List Node). updated (is_node (id_of c.args.dir)) (with_name c.args.cookie c.args.name.now c.args.node.id) ns) c.in_ok-insert.ensures.ok
    ∙ updated-inserted c.args.node (with_name c.args.cookie c.args.name.now c.args.node.id) (id_of c.args.dir) (λ m. refl) other c.args.self.now c.requires.new)
    ∙ updated-inserted c.args.node (with_names_step c.args.at) (id_of c.args.dir) (λ m. refl) other (updated (is_node (id_of c.args.dir)) (with_name c.args.cookie c.args.name.now c.args.node.id) c.args.self.now) (new_there c.args.self.now (id_of c.args.dir) (id_of c.args.node.id) (with_name c.args.cookie c.args.name.now c.args.node.id) (λ m. refl) c.requires.new)

pub returns-in-Err-clause-err : goal.returns-in-Err-clause-err
returns-in-Err-clause-err c =
    c.remove.ensures
    ∙ ap (λ (ns : List Node). filter (λ m. not (is_node (id_of c.args.node.id) m)) ns) (c.in-Err.ensures.err ∙ c.in_ok-insert.ensures.ok)
    ∙ out-inserted c.args.node c.args.self.now c.requires.new
