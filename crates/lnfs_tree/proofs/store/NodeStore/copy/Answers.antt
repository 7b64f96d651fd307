use Rattle.std.proofs.Common.{◌≡◌, ◌+◌, ◌≤◌, ℕ, List, [], length, Option, sym, ◌∙◌, ap, subst}
use Rattle.lnfs_world.specs.Rows.{updated}
use Rattle.lnfs_world.specs.Effects.{read_at, written}
use Rattle.lnfs_tree.specs.declared.store.Node.{Node}
use Rattle.lnfs_tree.specs.Rows.{id_of}
use Rattle.lnfs_tree.specs.Held.{is_node, node_at, bytes_in, with_bytes, with_names_step}
use Rattle.lnfs_tree.proofs.PutBack.{other_kept, put_back, put_written, on_err}
use Rattle.lnfs_tree.proofs.store.NodeStore.copy.Goals as goal

pub copy_to-copied-requires-clause-there : goal.copy_to-copied-requires-clause-there
copy_to-copied-requires-clause-there c = subst (λ (o : Option Node). c.args.source + c.args.count ≤ length (bytes_in o)) (sym (ap (λ (ns : List Node). node_at ns (id_of c.args.from)) c.take_bytes-bytes.ensures.nodes ∙ other_kept (id_of c.args.to) (id_of c.args.from) [] c.args.self.now c.requires.others)) c.requires.there

pub returns-in_err-copied-clause-err : goal.returns-in_err-copied-clause-err
returns-in_err-copied-clause-err c = on_err c.from_residual.result _ (
    c.set_bytes.ensures
    ∙ ap (λ (ns : List Node). updated (is_node (id_of c.args.to)) (with_bytes c.copy_to-copied.new.bytes) ns) c.take_bytes-bytes.ensures.nodes
    ∙ ap (λ (xs : List ℕ). updated (is_node (id_of c.args.to)) (with_bytes xs) (updated (is_node (id_of c.args.to)) (with_bytes []) c.args.self.now)) (c.in_err-copied.ensures.err ∙ c.take_bytes-bytes.ensures.bytes)
    ∙ put_back (id_of c.args.to) c.args.self.now)

pub returns-clause-ok : goal.returns-clause-ok
returns-clause-ok c =
    let here = ap (λ (ns : List Node). node_at ns (id_of c.args.from)) c.take_bytes-bytes.ensures.nodes ∙ other_kept (id_of c.args.to) (id_of c.args.from) [] c.args.self.now c.requires.others in
    c.step_names.ensures
    ∙ ap (λ (ns : List Node). updated (is_node (id_of c.args.to)) (with_names_step c.args.at) ns) (
    c.set_bytes.ensures
    ∙ ap (λ (ns : List Node). updated (is_node (id_of c.args.to)) (with_bytes c.copy_to-copied.new.bytes) ns) c.take_bytes-bytes.ensures.nodes
    ∙ ap (λ (xs : List ℕ). updated (is_node (id_of c.args.to)) (with_bytes xs) (updated (is_node (id_of c.args.to)) (with_bytes []) c.args.self.now)) (
    c.in_ok-copied.ensures.ok
    ∙ ap (λ (o : Option Node). written c.args.target (read_at c.args.source c.args.count (bytes_in o)) c.take_bytes-bytes.result) here
    ∙ ap (λ (xs : List ℕ). written c.args.target (read_at c.args.source c.args.count (bytes_in (node_at c.args.self.now (id_of c.args.from)))) xs) c.take_bytes-bytes.ensures.bytes))
    ∙ put_written (id_of c.args.to) c.args.target (read_at c.args.source c.args.count (bytes_in (node_at c.args.self.now (id_of c.args.from)))) c.args.at c.args.self.now
