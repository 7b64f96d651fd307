use Rattle.std.proofs.Common.{Result, Err, sym, ◌∙◌, ap}
use Rattle.std.specs.Result.{result_map_both}
use Rattle.lnfs_world.proofs.Keys.{id_same}
use Rattle.lnfs_tree.specs.declared.node.NodeId.{NodeId}
use Rattle.lnfs_tree.specs.declared.node.TreeError.{TreeError}
use Rattle.lnfs_tree.specs.Rows.{id_of}
use Rattle.lnfs_tree.proofs.Above.{below_file, below_child}
use Rattle.lnfs_tree.proofs.tree.Tree.goes_under.Goals as goal

pub returns-in-Err-NotDir : goal.returns-in-Err-NotDir
returns-in-Err-NotDir c =
    let answered = c.in-Err-NotDir.is ∙ ap (λ (e : TreeError). Err e) c.in-Err-NotDir.field-0-is in
    below_file c.args.self.now c.requires.facts (id_of c.args.node) (id_of c.args.dir) c.requires.directory
    (sym (ap (λ (r : Result NodeId TreeError). result_map_both id_of (λ e. e) r) answered) ∙ c.parent.ensures)

pub returns-in-Ok : goal.returns-in-Ok
returns-in-Ok c =
    below_child c.args.self.now c.requires.facts (id_of c.args.node) (id_of c.args.dir) c.requires.directory c.in-Ok.parent c.in-Ok.ensures
    (id_same (id_of c.in-Ok.parent) (id_of c.args.dir) (sym c.eq.ensures ∙ c.if-eq.true))
