use Rattle.std.proofs.Common.{◌≡◌, ◌∙◌, sym, ap, true, false}
use Rattle.lnfs_world.specs.World.{same_id}
use Rattle.lnfs_world.specs.Tree.{root}
use Rattle.lnfs_world.proofs.Keys.{id_same, id_turned}
use Rattle.lnfs_site.specs.Site.{site_of}
use Rattle.lnfs_tree.specs.Rows.{id_of}
use Rattle.lnfs_files.proofs.RaiseAsked.{of_root, of_other}
use Rattle.lnfs_files.proofs.labelling.raise_denied.Goals as goal

pub returns-then-eq : goal.returns-then-eq
returns-then-eq c = λ n holds.
    let same : same_id (id_of c.args.held.now.id) (id_of c.root.result) ≡ true = sym c.eq.ensures ∙ c.if-eq.true in
    c.denied.ensures
    ∙ of_root (site_of c.args.site.now) c.args.tree.now c.requires n c.args.held.now c.args.subject.0 c.args.new.0 holds (id_same (id_of c.args.held.now.id) (id_of c.root.result) same ∙ c.root.ensures)

pub returns-else-eq : goal.returns-else-eq
returns-else-eq c = λ n holds.
    let apart : same_id (id_of c.args.held.now.id) (id_of c.root.result) ≡ false = sym c.eq.ensures ∙ c.if-eq.false in
    c.denied-else-eq.ensures
    ∙ of_other (site_of c.args.site.now) c.args.tree.now c.requires n c.args.held.now c.args.subject.0 c.args.new.0 holds
    (id_turned root (id_of c.args.held.now.id) ∙ ap (same_id (id_of c.args.held.now.id)) (sym c.root.ensures) ∙ apart)
