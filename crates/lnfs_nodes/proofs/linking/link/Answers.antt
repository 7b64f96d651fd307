use Rattle.std.proofs.lemmas.Bool.{false≢true}
use Rattle.lnfs_site.specs.Site.{site_of}
use Rattle.lnfs_tree.specs.Rows.{id_of}
use Rattle.lnfs_tree.specs.Changed.{link_of}
use Rattle.lnfs_nodes.specs.Acts.{placed}
use Rattle.lnfs_nodes.specs.Told.{cinfo_of}
use Rattle.lnfs_nodes.proofs.Acting.{acts, acts_not}
use Rattle.lnfs_nodes.proofs.Leaving.{leaves_link}
use Rattle.lnfs_nodes.proofs.OfNodes.{of_link}
use Rattle.lnfs_nodes.proofs.linking.link.Goals as goal

pub link-requires : goal.link-requires
link-requires c = record { facts = ((site_of c.args.site.now).dom, c.requires.facts) }

pub returns-in-Ok-link : goal.returns-in-Ok-link
returns-in-Ok-link c = record {
  acts = λ p rest.
      acts (λ r. r) (λ a. cinfo_of a) (placed p c.args.caller.now) c.args.tree.now c.link.new.self _ (λ a w. w) rest (link_of c.args.tree.now (id_of c.in-Ok.ends.node) (id_of c.in-Ok.ends.dir) c.args.name.now c.args.caller.now.moment)
      (c.in-Ok.ensures p rest) (of_link c.args.tree.now (id_of c.in-Ok.ends.node) (id_of c.in-Ok.ends.dir) c.args.name.now c.args.caller.now.moment) (leaves_link c.args.tree.now (id_of c.in-Ok.ends.node) (id_of c.in-Ok.ends.dir) c.args.name.now c.args.caller.now.moment) c.in-Ok-link.info c.in-Ok-link.ensures.does;
  memory = tt;
}

pub returns-in_ok-settled_by-in-Err-link : goal.returns-in_ok-settled_by-in-Err-link
returns-in_ok-settled_by-in-Err-link c = record {
  acts = λ p rest.
      acts_not (λ r. r) (λ a. cinfo_of a) (placed p c.args.caller.now) c.args.tree.now c.link.new.self _ (link_of c.args.tree.now (id_of c.in-Ok.ends.node) (id_of c.in-Ok.ends.dir) c.args.name.now c.args.caller.now.moment)
      (c.in-Ok.ensures p rest) c.in-Err-link.error (λ none. false≢true (c.in_ok-settled_by-in-Err-link.ensures.memory.1 none)) c.in-Err-link.ensures.does c.in_ok-settled_by-in-Err-link.field-0 c.in_ok-settled_by-in-Err-link.ensures.refusal;
  memory = tt;
}
