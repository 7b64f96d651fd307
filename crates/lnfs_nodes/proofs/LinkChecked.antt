-- LINK behind its own tests: what is left are those of the tree.
use Rattle.std.proofs.Common.{◌≡◌, ap, sym, ◌∙◌, ℕ, true, false, not, List, [], ◌∷◌, Some, None, Ok, Err, nat_lt, arith}
use Rattle.lnfs_arguments.specs.declared.statuses.TheConstants.{NFS4ERR_ISDIR, NFS4ERR_MLINK, NFS4ERR_NOSPC}
use Rattle.lnfs_world.specs.declared.numbers.TheConstants.{MOST_NAMES}
use Rattle.lnfs_world.specs.World.{Node, World, is_directory}
use Rattle.lnfs_world.specs.Names.{names_of}
use Rattle.lnfs_world.specs.Change.{Touch, Link}
use Rattle.lnfs_world.specs.Effects.{attributes_changed, name_added, next_entry, has_cookie}
use Rattle.lnfs_world.specs.Outcome.{Site, Place}
use Rattle.lnfs_monitor.specs.Rules.{Change as ChangeNames, Drop}
use Rattle.lnfs_operations.specs.declared.Gate.TheVariants.{Namespace, Quota}
use Rattle.lnfs_operations.specs.declared.Refusal.{Refusal}
use Rattle.lnfs_operations.specs.Chain.{refuse, done, demand}
use Rattle.lnfs_operations.specs.NewNames.{changed, where_new}
use Rattle.lnfs_operations.specs.Link.{link}
use Rattle.lnfs_tree.specs.Rows.{Rows, id_of, kind_of}
use Rattle.lnfs_tree.specs.Changed.{link_of}
use Rattle.lnfs_nodes.specs.Trees.{with_tree, held_in, Holds, IsHeld, denial, refusal_of}
use Rattle.lnfs_nodes.specs.Told.{naming, no_directory, follows, cinfo_of}
use Rattle.lnfs_nodes.specs.declared.held.Held.{Held}
use Rattle.lnfs_nodes.proofs.Tests.{passed, barred, allowed}
use Rattle.lnfs_nodes.proofs.Refusing.{handle_off, denied}
use Rattle.lnfs_nodes.proofs.Peeling.{named_on, named_off, about_node, is_one, directory_on, directory_off}

-- where a name or a node is wanting
module _ (site : Site) (at : Place) (rest : World) (t : Rows) (name : List ℕ) where
  pub name_off : (why : Refusal) → Some (refusal_of why) ≡ naming name → link site name at (with_tree rest t) ≡ refuse at why.gate why.status
  name_off why e = named_off at name _ why e

  pub node_off : None ≡ naming name → (why : Refusal) → IsHeld t (held_in t.nodes at.saved) (Err why) → link site name at (with_tree rest t) ≡ refuse at why.gate why.status
  node_off well why held = named_on at name _ well ∙ handle_off at rest t at.saved _ why held

  module _ (well : None ≡ naming name) (node : Held) (node_is : IsHeld t (held_in t.nodes at.saved) (Ok node)) where
    pub dir_off : (why : Refusal) → IsHeld t (held_in t.nodes at.current) (Err why) → link site name at (with_tree rest t) ≡ refuse at why.gate why.status
    dir_off why held =
        named_on at name _ well
        ∙ about_node (refuse at why.gate why.status) at rest t at.saved _ node node_is (λ n holds. handle_off at rest t at.current _ why held)

    -- what is to be named is a directory
    pub kind_off : (dir : Held) → IsHeld t (held_in t.nodes at.current) (Ok dir) → is_directory (kind_of node.facts.kind) ≡ true → (why : Refusal) → why ≡ record { gate = Namespace; status = NFS4ERR_ISDIR } → link site name at (with_tree rest t) ≡ refuse at why.gate why.status
    kind_off dir dir_is is_one why is =
        named_on at name _ well
        ∙ about_node (refuse at why.gate why.status) at rest t at.saved _ node node_is (λ n holds_n.
        about_node (refuse at why.gate why.status) at rest t at.current _ dir dir_is (λ d holds_d.
        barred (not (is_directory n.kind)) (refuse at Namespace NFS4ERR_ISDIR) _ (ap not (sym (ap is_directory holds_n.tells.kind) ∙ is_one))
        ∙ ap (λ (r : Refusal). refuse at r.gate r.status) (sym is)))

module _ (site : Site) (at : Place) (rest : World) (t : Rows) (name : List ℕ) (node dir : Held) (well : None ≡ naming name)
    (node_is : IsHeld t (held_in t.nodes at.saved) (Ok node)) (dir_is : IsHeld t (held_in t.nodes at.current) (Ok dir)) (file : is_directory (kind_of node.facts.kind) ≡ false) where
  -- the current file handle is no directory
  pub no_dir : (why : Refusal) → Some (refusal_of why) ≡ no_directory dir.facts.kind → link site name at (with_tree rest t) ≡ refuse at why.gate why.status
  no_dir why e =
      named_on at name _ well
      ∙ about_node (refuse at why.gate why.status) at rest t at.saved _ node node_is (λ n holds_n.
      about_node (refuse at why.gate why.status) at rest t at.current _ dir dir_is (λ d holds_d.
      passed (not (is_directory n.kind)) _ _ (grind (arith, holds_n.tells.kind, file)) ∙ directory_off at t d dir _ why holds_d e))

  -- the rules of labels refuse a change of its names
  pub change_off : None ≡ no_directory dir.facts.kind → (why : Refusal) → Some (refusal_of why) ≡ denial site at.subject (ChangeNames dir.facts.label.0) → link site name at (with_tree rest t) ≡ refuse at why.gate why.status
  change_off is_dir why off =
      named_on at name _ well
      ∙ about_node (refuse at why.gate why.status) at rest t at.saved _ node node_is (λ n holds_n.
      about_node (refuse at why.gate why.status) at rest t at.current _ dir dir_is (λ d holds_d.
      passed (not (is_directory n.kind)) _ _ (ap not (sym (ap is_directory holds_n.tells.kind) ∙ file))
      ∙ directory_on at d _ (is_one t d dir holds_d is_dir)
      ∙ denied site at (ChangeNames d.label) _ why (off ∙ ap (λ (l : ℕ). denial site at.subject (ChangeNames l)) holds_d.tells.label)))

  -- or that the node gets a name
  pub drop_off : None ≡ no_directory dir.facts.kind → None ≡ denial site at.subject (ChangeNames dir.facts.label.0) → (why : Refusal) → Some (refusal_of why) ≡ denial site at.subject (Drop node.facts.label.0) → link site name at (with_tree rest t) ≡ refuse at why.gate why.status
  drop_off is_dir may why off =
      named_on at name _ well
      ∙ about_node (refuse at why.gate why.status) at rest t at.saved _ node node_is (λ n holds_n.
      about_node (refuse at why.gate why.status) at rest t at.current _ dir dir_is (λ d holds_d.
      passed (not (is_directory n.kind)) _ _ (ap not (sym (ap is_directory holds_n.tells.kind) ∙ file))
      ∙ directory_on at d _ (is_one t d dir holds_d is_dir)
      ∙ allowed site at (ChangeNames d.label) _ (may ∙ ap (λ (l : ℕ). denial site at.subject (ChangeNames l)) holds_d.tells.label)
      ∙ denied site at (Drop n.label) _ why (off ∙ ap (λ (l : ℕ). denial site at.subject (Drop l)) holds_n.tells.label)))

  -- the tree's tests
  left : (n d : Node) → Holds t n node → Holds t d dir → is_directory n.kind ≡ false → is_directory d.kind ≡ true →
      where_new at (with_tree rest t) d name (
      demand (nat_lt (names_of t.entries n.id) MOST_NAMES) (refuse at Namespace NFS4ERR_MLINK) (
      demand (has_cookie d) (refuse at Quota NFS4ERR_NOSPC) (
      done at (changed d) (Touch d.id (name_added at.moment d.inner) ∷ Touch n.id (attributes_changed at.moment n.inner) ∷ Link (next_entry d name n.id) ∷ []))))
      ≡ follows (λ a. cinfo_of a) at (link_of t (id_of node.id) (id_of dir.id) name at.moment)
  left n d holds_n holds_d is_file is_dir = grind (arith, holds_n.id, holds_n.node_is, holds_d.id, holds_d.node_is, is_file, is_dir)

  pub link_checked : None ≡ no_directory dir.facts.kind → None ≡ denial site at.subject (ChangeNames dir.facts.label.0) → None ≡ denial site at.subject (Drop node.facts.label.0) →
      link site name at (with_tree rest t) ≡ follows (λ a. cinfo_of a) at (link_of t (id_of node.id) (id_of dir.id) name at.moment)
  link_checked is_dir may may_take =
      let told = follows (λ a. cinfo_of a) at (link_of t (id_of node.id) (id_of dir.id) name at.moment) in
      named_on at name _ well
      ∙ about_node told at rest t at.saved _ node node_is (λ n holds_n.
      about_node told at rest t at.current _ dir dir_is (λ d holds_d.
      let is_file : is_directory n.kind ≡ false = sym (ap is_directory holds_n.tells.kind) ∙ file in
      let is_one : is_directory d.kind ≡ true = is_one t d dir holds_d is_dir in
      passed (not (is_directory n.kind)) _ _ (ap not is_file)
      ∙ directory_on at d _ is_one
      ∙ allowed site at (ChangeNames d.label) _ (may ∙ ap (λ (l : ℕ). denial site at.subject (ChangeNames l)) holds_d.tells.label)
      ∙ allowed site at (Drop n.label) _ (may_take ∙ ap (λ (l : ℕ). denial site at.subject (Drop l)) holds_n.tells.label)
      ∙ left n d holds_n holds_d is_file is_one))
