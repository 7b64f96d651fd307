-- LOOKUP in a directory that is held, by what the code finds in it.
use Rattle.std.proofs.Common.{◌≡◌, refl, ap, sym, ◌∙◌, ℕ, true, false, not, List, [], Option, Some, None, Ok, Err, option_map}
use Rattle.lnfs_arguments.specs.declared.statuses.TheConstants.{NFS4ERR_NOENT}
use Rattle.lnfs_world.specs.World.{Id, Directory, Node, Entry, World, is_directory}
use Rattle.lnfs_world.specs.Names.{entry_at}
use Rattle.lnfs_world.specs.Outcome.{Site, Place, Outcome}
use Rattle.lnfs_monitor.specs.Rules.{Read}
use Rattle.lnfs_operations.specs.declared.Gate.TheVariants.{Namespace}
use Rattle.lnfs_operations.specs.declared.Refusal.{Refusal}
use Rattle.lnfs_operations.specs.Chain.{Answer, refuse, done, where_there}
use Rattle.lnfs_operations.specs.Lookup.{lookup, is_link}
use Rattle.lnfs_tree.specs.declared.node.TreeError.{TreeError}
use Rattle.lnfs_tree.specs.Rows.{Rows, id_of, kind_of, or_absent, looked_up}
use Rattle.lnfs_nodes.specs.Trees.{with_tree, held_in, Holds, IsHeld, denial, refusal_of}
use Rattle.lnfs_nodes.specs.Told.{naming}
use Rattle.lnfs_nodes.specs.declared.held.Held.{Held}
use Rattle.lnfs_nodes.proofs.Tests.{passed, allowed}
use Rattle.lnfs_nodes.proofs.Refusing.{on_held, denied}
use Rattle.lnfs_nodes.proofs.Peeling.{named_on}
use Rattle.lnfs_nodes.proofs.NamedHeld.{looks_up}

module _ (site : Site) (at : Place) (rest : World) (t : Rows) (name : List ℕ) (well : None ≡ naming name) (dir : Held) (dir_is : IsHeld t (held_in t.nodes at.current) (Ok dir)) (kind : kind_of dir.facts.kind ≡ Directory) where
  tests : (d : Node) → Holds t d dir → (is_link d.kind ≡ false) × (is_directory d.kind ≡ true)
  tests d holds = (ap is_link (sym holds.tells.kind ∙ kind), ap is_directory (sym holds.tells.kind ∙ kind))

  pub read_off : (why : Refusal) → Some (refusal_of why) ≡ denial site at.subject (Read dir.facts.label.0) → lookup site name at (with_tree rest t) ≡ refuse at why.gate why.status
  read_off why off =
      named_on at name _ well
      ∙ on_held at rest t _ dir _ dir_is (λ d holds.
      passed (not (is_link d.kind)) _ _ (ap not (tests d holds).0) ∙ passed (is_directory d.kind) _ _ (tests d holds).1
      ∙ denied site at (Read d.label) _ why (off ∙ ap (λ (l : ℕ). denial site at.subject (Read l)) holds.tells.label))

  module _ (may : None ≡ denial site at.subject (Read dir.facts.label.0)) where
    reads : (o : Outcome (Answer (Unit {0}))) → ((d : Node) → Holds t d dir → is_directory d.kind ≡ true → where_there (entry_at t.entries d.id name) (λ e. done (record at { current = Some e.node }) tt []) (refuse at Namespace NFS4ERR_NOENT) ≡ o)
        → lookup site name at (with_tree rest t) ≡ o
    reads o is =
        named_on at name _ well
        ∙ on_held at rest t _ dir o dir_is (λ d holds.
        passed (not (is_link d.kind)) _ _ (ap not (tests d holds).0) ∙ passed (is_directory d.kind) _ _ (tests d holds).1
        ∙ allowed site at (Read d.label) _ (may ∙ ap (λ (l : ℕ). denial site at.subject (Read l)) holds.tells.label)
        ∙ is d holds (tests d holds).1)

    pub found : (i : Id) → Ok i ≡ looked_up t (id_of dir.id) name → lookup site name at (with_tree rest t) ≡ done (record at { current = Some i }) tt []
    found i is = reads _ (λ d holds one. at_entry (entry_at t.entries d.id name) (is ∙ looks_up t d dir holds one name))
      where
        at_entry : (x : Option Entry) → Ok i ≡ or_absent (option_map (λ e. e.node) x) → where_there x (λ e. done (record at { current = Some e.node }) (tt {0}) []) (refuse at Namespace NFS4ERR_NOENT) ≡ done (record at { current = Some i }) (tt {0}) []
        at_entry (Some e) is = let same : i ≡ e.node = cc in ap (λ (j : Id). done (record at { current = Some j }) tt []) (sym same)
        at_entry None is = absurd (cc)

    pub absent : (error : TreeError) → Err error ≡ looked_up t (id_of dir.id) name → (why : Refusal) → why ≡ record { gate = Namespace; status = NFS4ERR_NOENT } → lookup site name at (with_tree rest t) ≡ refuse at why.gate why.status
    absent error is why is_why = reads _ (λ d holds one. at_entry (entry_at t.entries d.id name) (is ∙ looks_up t d dir holds one name)) ∙ ap (λ (r : Refusal). refuse at r.gate r.status) (sym is_why)
      where
        at_entry : (x : Option Entry) → Err error ≡ or_absent (option_map (λ e. e.node) x) → where_there x (λ e. done (record at { current = Some e.node }) (tt {0}) []) (refuse at Namespace NFS4ERR_NOENT) ≡ refuse at Namespace NFS4ERR_NOENT
        at_entry (Some e) is = absurd (cc)
        at_entry None is = refl
