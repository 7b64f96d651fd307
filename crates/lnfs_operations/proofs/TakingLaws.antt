-- Names that are looked up, taken out and moved: what their subject sees of them.
use Rattle.std.proofs.Common.{◌≡◌, ℕ, zero, suc, Bool, true, ◌||◌, cond, List, [], ◌∷◌, Option, Some, None, refl, ap, ◌∙◌, arith}
use Rattle.std.specs.Prelude.{◌==◌, count_by}
use Rattle.std.proofs.lemmas.Bool.{and_parts}
use Rattle.std.proofs.lemmas.Bool.Decides.{nat_tests}
use Rattle.lnfs_types.specs.declared.event.Moment.{Moment}
use Rattle.lnfs_calipso.specs.Label.{IsPreorderWithBottom}
use Rattle.lnfs_world.specs.World.{Id, Node, Entry, World, same_id, node_at}
use Rattle.lnfs_world.specs.Names.{entry_at}
use Rattle.lnfs_world.specs.Erased.{erased, sees, shrunk}
use Rattle.lnfs_world.specs.Tree.{has_other_name, parent_of, is_above, is_above_parent, goes_under}
use Rattle.lnfs_world.specs.Effects.{attributes_changed, taken_out}
use Rattle.lnfs_world.specs.Change.{Touch, Unlink, Drop}
use Rattle.lnfs_world.specs.Outcome.{Place, Outcome, Stands}
use Rattle.lnfs_world.proofs.Rows.{any-kept, all_weaker, count-kept}
use Rattle.lnfs_world.proofs.Seen.{shrunk_whole, node_at-seen, sees_node, entry_at-seen, names_seen, entry_at-home, parent_of-seen, parent_seen}
use Rattle.lnfs_arguments.specs.declared.statuses.TheConstants.{NFS4ERR_NOENT}
use Rattle.lnfs_operations.specs.declared.Gate.TheVariants.{Namespace}
use Rattle.lnfs_operations.specs.Chain.{Answer, refuse, where_there}
use Rattle.lnfs_operations.specs.NewNames.{where_old}
use Rattle.lnfs_operations.proofs.Chains.{where_alike}
use Rattle.lnfs_operations.proofs.CurrentLaws.{shown_alike}

module _ (dom : ℕ → ℕ → Bool) (lattice : IsPreorderWithBottom dom) (p : Place) (w : World) (stands : Stands dom p w) where
  -- ---- nodes of the subject's label

  pub own_above : (label : ℕ) → p.subject == label ≡ true → dom p.subject label ≡ true
  own_above label own = grind (arith, nat_tests, lattice.reflexive p.subject)

  pub own_whole : (n : Node) → p.subject == n.label ≡ true → shrunk dom p.subject n ≡ n
  own_whole n own = shrunk_whole dom p.subject n (own_above n.label own)

  pub own_seen : (n : Node) → node_at w.nodes n.id ≡ Some n → p.subject == n.label ≡ true → sees dom p.subject w.nodes n.id ≡ true
  own_seen n found own = sees_node dom lattice p.subject w stands.facts n.id n found (own_above n.label own)

  -- ---- names of a directory that is seen

  -- a name with the node that it names, at a home that the subject dominates
  pub where_old-seen : {R : Type 0} (d : Node) → sees dom p.subject w.nodes d.id ≡ true → (name : List ℕ) (shown found : Entry → Node → Outcome (Answer R)) →
      ((e : Entry) (n : Node) → entry_at w.entries d.id name ≡ Some e → node_at w.nodes e.node ≡ Some n → shown e (shrunk dom p.subject n) ≡ found e n) →
      where_old p (erased dom p.subject w) d name shown ≡ where_old p w d name found
  where_old-seen d seen name shown found same =
      ap (λ o. where_there o (λ e. where_there (node_at (erased dom p.subject w).nodes e.node) (shown e) (refuse p Namespace NFS4ERR_NOENT)) (refuse p Namespace NFS4ERR_NOENT)) (entry_at-seen dom p.subject w d.id seen name)
      ∙ where_alike (entry_at w.entries d.id name) _ _ _ (λ e is.
      ap (λ o. where_there o (shown e) (refuse p Namespace NFS4ERR_NOENT)) (node_at-seen dom p.subject w e.node (entry_at-home dom lattice p.subject w stands.facts d.id name e seen is))
      ∙ shown_alike (shrunk dom p.subject) (found e) (shown e) _ (node_at w.nodes e.node) (λ n there. same e n is there))

  -- ---- names of a node that is seen

  pub has_other_name-seen : (e : Entry) → sees dom p.subject w.nodes e.node ≡ true → has_other_name (erased dom p.subject w).entries e ≡ has_other_name w.entries e
  has_other_name-seen e seen = any-kept _ _ _ _ w.entries (all_weaker _ _ (λ x in_seen. ((λ is. in_seen (and_parts _ _ is).0), (λ above. refl))) w.entries (names_seen dom lattice p.subject w stands.facts e.node seen))

  pub taken_out-seen : (moment : Moment) (e : Entry) (n : Node) → sees dom p.subject w.nodes e.node ≡ true → p.subject == n.label ≡ true → taken_out moment (erased dom p.subject w).entries e (shrunk dom p.subject n) ≡ taken_out moment w.entries e n
  taken_out-seen moment e n seen own =
      let other = has_other_name-seen e seen in
      let whole = own_whole n own in
      λ i. cond (other i) (Touch (whole i).id (attributes_changed moment (whole i).inner) ∷ Unlink e ∷ []) (Drop e ∷ [])

  -- ---- the walk up from a node that is seen

  is_above-seen : (steps : ℕ) (top i : Id) → sees dom p.subject w.nodes i ≡ true → is_above steps (parent_of (erased dom p.subject w).entries) top i ≡ is_above steps (parent_of w.entries) top i
  is_above-seen zero top i seen = refl
  is_above-seen (suc steps) top i seen =
      ap (λ o. same_id top i || is_above_parent o (λ d. is_above steps (parent_of (erased dom p.subject w).entries) top d)) (parent_of-seen dom lattice p.subject w stands.facts i seen)
      ∙ ap (λ b. same_id top i || b) (at (parent_of w.entries i) refl (λ d above. is_above-seen steps top d above))
    where
      at : (o : Option Id) → parent_of w.entries i ≡ o → ((d : Id) → sees dom p.subject w.nodes d ≡ true → is_above steps (parent_of (erased dom p.subject w).entries) top d ≡ is_above steps (parent_of w.entries) top d) →
          is_above_parent o (λ d. is_above steps (parent_of (erased dom p.subject w).entries) top d) ≡ is_above_parent o (λ d. is_above steps (parent_of w.entries) top d)
      at None is next = refl
      at (Some d) is next = next d (parent_seen dom lattice p.subject w stands.facts i seen d is)

  nodes_counted : count_by (λ n. dom p.subject n.id.level) (erased dom p.subject w).nodes ≡ count_by (λ n. dom p.subject n.id.level) w.nodes
  nodes_counted = count-kept _ _ (λ n. dom p.subject n.id.level) (λ n above. above) (λ n. refl) w.nodes

  pub goes_under-seen : (moved target : Id) → sees dom p.subject w.nodes target ≡ true → goes_under dom p.subject (erased dom p.subject w) moved target ≡ goes_under dom p.subject w moved target
  goes_under-seen moved target seen = ap (λ steps. is_above steps (parent_of (erased dom p.subject w).entries) moved target) nodes_counted ∙ is_above-seen _ moved target seen
