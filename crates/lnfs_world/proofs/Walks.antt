-- The walk of RENAME is right: it finds what lies on the way up, and stops at nothing else.
use Rattle.std.proofs.Common.{◌≡◌, ℕ, zero, suc, Bool, true, false, not, List, [], ◌∷◌, Option, Some, None, refl, sym, ◌∙◌, arith}
use Rattle.std.specs.Prelude.{filter, count_by, is_some}
use Rattle.std.proofs.lemmas.Bool.Decides.{nat_tests}
use Rattle.std.proofs.lemmas.List.Sums.{length-filter}
use Rattle.lnfs_world.specs.World.{Id}
use Rattle.lnfs_world.specs.World.{Node}
use Rattle.lnfs_world.specs.World.{Entry}
use Rattle.lnfs_calipso.specs.Label.{IsPreorderWithBottom}
use Rattle.lnfs_world.specs.World.{World, same_id, label_at, directory_at}
use Rattle.lnfs_world.specs.Erased.{sees}
use Rattle.lnfs_world.specs.Facts.{Facts, is_good_entry}
use Rattle.lnfs_world.specs.Tree.{root, name_of, parent_of, way_up, LeadsTo, is_above, goes_under}
use Rattle.lnfs_world.proofs.Seals.{unseal}
use Rattle.lnfs_world.proofs.Rows.{all_find, none_any}
use Rattle.lnfs_world.proofs.Keys.{id_same}
use Rattle.lnfs_world.proofs.Trees.{way_same}
use Rattle.std.proofs.lemmas.Bool.{false≢true}
use Rattle.std.specs.List.{list_any}
use Rattle.lnfs_world.specs.Tree.{same_entry}
use Rattle.lnfs_world.proofs.Ways.{no_parent, name_of-without, differs, is_among, way_short, way_within, walk_finds, walk_found}

-- what has a label and a home that passes is among the nodes whose home passes
seen_among : (q : ℕ → Bool) (d : Id) (nodes : List Node) → q d.level ≡ true → is_some (label_at nodes d) ≡ true → is_among (λ n. n.id) (λ n. q n.id.level) nodes d ≡ true
seen_among q d [] home there = there
seen_among q d (n ∷ nodes) home there = grind (arith, nat_tests, seen_among q d nodes, id_same d n.id)

-- what a walk finds lies on the way up, in any world
pub under_right : (dom : ℕ → ℕ → Bool) (s : ℕ) (w : World) (moved target : Id) → goes_under dom s w moved target ≡ true → LeadsTo (parent_of w.entries) target moved
under_right dom s w moved target = walk_found (parent_of w.entries) _ moved target

module _ (dom : ℕ → ℕ → Bool) (lattice : IsPreorderWithBottom dom) (s : ℕ) (w : World) (facts : Facts dom w) where
  -- each name of a node that is seen stands in a directory that is seen
  pub sees_name : (i : Id) → sees dom s w.nodes i ≡ true → (e : Entry) → is_good_entry dom (label_at w.nodes) e ≡ true → same_id i e.node ≡ true → sees dom s w.nodes e.directory ≡ true
  sees_name i seen e good h = grind (arith, nat_tests, id_same i e.node, facts.nodes.labels e.directory, lattice.transitive s)

  pub sees_own : (i : Id) → label_at w.nodes i ≡ Some s → sees dom s w.nodes i ≡ true
  sees_own i own = grind (arith, lattice.reflexive s, facts.nodes.labels i s)

  -- a subject that sees a directory sees each one above it
  pub way_seen : (j : ℕ) (i d : Id) → sees dom s w.nodes i ≡ true → way_up (parent_of w.entries) j i ≡ Some d → sees dom s w.nodes d ≡ true
  way_seen zero i d seen way = grind arith
  way_seen (suc j) i d seen way = at (name_of w.entries i) refl (λ e. way_seen j e.directory d)
    where
      at : (o : Option Entry) → name_of w.entries i ≡ o → ((e : Entry) → sees dom s w.nodes e.directory ≡ true → way_up (parent_of w.entries) j e.directory ≡ Some d → sees dom s w.nodes d ≡ true) → sees dom s w.nodes d ≡ true
      at None named next = absurd (grind arith)
      at (Some e) named next =
          let known = all_find _ (λ x. same_id i x.node) w.entries e facts.nodes.fit named in
          next e (sees_name i seen e known.0 known.1) (grind arith)

  pub under_found : (moved target : Id) → directory_at w.nodes target ≡ Some true → sees dom s w.nodes target ≡ true → LeadsTo (parent_of w.entries) target moved → goes_under dom s w moved target ≡ true
  under_found moved target directory seen leads =
      let ends = (unseal facts.nodes.tree).ends target directory in
      let free = no_parent w.entries root (unseal facts.nodes.tree).free in
      let q : Node → Bool = λ n. dom s n.id.level in
      let short = way_short (λ n. n.id) q (parent_of w.entries) free ends.0 w.nodes target ends.1 (λ j d p way up. let known = way_seen j target d seen way in seen_among (dom s) d w.nodes (grind arith) (grind arith)) in
      let within = way_within (parent_of w.entries) free leads.0 ends.0 target moved leads.1 ends.1 in
      walk_finds (parent_of w.entries) (count_by q w.nodes) leads.0 moved target (omega (arith, short, within, length-filter q w.nodes)) leads.1

  -- a walk over fewer entries, without the names of what holds no names, finds no more
  pub under_left : (other : Entry) (moved target : Id) → directory_at w.nodes target ≡ Some true → sees dom s w.nodes target ≡ true → list_any (λ e. same_id other.node e.directory) w.entries ≡ false → same_id target other.node ≡ false → goes_under dom s w moved target ≡ false → (fuel : ℕ) → is_above fuel (parent_of (filter (λ e. not (same_entry other e)) w.entries)) moved target ≡ false
  under_left other moved target directory seen empty apart clear fuel =
      let left : List Entry = filter (λ e. not (same_entry other e)) w.entries in
      let none = none_any _ w.entries empty in
      let stays : (d : Id) (e : Entry) → same_id d other.node ≡ false → name_of left d ≡ Some e → (name_of w.entries d ≡ Some e) × (same_id e.directory other.node ≡ false) = λ d e differs named.
      let was = sym (name_of-without other w.entries d differs) ∙ named in
      (was, grind (arith, nat_tests, (all_find _ (λ x. same_id d x.node) w.entries e none was).0)) in
      differs _ _ refl (λ found.
      let leads = walk_found (parent_of left) fuel moved target found in
      false≢true (sym clear ∙ under_found moved target directory seen (leads.0, way_same left w.entries (λ d. same_id d other.node ≡ false) stays leads.0 target moved apart leads.1)))
