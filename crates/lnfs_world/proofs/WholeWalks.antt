-- A walk up of as many steps as there are nodes finds what the walk of RENAME finds, whose steps are fewer.
use Rattle.std.proofs.Common.{◌≡◌, ◌≤◌, ℕ, Bool, true, false, List, [], ◌∷◌, Option, Some, None, refl, sym, option_map, length, arith}
use Rattle.std.specs.Prelude.{filter, is_some}
use Rattle.std.proofs.lemmas.Bool.Decides.{nat_tests}
use Rattle.lnfs_calipso.specs.Label.{IsPreorderWithBottom}
use Rattle.lnfs_world.specs.World.{Id, Node, Entry, World, same_id, directory_at}
use Rattle.lnfs_world.specs.Erased.{sees}
use Rattle.lnfs_world.specs.Facts.{Facts}
use Rattle.lnfs_world.specs.Tree.{root, name_of, parent_of, LeadsTo, is_above, goes_under}
use Rattle.lnfs_world.proofs.Seals.{unseal}
use Rattle.lnfs_world.proofs.Rows.{all_find}
use Rattle.lnfs_world.proofs.Keys.{id_same}
use Rattle.lnfs_world.proofs.Ways.{no_parent, is_among, way_short, way_within, walk_finds, walk_found}
use Rattle.lnfs_world.proofs.Walks.{under_right, under_found}

there_among : (d : Id) (nodes : List Node) → is_some (directory_at nodes d) ≡ true → is_among (λ n. n.id) (λ n. true) nodes d ≡ true
there_among d [] there = there
there_among d (n ∷ nodes) there = grind (arith, nat_tests, there_among d nodes, id_same d n.id)

no_more : (nodes : List Node) → length (filter (λ n. true) nodes) ≤ length nodes
no_more [] = omega arith
no_more (n ∷ nodes) = grind (arith, no_more nodes)

same_test : (a b : Bool) → (a ≡ true → b ≡ true) → (b ≡ true → a ≡ true) → a ≡ b
same_test true b there back = sym (there refl)
same_test false true there back = back refl
same_test false false there back = refl

module _ (dom : ℕ → ℕ → Bool) (w : World) (facts : Facts dom w) where
  -- what has a parent is there
  climbs : (d p : Id) → parent_of w.entries d ≡ Some p → is_some (directory_at w.nodes d) ≡ true
  climbs d p up = at (name_of w.entries d) refl up
    where
      at : (o : Option Entry) → name_of w.entries d ≡ o → option_map (λ e. e.directory) o ≡ Some p → is_some (directory_at w.nodes d) ≡ true
      at None named up = absurd (grind arith)
      at (Some e) named up =
          let known = all_find _ (λ x. same_id d x.node) w.entries e (unseal facts.nodes.tree).joined named in
          grind (arith, known.0, known.1, id_same d e.node)

  pub whole_found : (moved target : Id) → directory_at w.nodes target ≡ Some true → LeadsTo (parent_of w.entries) target moved → is_above (length w.nodes) (parent_of w.entries) moved target ≡ true
  whole_found moved target directory leads =
      let ends = (unseal facts.nodes.tree).ends target directory in
      let free = no_parent w.entries root (unseal facts.nodes.tree).free in
      let short = way_short (λ n. n.id) (λ n. true) (parent_of w.entries) free ends.0 w.nodes target ends.1 (λ j d p way up. there_among d w.nodes (climbs d p up)) in
      let within = way_within (parent_of w.entries) free leads.0 ends.0 target moved leads.1 ends.1 in
      walk_finds (parent_of w.entries) (length w.nodes) leads.0 moved target (omega (arith, short, within, no_more w.nodes)) leads.1

  pub whole_right : (moved target : Id) → is_above (length w.nodes) (parent_of w.entries) moved target ≡ true → LeadsTo (parent_of w.entries) target moved
  whole_right moved target = walk_found (parent_of w.entries) (length w.nodes) moved target

  -- both walks, to a directory that the subject sees
  pub same_walk : IsPreorderWithBottom dom → (s : ℕ) (moved target : Id) → directory_at w.nodes target ≡ Some true → sees dom s w.nodes target ≡ true → goes_under dom s w moved target ≡ is_above (length w.nodes) (parent_of w.entries) moved target
  same_walk lattice s moved target directory seen =
      same_test _ _ (λ under. whole_found moved target directory (under_right dom s w moved target under)) (λ above. under_found dom lattice s w facts moved target directory seen (whole_right moved target above))
