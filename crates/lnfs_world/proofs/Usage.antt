-- What a level uses of its limits is seen by who dominates it.
use Rattle.std.proofs.Common.{◌≡◌, ℕ, Bool, true, false, cond, List, [], ◌∷◌, Some, refl, ap, ◌∙◌, arith}
use Rattle.std.specs.Prelude.{◌==◌}
use Rattle.std.specs.Option.{option_map}
use Rattle.std.specs.List.{AllByRecursion}
use Rattle.std.specs.declared.cmp.Ordering.TheVariants.{Less}
use Rattle.std.proofs.lemmas.Bool.Decides.{nat_tests}
use Rattle.lnfs_calipso.specs.Label.{IsPreorderWithBottom}
use Rattle.lnfs_world.specs.Rows.{Rising}
use Rattle.lnfs_world.specs.World.{Node, World, node_order, same_id, node_at}
use Rattle.lnfs_world.specs.Erased.{shrunk, erased}
use Rattle.lnfs_world.specs.Facts.{Facts}
use Rattle.lnfs_world.specs.Usage.{nodes_used, bytes_of, bytes_used}
use Rattle.lnfs_world.proofs.Keys.{id_itself}
use Rattle.lnfs_world.proofs.Rows.{count-kept, sum-kept, all_two, all_weaker}
use Rattle.lnfs_world.proofs.Seen.{shrunk_whole}

pub nodes_used-seen : (dom : ℕ → ℕ → Bool) (s level : ℕ) (w : World) → dom s level ≡ true → nodes_used (erased dom s w).nodes level ≡ nodes_used w.nodes level
nodes_used-seen dom s level w above = count-kept (λ n. dom s n.id.level) (shrunk dom s) (λ n. n.id.level == level) (λ n own. grind (arith, nat_tests)) (λ n. refl) w.nodes

-- each node is what is found by its identifier
nodes_found : (nodes : List Node) → Rising node_order nodes → AllByRecursion (λ n. node_at nodes n.id ≡ Some n) nodes
nodes_found [] rising = tt
nodes_found (n ∷ nodes) rising = (ap (λ b. cond b (Some n) (node_at nodes n.id)) (id_itself n.id), all_two _ _ _ later nodes rising.0 (nodes_found nodes rising.1))
  where
    later : (m : Node) → node_order n m ≡ Less → node_at nodes m.id ≡ Some m → node_at (n ∷ nodes) m.id ≡ Some m
    later m before found =
        let apart : same_id m.id n.id ≡ false = grind (arith, nat_tests) in
        ap (λ b. cond b (Some n) (node_at nodes m.id)) apart ∙ found

module _ (dom : ℕ → ℕ → Bool) (lattice : IsPreorderWithBottom dom) (s level : ℕ) (w : World) (facts : Facts dom w) (above : dom s level ≡ true) where
  abbrev bytes_at : Node → ℕ
  bytes_at n = cond (n.label == level) (bytes_of n n.kind) 0

  -- what isn't seen has no such label, since a label dominates its home
  bytes_hidden : (n : Node) → node_at w.nodes n.id ≡ Some n → dom s n.id.level ≡ false → bytes_at n ≡ 0
  bytes_hidden n found apart = at (n.label == level) refl (facts.nodes.labels n.id n.label (ap (option_map (λ m. m.label)) found))
    where
      at : (b : Bool) → (n.label == level) ≡ b → dom n.label n.id.level ≡ true → cond b (bytes_of n n.kind) 0 ≡ 0
      at true own home = absurd (grind (arith, nat_tests, own, apart, home, lattice.transitive s level n.id.level))
      at false other home = refl

  bytes_shown : (n : Node) → bytes_at (shrunk dom s n) ≡ bytes_at n
  bytes_shown n = at (n.label == level) refl
    where
      at : (b : Bool) → (n.label == level) ≡ b → cond b (bytes_of (shrunk dom s n) n.kind) 0 ≡ cond b (bytes_of n n.kind) 0
      at true own = ap (λ m. bytes_of m m.kind) (shrunk_whole dom s n (grind (arith, nat_tests, own, above)))
      at false other = refl

  pub bytes_used-seen : bytes_used (erased dom s w).nodes level ≡ bytes_used w.nodes level
  bytes_used-seen = sum-kept _ (shrunk dom s) bytes_at w.nodes (all_weaker _ _ (λ n found. (bytes_hidden n found, (λ home. bytes_shown n))) w.nodes (nodes_found w.nodes facts.nodes.rise))
