-- How labels go: up alone.
use Rattle.std.specs.Prelude.{◌≡◌, ℕ, Bool, true, false, Some, None}
use Rattle.lnfs_world.specs.World.{Id, World, label_at, is_given}

-- Of a node that is there before and after, the label after dominates the label before; one that is
-- there afterwards alone has an identifier that wasn't given before.
pub record LabelsRise (dom : ℕ → ℕ → Bool) (a b : World) : Type 0 where
  pub up : (i : Id) (before after : ℕ) → label_at a.nodes i ≡ Some before → label_at b.nodes i ≡ Some after → dom after before ≡ true
  pub new : (i : Id) (after : ℕ) → label_at a.nodes i ≡ None → label_at b.nodes i ≡ Some after → is_given a.lasts.nodes i ≡ false
