-- What bounds the contexts of every world that is kept, beside their identifiers.
use Rattle.std.specs.Prelude.{◌≡◌, ◌≤◌, ◌==◌, ℕ, true, count_by, is_some}
use Rattle.std.specs.List.{AllByRecursion}
use Rattle.lnfs_policy.specs.Policy.{Policy, parent_at}
use Rattle.lnfs_world.specs.World.{Context, World}
use Rattle.lnfs_gss3.specs.declared.numbers.TheConstants.{CONTEXTS_OF_A_LEVEL}

-- a context is made under a parent of the policy (RFC 7861 section 2.7.1)
abbrev pub HasParent : Policy → Context → Type 0
HasParent p c = is_some (parent_at p c.parent) ≡ true

pub record ContextsFit (p : Policy) (w : World) : Type 0 where
  pub parents : AllByRecursion (HasParent p) w.contexts
  -- so many may be of one level before another one is refused (RFC 2203 section 5.4)
  pub counts : (level : ℕ) → count_by (λ c. c.id.level == level) w.contexts ≤ CONTEXTS_OF_A_LEVEL
