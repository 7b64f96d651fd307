-- Contexts of the world that are made and ended.
use Rattle.std.specs.Prelude.{◌≡◌, ℕ, Bool, true, false, cond, Result, Ok, Err}
use Rattle.lnfs_world.specs.World.{World}
use Rattle.lnfs_world.specs.Change.{AddContext, DropContext, apply}
use Rattle.lnfs_gss3.specs.Contexts.{lists_of, has_context_left, new_context}
use Rattle.lnfs_gss3.specs.declared.errors.ContextError.{ContextError}
use Rattle.lnfs_gss3.specs.declared.errors.ContextError.TheVariants.{Unknown, Full, Memory}

-- A context comes under the next number of its level, where there is room, or the level is full; without memory
-- for one that there is room for, nothing has changed.
abbrev pub MakesContext : (level parent : ℕ) → (before after : World) → Result ℕ ContextError → Type 0
MakesContext level parent v w (Ok number) =
    let made = new_context (lists_of v) level parent in
    (has_context_left (lists_of v) level ≡ true) × (number ≡ made.id.number) × (w ≡ apply (AddContext made) v)
MakesContext level parent v w (Err Full) = (has_context_left (lists_of v) level ≡ false) × (w ≡ v)
MakesContext level parent v w (Err Memory) = (has_context_left (lists_of v) level ≡ true) × (w ≡ v)
MakesContext level parent v w (Err Unknown) = ⊥

-- one goes, if it is there
abbrev pub without_context : Bool → (level number : ℕ) → World → World
without_context there level number w = cond there (apply (DropContext (record { level = level; number = number })) w) w
