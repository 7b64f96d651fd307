-- Contexts: the one that a call comes in, and how they are made and ended (RFC 7861 section 2.7.1, RFC 2203 section 5.4).
use Rattle.std.specs.Prelude.{ℕ, Bool, true, List, [], ◌∷◌, Option, Some, None}
use Rattle.lnfs_world.specs.World.{Context}
use Rattle.lnfs_world.specs.Change.{AddContext, DropContext}
use Rattle.lnfs_world.specs.Outcome.{Place, Outcome, Act}
use Rattle.lnfs_operations.specs.Chain.{demand}
use Rattle.lnfs_gss3.specs.Contexts.{lists_of, has_context, has_context_left, new_context}
use Rattle.lnfs_step.specs.Request.{InContext}

-- whether the context that a call of a level comes in is there, if it comes in one
abbrev pub is_there : List Context → (level : ℕ) → Option InContext → Bool
is_there contexts level None = true
is_there contexts level (Some c) = has_context contexts level c.parent c.number

abbrev pub full : Place → Outcome (Option ℕ)
full p = record { answer = None; place = p; changes = [] }

abbrev pub added : Place → Context → Outcome (Option ℕ)
added p c = record { answer = Some c.id.number; place = p; changes = AddContext c ∷ [] }

-- One is made under the next number of the level, which is answered; or the level is full.
abbrev pub make_context : (parent : ℕ) → Act (Option ℕ)
make_context parent p w =
    demand (has_context_left (lists_of w) p.subject) (full p) (added p (new_context (lists_of w) p.subject parent))

abbrev pub end_context : (number : ℕ) → Act (Unit {0})
end_context number p w = record { answer = tt; place = p; changes = DropContext (record { level = p.subject; number = number }) ∷ [] }
