-- What the making and the end of a context leave of a world.
use Rattle.std.proofs.Common.{◌≡◌, ◌⊎◌, inl, inr, ℕ, Bool, true, false, cond, not, List, [], ◌∷◌, Option, Some, None, refl, arith}
use Rattle.std.specs.Prelude.{filter}
use Rattle.std.proofs.lemmas.Bool.Decides.{nat_tests}
use Rattle.lnfs_types.specs.declared.event.Event.{Event}
use Rattle.lnfs_policy.specs.Policy.{Policy}
use Rattle.lnfs_world.specs.Rows.{inserted}
use Rattle.lnfs_world.specs.World.{Id, Context, World, context_order, same_id}
use Rattle.lnfs_world.specs.Change.{AddContext, DropContext, apply}
use Rattle.lnfs_world.specs.Outcome.{Place, Outcome, begins_at, done_to}
use Rattle.lnfs_world.specs.Both.{Both, both}
use Rattle.lnfs_world.proofs.Keys.{id_equal, id_tie}
use Rattle.lnfs_world.proofs.Sorted.{find-inserted}
use Rattle.lnfs_operations.specs.Extra.{Extra}
use Rattle.lnfs_gss3.specs.Grammar.{Assertion}
use Rattle.lnfs_gss3.specs.Mechanism.{Signing}
use Rattle.lnfs_gss3.specs.Contexts.{lists_of, has_context_left, new_context, context_at}
use Rattle.lnfs_step.specs.Request.{Call, MakeContext, EndContext}
use Rattle.lnfs_step.specs.Contexts.{full, added, make_context}
use Rattle.lnfs_step.specs.Step.{made, done_for}

pub context_at-dropped : (context : Id) (contexts : List Context) (i : Id) → context_at (filter (λ x. not (same_id context x.id)) contexts) i ≡ cond (same_id i context) None (context_at contexts i)
context_at-dropped context [] i = grind arith
context_at-dropped context (x ∷ contexts) i = grind (arith, nat_tests, context_at-dropped context contexts i)

pub context_at-inserted : (row : Context) (contexts : List Context) (i : Id) → context_at (inserted context_order row contexts) i ≡ cond (same_id i row.id) (Some row) (context_at contexts i)
context_at-inserted row contexts i = find-inserted context_order (λ x. same_id i x.id) row (λ x e. grind (arith, nat_tests, id_equal row.id x.id e)) (λ x h k. id_tie row.id x.id (grind (arith, nat_tests))) contexts

-- a context comes under the next number of its level, or the level is full
pub made_world : (parent : ℕ) (p : Place) (w : World) → (done_to w (make_context parent p w) ≡ w) ⊎ (done_to w (make_context parent p w) ≡ apply (AddContext (new_context (lists_of w) p.subject parent)) w)
made_world parent p w = at (has_context_left (lists_of w) p.subject)
  where
    chosen : Bool → Outcome (Option ℕ)
    chosen b = cond b (added p (new_context (lists_of w) p.subject parent)) (full p)

    at : (b : Bool) → (done_to w (chosen b) ≡ w) ⊎ (done_to w (chosen b) ≡ apply (AddContext (new_context (lists_of w) p.subject parent)) w)
    at true = inr refl
    at false = inl refl

module _ (X : Extra) (m : Signing) (p : Policy) (b : Both X.Row) (event : Event) (call : Call) where
  abbrev place : Place
  place = begins_at call.level event.moment

  pub made_state : (parent : ℕ) (assertion : Assertion) → (done_for X m p b event call (MakeContext parent assertion)).state ≡ both (done_to b.world (make_context parent place b.world)) b.own
  made_state parent assertion = at (make_context parent place b.world).answer
    where
      at : (o : Option ℕ) → (made m call parent assertion (both (done_to b.world (make_context parent place b.world)) b.own) o).state ≡ both (done_to b.world (make_context parent place b.world)) b.own
      at None = refl
      at (Some number) = refl

  pub ended_state : (number : ℕ) → (done_for X m p b event call (EndContext number)).state ≡ both (apply (DropContext (record { level = call.level; number = number })) b.world) b.own
  ended_state number = refl
