-- An operation that does what a tree tells.
use Rattle.std.proofs.Common.{◌≡◌, refl, ap, sym, subst, ◌∙◌, true, Result, Ok, Err}
use Rattle.std.specs.Prelude.{IsErrAnd, IfOk}
use Rattle.lnfs_world.specs.World.{World}
use Rattle.lnfs_world.specs.Outcome.{Place, Outcome}
use Rattle.lnfs_operations.specs.declared.Refusal.{Refusal}
use Rattle.lnfs_operations.specs.Chain.{Answer, Done, refuse, done}
use Rattle.lnfs_operations.specs.Chain as chain
use Rattle.lnfs_tree.specs.declared.node.TreeError.{TreeError}
use Rattle.lnfs_tree.specs.declared.node.TreeError.TheVariants.{Memory}
use Rattle.lnfs_tree.specs.Rows.{Rows}
use Rattle.lnfs_tree.specs.Changed.{Doing, Does, ran}
use Rattle.lnfs_nodes.specs.Trees.{with_tree, refusal_of}
use Rattle.lnfs_nodes.specs.Acts.{SucceedsLeaving, Refuses, ActsLeaving}
use Rattle.lnfs_nodes.specs.Told.{refusal_by, follows}
use Rattle.lnfs_nodes.proofs.TreeSteps.{are_of_nodes, left_by_all, all_steps}

-- what is told of leaves so much of a world's other rows
abbrev pub Leaves : {B : Type 0} → (left : B → World → World) → Result (Doing B) TreeError → Type 0
Leaves left told = (rest : World) → IfOk told (λ d. left_by_all d.changes rest ≡ left d.answer rest)

module _ {A B R : Type 0} (seen : A → B) (told : B → R) (at : Place) (old new : Rows) (o : Outcome (Answer R)) where
  -- what was told of is done
  pub acts : (left : B → World → World) (rest : World) (doing : Result (Doing B) TreeError) → o ≡ follows told at doing → are_of_nodes doing ≡ true → Leaves left doing → (a : A) → Does seen doing old new (Ok a)
      → SucceedsLeaving (told (seen a)) at rest (left (seen a) rest) old new o
  acts left rest (Ok doing) is of leaves a does =
      subst (λ (o : Outcome (Answer R)). SucceedsLeaving (told (seen a)) at rest (left (seen a) rest) old new o) (sym is)
      (record {
        answer = ap (λ (b : B). Done (told b)) (sym does.0);
        place = refl;
        world = all_steps doing.changes rest old of ∙ ap (λ (w : World). with_tree w (ran doing.changes old)) (leaves rest ∙ ap (λ (b : B). left b rest) (sym does.0)) ∙ ap (with_tree (left (seen a) rest)) (sym does.1);
      })
  acts left rest (Err why) is of leaves a does = absurd does

  told_why : (e why : TreeError) → e ≡ why → o ≡ follows {A = B} told at (Err why) → (r : Refusal) → refusal_of r ≡ refusal_by e → o ≡ refuse at r.gate r.status
  told_why e why same is r by = is ∙ ap (λ (x : chain.Refusal). refuse at x.gate x.status) (sym (by ∙ ap refusal_by same))

  -- a tree's error refuses, but for want of memory
  pub acts_not : (doing : Result (Doing B) TreeError) → o ≡ follows told at doing → (e : TreeError) → (e ≡ Memory → ⊥) → Does seen doing old new (Err e) → (r : Refusal) → refusal_of r ≡ refusal_by e → Refuses r at old new o
  acts_not doing is Memory calm does r by = absurd (calm refl)
  acts_not (Err why) is e calm does r by = record { outcome = told_why e why does.0 is r by; tree = does.1 }
  acts_not (Ok doing) is e calm does r by = absurd does

-- a refusal that `?` hands on
pub err_acts : {A R : Type 0} (told : A → R) (lands : A → Place) (left : A → World → World) (at : Place) (rest : World) (old new : Rows) (o : Outcome (Answer R)) (r : Result A Refusal) (why : Refusal) → IsErrAnd r (λ e. e ≡ why) → Refuses why at old new o
    → ActsLeaving told lands left at rest old new o r
err_acts told lands left at rest old new o (Ok a) why is refuses = absurd is
err_acts told lands left at rest old new o (Err e) why is refuses = subst (λ (x : Refusal). Refuses x at old new o) (sym is) refuses
