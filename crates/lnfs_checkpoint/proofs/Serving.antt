-- A server has a fit state before all events, and the step of an event leaves one.
use Rattle.std.proofs.Common.{◌≡◌, Bool, true, false, refl, sym, subst}
use Rattle.lnfs_policy.specs.Policy.{Policy}
use Rattle.lnfs_world.specs.World.{World}
use Rattle.lnfs_world.specs.Both.{Both}
use Rattle.lnfs_site.specs.Site.{site_of}
use Rattle.lnfs_locks.specs.Facts.{LockFacts}
use Rattle.lnfs_locks.specs.Locks.{Locks}
use Rattle.lnfs_further.specs.Further.{further, further_rows, locks_in}
use Rattle.lnfs_further.proofs.FurtherRows as rows
use Rattle.lnfs_lock_rows.specs.Bounds.{LocksBounded}
use Rattle.lnfs_step.specs.ContextBounds.{ContextsFit}
use Rattle.lnfs_step.specs.Journal.{Holds, IsKept}
use Rattle.lnfs_checkpoint.specs.Checkpoint.{IsFit}
use Rattle.lnfs_checkpoint.specs.Resumed.{state_of}

-- what would answer an error isn't stopped where none is answered
pub going : (stopped : Bool) → (stopped ≡ true → false ≡ true) → stopped ≡ false
going true never = sym (never refl)
going false never = refl

-- the locks of the rows of locks are these
pub locks_again : (own : Locks) → locks_in (further_rows own) ≡ own
locks_again own = rows.locks_again own

-- a kept state is that of its world and its locks
pub state_again : (b : Both (further).Row) → (further).Fact b.world b.own → state_of b.world (locks_in b.own) ≡ b
state_again b fact = λ i. record { world = b.world; own = sym (rows.rows_again b.world b.own fact) i }

module _ (p : Policy) (w : World) (own : Locks) where
  -- a kept state whose contexts and locks are within their bounds is fit
  pub fit_of_kept : IsKept further p (state_of w own) → ContextsFit p w → LocksBounded (site_of p) (locks_in (further_rows own)) → IsFit p w own
  fit_of_kept kept contexts bounds = record {
    sound = kept.sound;
    contexts = contexts;
    locks = record { facts = subst (LockFacts w) (locks_again own) kept.own.0.facts; bounds = subst (LocksBounded (site_of p)) (locks_again own) bounds };
  }

  pub kept_of_fit : IsFit p w own → IsKept further p (state_of w own)
  kept_of_fit fit = record { sound = fit.sound; own = rows.fact_of_locks w own fit.locks.facts }

  pub holds_of_fit : IsFit p w own → Holds further p (state_of w own)
  holds_of_fit fit = let kept = kept_of_fit fit in record { facts = kept.sound.facts; own = kept.own }

  pub bounds_of_fit : IsFit p w own → LocksBounded (site_of p) (locks_in (further_rows own))
  bounds_of_fit fit = subst (LocksBounded (site_of p)) (sym (locks_again own)) fit.locks.bounds

-- v and now are a state b of p, and are kept under q
pub fit_of_state : (p q : Policy) (b : Both (further).Row) (v : World) (now : Locks) → q ≡ p → state_of v now ≡ b → IsKept further q (state_of v now) → ContextsFit p b.world → LocksBounded (site_of p) (locks_in b.own) → IsFit q v now
fit_of_state p q b v now policy state kept contexts bounds =
    let contexts_now : ContextsFit p v = subst (λ (c : Both (further).Row). ContextsFit p c.world) (sym state) contexts in
    let bounds_now : LocksBounded (site_of p) (locks_in (further_rows now)) = subst (λ (c : Both (further).Row). LocksBounded (site_of p) (locks_in c.own)) (sym state) bounds in
    fit_of_kept q v now kept (subst (λ (r : Policy). ContextsFit r v) (sym policy) contexts_now) (subst (λ (r : Policy). LocksBounded (site_of r) (locks_in (further_rows now))) (sym policy) bounds_now)
