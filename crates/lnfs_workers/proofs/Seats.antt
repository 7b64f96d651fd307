-- Links with their places, dealt to workers and served.
use Rattle.std.proofs.Common.{◌≡◌, ◌∙◌, [], ℕ, List, Some, ap, sym, subst, arith, length}
use Rattle.std.specs.Prelude.{slice_get}
use Rattle.lnfs_types.specs.declared.event.Moment.{Moment}
use Rattle.lnfs_history.specs.Entries.{part}
use Rattle.lnfs_workers.specs.Served.{Tells}
use Rattle.lnfs_workers.specs.Links.{IsServed, IsDone, Comes, Waits}
use Rattle.lnfs_workers.specs.Pairs.{Each, EachAt}
use Rattle.lnfs_workers.specs.declared.line.Waiting.{Waiting}
use Rattle.lnfs_workers.specs.declared.line.Done.{Done}
use Rattle.lnfs_workers.proofs.Dealt.{Dealt, dealt_worked, each_at_get}

module _ {B L : Type 0} (links : List (ℕ × L)) where
  -- a link of that number, with an empty place
  abbrev pub Placed : ℕ → ℕ × L → Waiting B L → Type 0
  Placed n link one = (one.class ≡ link.0) × (one.link ≡ link.1) × (one.place ≡ part n [])

  pub placed_waits : (all : List (Waiting B L)) → EachAt Placed 0 links all → (n : ℕ) (one : Waiting B L) → slice_get all n ≡ Some one → Waits links n one
  placed_waits all e n one at = let got = each_at_get Placed 0 n n links all one (omega arith) e at in (got.0, got.1, got.2.0, got.2.1, got.2.2)

  pub waits_empty : (n : ℕ) (one : Waiting B L) → Waits links n one → one.place.entries ≡ []
  waits_empty n one w = ap (λ p. p.entries) w.4

  -- served with the entries of its place, it is the link of that number
  pub waits_done : (tell : L → Tells) (may : Moment → Type 0) (n : ℕ) (one : Waiting B L) (done : Done B L) → Waits links n one → IsDone tell may one done
      → (done.place.link ≡ n) × Comes tell may links n done.end done.place.entries
  waits_done tell may n one done w s = (
    s.0 ∙ ap (λ p. p.link) w.4,
    (w.0, w.1, subst (λ (u : ℕ × L). IsServed tell may u.0 u.1 done.end done.place.entries) (λ i. (w.2 i, w.3 i)) s.1),
  )

  -- one that was served, of the link that waited under its number
  abbrev pub Came : (L → Tells) → (Moment → Type 0) → ℕ → Done B L → Type 0
  Came tell may n done = (done.place.link ≡ n) × Comes tell may links n done.end done.place.entries

  -- what the workers gave back is dealt as what they were handed
  pub all_served : {V W : Type 0} (tell : L → Tells) (may : Moment → Type 0) (f : V → List (Waiting B L)) (k : W → List (Done B L)) (hands : List V) (served : List W)
      → Dealt f (Waits links) (length links) (length hands) 0 hands → Each (λ hand done. Each (IsDone tell may) (f hand) (k done)) hands served
      → (length served ≡ length hands) × Dealt k (Came tell may) (length links) (length served) 0 served
  all_served tell may f k hands served dealt done =
      let worked = dealt_worked f k (Waits links) (IsDone tell may) (Came tell may) (length links) (length hands) (waits_done tell may) 0 hands served dealt done in
      (worked.1, subst (λ (step : ℕ). Dealt k (Came tell may) (length links) step 0 served) (sym worked.1) worked.0)
