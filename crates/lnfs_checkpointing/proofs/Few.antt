-- A checkpoint's events are few.
use Rattle.std.proofs.Common.{◌≡◌, ◌≤◌, ℕ, Bool, true, false, List, ap, subst, inl, inr}
use Rattle.std.proofs.lemmas.Bool.{leb-true}
use Rattle.std.specs.Str.{bytes_eq}
use Rattle.std.specs.declared.option.Option.TheVariants.{Some, None}
use Rattle.lnfs_xdr.specs.Message.{Tells, Next, Unread, Closed}
use Rattle.lnfs_xdr.specs.Format.{Spells}
use Rattle.lnfs_layout.specs.declared.numbers.TheConstants.{MOST_EVENTS}
use Rattle.lnfs_layout.specs.Whole.{Told, body, layout, chosen}

body_few : (levels : ℕ) (t : Told) (bytes : List ℕ) → Spells (body levels) t bytes → t.events ≤ MOST_EVENTS
unfolding body
body_few levels t bytes s = subst (λ (n : ℕ). n ≤ MOST_EVENTS) (ap (λ (x : Told). x.events) s.4.4.4.4.4.0) (leb-true s.0 MOST_EVENTS s.3.0)

chosen_few : (same : Bool) (levels : ℕ) (t : Told) (bytes : List ℕ) → Tells (chosen same (Next (body levels) (λ x. Closed (Some x)) (λ e. absurd e)) (Unread None)) (Some t) bytes → t.events ≤ MOST_EVENTS
chosen_few true levels t bytes (inl s) = let e : Some s.0 ≡ Some t = s.5.0 in let same : s.0 ≡ t = cc in subst (λ (x : Told). x.events ≤ MOST_EVENTS) same (body_few levels s.0 s.1 s.3)
chosen_few true levels t bytes (inr s) = absurd s.0
chosen_few false levels t bytes s = let h : ⊥ = cc in absurd h

pub told_few : (levels : ℕ) (digest : List ℕ) (t : Told) (bytes : List ℕ) → Tells (layout levels digest) (Some t) bytes → t.events ≤ MOST_EVENTS
unfolding layout
told_few levels digest t bytes (inl s) = chosen_few (bytes_eq s.0 digest) levels t s.2 s.5
told_few levels digest t bytes (inr s) = absurd s.0
