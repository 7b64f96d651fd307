-- The events of a recording are within their bounds.
use Rattle.std.proofs.Common.{◌≡◌, ℕ, List, [], ◌∷◌, ◌++◌, length, subst}
use Rattle.std.specs.Prelude.{All}
use Rattle.std.proofs.lemmas.List.Elements.{All-nil, All-cons}
use Rattle.lnfs_types.specs.declared.event.Event.{Event}
use Rattle.lnfs_types.specs.Moments.{Fits}
use Rattle.lnfs_xdr.specs.Format.{Spells, times}
use Rattle.lnfs_xdr.proofs.Laws.{again}
use Rattle.lnfs_traffic.specs.Recording.{event, IsRecording}
use Rattle.lnfs_traffic.proofs.Cutting.{cut}

spelled_fit : (events : List Event) (bytes : List ℕ) → Spells (times (length events) event) events bytes → All Fits events
spelled_fit [] bytes s = All-nil Fits
spelled_fit (e ∷ events) bytes s =
    let t = s.4 in
    let list : s.0 ∷ t.0 ≡ e ∷ events = t.4.0 in
    let head : s.0 ≡ e = cc in
    let tail : t.0 ≡ events = cc in
    let one : Spells event e s.1 = subst (λ (x : Event). Spells event x s.1) head s.3 in
    let more : Spells (times (length events) event) events t.1 = subst (λ (xs : List Event). Spells (times (length events) event) xs t.1) tail t.3 in
    All-cons Fits e events ((cut (s.1 ++ []) e [] (again event e s.1 [] one)).fits) (spelled_fit events t.1 more)

pub recorded_fit : (events : List Event) (bytes : List ℕ) → IsRecording events bytes → All Fits events
recorded_fit events bytes r = spelled_fit events r.body r.spelled
