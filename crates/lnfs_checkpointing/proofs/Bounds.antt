-- How many events a recording has: each has at least 24 of its bytes.
use Rattle.std.proofs.Common.{◌≡◌, ◌≤◌, ◌+◌, ◌*◌, ℕ, zero, suc, List, [], ◌∷◌, ◌++◌, length, refl, sym, ap, ◌∙◌, subst, arith, append-nil}
use Rattle.std.proofs.lemmas.List.{length-append}
use Rattle.lnfs_types.specs.declared.event.Event.{Event}
use Rattle.lnfs_xdr.specs.Format.{Spells, times}
use Rattle.lnfs_xdr.proofs.Laws.{again}
use Rattle.lnfs_traffic.specs.Recording.{event, IsRecording, beginning}
use Rattle.lnfs_traffic.specs.Pieces.{Reads}
use Rattle.lnfs_traffic.proofs.Cutting.{cut}

one_more : (a b c n l : ℕ) → 24 ≤ a → 24 * n ≤ b → l ≡ a + (b + c) → 24 * suc n ≤ l
one_more a b c n l p q e = omega (arith, p, q, e)

first_long : (e : Event) (bytes : List ℕ) → Spells event e bytes → 24 ≤ length bytes
first_long e bytes s =
    let c = cut (bytes ++ []) e [] (again event e bytes [] s) in
    let w : c.size ≤ length bytes = subst (λ (l : List ℕ). c.size ≤ length l) (append-nil bytes) c.left.within in
    omega (arith, c.whole, w)

pub spelled_long : (events : List Event) (bytes : List ℕ) → Spells (times (length events) event) events bytes → 24 * length events ≤ length bytes
spelled_long [] bytes s = omega arith
spelled_long (e ∷ events) bytes s =
    let t = s.4 in
    let list : s.0 ∷ t.0 ≡ e ∷ events = t.4.0 in
    let head : s.0 ≡ e = cc in
    let tail : t.0 ≡ events = cc in
    let one : Spells event e s.1 = subst (λ (x : Event). Spells event x s.1) head s.3 in
    let more : Spells (times (length events) event) events t.1 = subst (λ (xs : List Event). Spells (times (length events) event) xs t.1) tail t.3 in
    let long : length bytes ≡ length s.1 + (length t.1 + length t.2) =
    ap length s.5 ∙ length-append s.1 s.2 ∙ ap (λ (n : ℕ). length s.1 + n) (ap length t.5 ∙ length-append t.1 t.2) in
    one_more (length s.1) (length t.1) (length t.2) (length events) (length bytes) (first_long e s.1 one) (spelled_long events t.1 more) long

recording_long : (events : List Event) (bytes : List ℕ) → IsRecording events bytes → 24 * length events ≤ length bytes
recording_long events bytes r =
    let body : 24 * length events ≤ length r.body = spelled_long events r.body r.spelled in
    let long : length bytes ≡ length beginning + length r.body = ap length r.begun ∙ length-append beginning r.body in
    omega (arith, body, long)

pub reads_long : (fed : List ℕ) (events : List Event) (place : ℕ) (rest : List ℕ) → Reads fed events place rest → 24 * length events ≤ length fed
reads_long fed events zero rest r = subst (λ (es : List Event). 24 * length es ≤ length fed) (sym (r.none refl)) (omega arith)
reads_long fed events (suc n) rest r =
    let some : 24 * length events ≤ length r.front = recording_long events r.front (r.some (omega arith)) in
    let long : length fed ≡ length r.front + length rest = ap length r.parts ∙ length-append r.front rest in
    omega (arith, some, long)
