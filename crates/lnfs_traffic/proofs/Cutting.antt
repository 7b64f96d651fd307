-- The event at the front of bytes, and what is left behind it.
use Rattle.std.proofs.Common.{◌≡◌, ℕ, ◌+◌, ◌≤◌, true, false, cond, List, length, take, drop, Ok, Err, refl, sym, subst, ap, ◌∙◌, inl, inr, arith}
use Rattle.std.specs.Prelude.{nat_lt}
use Rattle.std.specs.Int.{Width, w32, w64, byte_len, from_be_bytes}
use Rattle.std.proofs.lemmas.Grind.{common_steps}
use Rattle.std.proofs.lemmas.Bool.Decides.{nat_tests}
use Rattle.lnfs_types.specs.declared.limits.TheConstants.{RECORD_LIMIT}
use Rattle.lnfs_types.specs.declared.event.Event.{Event}
use Rattle.lnfs_types.specs.Moments.{is_moment, Fits}
use Rattle.lnfs_xdr.specs.declared.error.XdrError.TheVariants.{Short, TooLong}
use Rattle.lnfs_xdr.specs.Format.{Format, Word, Long, Count, Raw, Outside, Done, ◌>>=◌, when◌then◌else◌}
use Rattle.lnfs_xdr.specs.Reading.{Stop, Leaves, read, number_at, count_at, raw_at}
use Rattle.lnfs_xdr.proofs.Fields.{after_ok, chosen, guard_ok, here_ok}
use Rattle.lnfs_traffic.specs.Recording.{event}

-- so many bytes were read
pub record Left (bytes : List ℕ) (n : ℕ) (rest : List ℕ) : Type 0 where
  pub within : n ≤ length bytes
  pub rest_is : rest ≡ drop n bytes

twice : (m n k : ℕ) (xs : List ℕ) → k ≡ m + n → drop n (drop m xs) ≡ drop k xs
twice m n k xs e = grind (arith, common_steps)

pub left_length : {a b : List ℕ} {n : ℕ} → Left a n b → length b + n ≡ length a
left_length {a} {b} {n} p = rw p.rest_is (let w = p.within in grind (arith, common_steps, w))

left_then : {a b c : List ℕ} (m n k : ℕ) → k ≡ m + n → Left a m b → Left b n c → Left a k c
left_then {a} {b} {c} m n k e p q =
    let l = left_length p in
    record { within = omega (arith, l, q.within, e); rest_is = q.rest_is ∙ ap (drop n) p.rest_is ∙ twice m n k a e }

pub number_left : (w : Width) (bytes : List ℕ) (x : ℕ × List ℕ) → number_at w bytes ≡ Ok x → Left bytes (byte_len w) x.1
number_left w bytes x e =
    let g = guard_ok (nat_lt (length bytes) (byte_len w)) Short (from_be_bytes w (take (byte_len w) bytes), drop (byte_len w) bytes) x e in
    record { within = let b = g.0 in grind (arith, nat_tests, b); rest_is = let s : (from_be_bytes w (take (byte_len w) bytes), drop (byte_len w) bytes) ≡ x = g.1 in sym (ap (λ (p : ℕ × List ℕ). p.1) s) }

pub count_left : (max : ℕ) (bytes : List ℕ) (x : ℕ × List ℕ) → count_at max bytes ≡ Ok x → (x.0 ≤ max) × Left bytes 4 x.1
count_left max bytes x e =
    let a = after_ok (number_at w32 bytes) (λ n rest. cond (nat_lt max n) (Err TooLong) (Ok (n, rest))) x e in
    let g = guard_ok (nat_lt max a.0.0) TooLong (a.0.0, a.0.1) x a.2 in
    let n : a.0.0 ≡ x.0 = ap (λ (p : ℕ × List ℕ). p.0) g.1 in
    let r : a.0.1 ≡ x.1 = ap (λ (p : ℕ × List ℕ). p.1) g.1 in
    let le : a.0.0 ≤ max = let b = g.0 in grind (arith, nat_tests, b) in
    let l = number_left w32 bytes a.0 a.1 in
    (omega (arith, le, n), record { within = l.within; rest_is = sym r ∙ l.rest_is })

raw_left : (n : ℕ) (bytes : List ℕ) (x : List ℕ × List ℕ) → raw_at n bytes ≡ Ok x → (length x.0 ≤ n) × Left bytes n x.1
raw_left n bytes x e =
    let g = guard_ok (nat_lt (length bytes) n) Short (take n bytes, drop n bytes) x e in
    let v : take n bytes ≡ x.0 = ap (λ (p : List ℕ × List ℕ). p.0) g.1 in
    let r : drop n bytes ≡ x.1 = ap (λ (p : List ℕ × List ℕ). p.1) g.1 in
    (rw (sym v) (grind (arith, common_steps)), record { within = let b = g.0 in grind (arith, nat_tests, b); rest_is = sym r })

-- a format of two is read in two steps
steps : {E A B : Type 0} (f : Format E A) (k : A → Format E B) (bytes : List ℕ) (y : B × List ℕ) → read (f >>= k) bytes ≡ Ok y → (x : A × List ℕ) × (read f bytes ≡ Ok x) × (read (k x.0) x.1 ≡ Ok y)
steps f k bytes y e = after_ok (read f bytes) (λ a rest. read (k a) rest) y e

-- the event of these fields, and the formats of what follows each of them
abbrev pub made : ℕ → ℕ → ℕ → ℕ → List ℕ → Event
made class link secs nanos message = record { class = class; link = link; moment = record { secs = secs; nanos = nanos }; message = message }

abbrev pub sized : ℕ → ℕ → ℕ → ℕ → Format (Unit {0}) Event
sized class link secs nanos = Count RECORD_LIMIT >>= λ size. Raw size >>= λ message. Done (made class link secs nanos message)

abbrev pub untimed : Format (Unit {0}) Event
untimed = Outside tt

abbrev pub timed : ℕ → ℕ → ℕ → ℕ → Format (Unit {0}) Event
timed class link secs nanos = when is_moment secs nanos then sized class link secs nanos else untimed

abbrev pub linked : ℕ → ℕ → Format (Unit {0}) Event
linked class link = Long >>= λ secs. Word >>= λ nanos. timed class link secs nanos

-- what an event takes of the bytes
pub record Cut (bytes : List ℕ) (e : Event) (rest : List ℕ) : Type 0 where
  pub size : ℕ
  pub whole : 24 ≤ size
  pub left : Left bytes size rest
  pub fits : Fits e

cut_sized : (class link secs nanos : ℕ) (bytes : List ℕ) (e : Event) (rest : List ℕ) → is_moment secs nanos ≡ true → read (sized class link secs nanos) bytes ≡ Ok (e, rest)
    → (n : ℕ) × Left bytes (4 + n) rest × Fits e
cut_sized class link secs nanos bytes e rest m h =
    let z = steps {E = Unit {0}} (Count RECORD_LIMIT) (λ size. Raw size >>= λ message. Done (made class link secs nanos message)) bytes (e, rest) h in
    let v = steps {E = Unit {0}} (Raw z.0.0) (λ message. Done (made class link secs nanos message)) z.0.1 (e, rest) z.2 in
    let c = count_left RECORD_LIMIT bytes z.0 (here_ok bytes (count_at RECORD_LIMIT bytes) z.0 z.1) in
    let r = raw_left z.0.0 z.0.1 v.0 (here_ok z.0.1 (raw_at z.0.0 z.0.1) v.0 v.1) in
    let both : (made class link secs nanos v.0.0, v.0.1) ≡ (e, rest) = (guard_ok {D = Stop (Unit {0})} false (Leaves tt) (made class link secs nanos v.0.0, v.0.1) (e, rest) v.2).1 in
    let is_event : made class link secs nanos v.0.0 ≡ e = ap (λ (p : Event × List ℕ). p.0) both in
    let is_rest : v.0.1 ≡ rest = ap (λ (p : Event × List ℕ). p.1) both in
    let l = left_then 4 z.0.0 (4 + z.0.0) refl c.1 r.1 in (
      z.0.0,
      record { within = l.within; rest_is = sym is_rest ∙ l.rest_is },
      subst Fits is_event (record { short = omega (arith, c.0, r.0); secs = grind (arith, nat_tests, m); nanos = grind (arith, nat_tests, m) }),
    )

pub cut : (bytes : List ℕ) (e : Event) (rest : List ℕ) → read event bytes ≡ Ok (e, rest) → Cut bytes e rest
unfolding event
cut bytes e rest h =
    let c = steps {E = Unit {0}} Word (λ class. Word >>= λ link. linked class link) bytes (e, rest) h in
    let l = steps {E = Unit {0}} Word (λ link. linked c.0.0 link) c.0.1 (e, rest) c.2 in
    let s = steps {E = Unit {0}} Long (λ secs. Word >>= λ nanos. timed c.0.0 l.0.0 secs nanos) l.0.1 (e, rest) l.2 in
    let n = steps {E = Unit {0}} Word (λ nanos. timed c.0.0 l.0.0 s.0.0 nanos) s.0.1 (e, rest) s.2 in
    let cl = number_left w32 bytes c.0 (here_ok bytes (number_at w32 bytes) c.0 c.1) in
    let ll = number_left w32 c.0.1 l.0 (here_ok c.0.1 (number_at w32 c.0.1) l.0 l.1) in
    let sl = number_left w64 l.0.1 s.0 (here_ok l.0.1 (number_at w64 l.0.1) s.0 s.1) in
    let nl = number_left w32 s.0.1 n.0 (here_ok s.0.1 (number_at w32 s.0.1) n.0 n.1) in
    let head : Left bytes 20 n.0.1 = left_then 16 4 20 refl (left_then 8 8 16 refl (left_then 4 4 8 refl cl ll) sl) nl in
    elim (chosen (is_moment s.0.0 n.0.0) (read (sized c.0.0 l.0.0 s.0.0 n.0.0) n.0.1) (read untimed n.0.1) (Ok (e, rest)) n.2) [
      | inl valid ↦
          let t = cut_sized c.0.0 l.0.0 s.0.0 n.0.0 n.0.1 e rest valid.0 valid.1 in
          record { size = 24 + t.0; whole = omega arith; left = left_then 20 (4 + t.0) (24 + t.0) (omega arith) head t.1; fits = t.2 }
      | inr bad ↦ absurd (let f = bad.1 in cc)
    ]
