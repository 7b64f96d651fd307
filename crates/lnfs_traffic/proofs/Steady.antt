-- What no event begins with stays so, whatever follows it.
use Rattle.std.proofs.Common.{◌≡◌, ◌⊎◌, ℕ, ◌<◌, Bool, true, false, cond, List, [], ◌∷◌, ◌++◌, length, take, drop, Result, Ok, Err, refl, sym, ap, subst, ◌∙◌, inl, inr, arith, append_assoc}
use Rattle.std.specs.Prelude.{nat_lt}
use Rattle.std.specs.Int.{w32, w64, byte_len, from_be_bytes}
use Rattle.std.specs.Result.{IsErr}
use Rattle.lnfs_types.specs.declared.limits.TheConstants.{RECORD_LIMIT}
use Rattle.lnfs_types.specs.declared.event.Event.{Event}
use Rattle.lnfs_types.specs.Moments.{is_moment}
use Rattle.lnfs_xdr.specs.declared.error.XdrError.{XdrError}
use Rattle.lnfs_xdr.specs.declared.error.XdrError.TheVariants.{Short, TooLong}
use Rattle.lnfs_xdr.specs.Format.{Format, Word, Long, Count, Raw, Outside, Done, If, ◌>>=◌}
use Rattle.lnfs_xdr.specs.Reading.{Stop, Read, Item, Fault, Leaves, here, after, read, number_at}
use Rattle.lnfs_xdr.proofs.Fields.{IsBytes}
use Rattle.lnfs_xdr.proofs.Laws.{found, again}
use Rattle.lnfs_traffic.specs.Recording.{event}
use Rattle.lnfs_traffic.specs.Stages.{Part, Damage, stage_of}
use Rattle.lnfs_traffic.proofs.Cutting.{made, sized, untimed, timed, linked}

abbrev pub Damaged : {A : Type 0} → Read (Unit {0}) A → Type 0
Damaged r = stage_of r ≡ Damage

pub part_err : {A : Type 0} (r : Read (Unit {0}) A) → stage_of r ≡ Part → IsErr r
part_err (Ok x) e = absurd cc
part_err (Err stop) e = refl

pub damage_err : {A : Type 0} (r : Read (Unit {0}) A) → Damaged r → IsErr r
damage_err (Ok x) e = absurd cc
damage_err (Err stop) e = refl

outcome : {A S : Type 0} (r : Result A S) → ((x : A) × (r ≡ Ok x)) ⊎ ((s : S) × (r ≡ Err s))
outcome (Ok x) = inl (x, refl)
outcome (Err s) = inr (s, refl)

-- what is read is read before more bytes
more_ok : {A : Type 0} (f : Format (Unit {0}) A) (bytes more : List ℕ) (x : A × List ℕ) → IsBytes bytes → read f bytes ≡ Ok x → read f (bytes ++ more) ≡ Ok (x.0, x.1 ++ more)
more_ok f bytes more x fits e =
    let t = found f bytes x fits e in
    ap (read f) (ap (λ (b : List ℕ). b ++ more) t.takes.parts ∙ append_assoc t.front x.1 more) ∙ again f x.0 t.front (x.1 ++ more) t.spelled

-- a format of which what doesn't begin with it stays so
abbrev Steady : {A : Type 0} → Format (Unit {0}) A → Type 0
Steady f = (bytes more : List ℕ) → IsBytes bytes → Damaged (read f bytes) → Damaged (read f (bytes ++ more))

never_short : {A : Type 0} (b : Bool) (x : A × List ℕ) (bytes : List ℕ) → Damaged (here bytes (cond b (Err Short) (Ok x))) → ⊥
never_short true x bytes e = absurd cc
never_short false x bytes e = absurd cc

steady_word : Steady Word
steady_word bytes more fits e = absurd (never_short (nat_lt (length bytes) (byte_len w32)) (from_be_bytes w32 (take (byte_len w32) bytes), drop (byte_len w32) bytes) bytes e)

steady_long : Steady Long
steady_long bytes more fits e = absurd (never_short (nat_lt (length bytes) (byte_len w64)) (from_be_bytes w64 (take (byte_len w64) bytes), drop (byte_len w64) bytes) bytes e)

steady_raw : (n : ℕ) → Steady (Raw n)
steady_raw n bytes more fits e = absurd (never_short (nat_lt (length bytes) n) (take n bytes, drop n bytes) bytes e)

damaged_after : {A B : Type 0} (r : Read (Unit {0}) A) (k : A → List ℕ → Read (Unit {0}) B) → Damaged r → Damaged (after r k)
damaged_after (Ok x) k e = absurd cc
damaged_after (Err (Fault cause stuck)) k e = e
damaged_after (Err (Leaves s)) k e = refl

only_first : {A B : Type 0} (s : Stop (Unit {0})) (k : A → List ℕ → Read (Unit {0}) B) → Damaged (after (Err s) k) → Damaged {A = A} (Err s)
only_first (Fault cause stuck) k e = e
only_first (Leaves s) k e = refl

steady_then : {A B : Type 0} (f : Format (Unit {0}) A) (k : A → Format (Unit {0}) B) → Steady f → ((a : A) → Steady (k a)) → Steady (f >>= k)
steady_then {A} {B} f k first others bytes more fits e =
    let next : A → List ℕ → Read (Unit {0}) B = λ a rest. read (k a) rest in
    elim (outcome (read f bytes)) [
      | inl x ↦
          let rest : Damaged (read (k x.0.0) x.0.1) = subst (λ (r : Read (Unit {0}) A). Damaged (after r next)) x.1 e in
          let t = found f bytes x.0 fits x.1 in
          subst (λ (r : Read (Unit {0}) A). Damaged (after r next)) (sym (more_ok f bytes more x.0 fits x.1)) (others x.0.0 x.0.1 more t.takes.rest_fits rest)
      | inr s ↦
          let stopped : Damaged (after (Err s.0) next) = subst (λ (r : Read (Unit {0}) A). Damaged (after r next)) s.1 e in
          let here_stopped : Damaged (read f bytes) = subst (λ (r : Read (Unit {0}) A). Damaged r) (sym s.1) (only_first {A = A} {B = B} s.0 next stopped) in
          damaged_after (read f (bytes ++ more)) next (first bytes more fits here_stopped)
    ]

steady_if : {A : Type 0} (b : Bool) (f g : Format (Unit {0}) A) → Steady f → Steady g → Steady (If b f g)
steady_if true f g p q bytes more fits e = p bytes more fits e
steady_if false f g p q bytes more fits e = q bytes more fits e

steady_outside : (A : Type 0) → Steady (Outside {A = A} tt)
steady_outside A bytes more fits e = refl

steady_done : {A : Type 0} (x : A) → Steady (Done x)
steady_done x bytes more fits e = absurd cc

-- a length that is there and too large
over : (b : Bool) (bytes more rest : List ℕ) (n : ℕ) → Damaged (here bytes (cond b (Err TooLong) (Ok (n, rest)))) → Damaged (here (bytes ++ more) (cond b (Err TooLong) (Ok (n, rest ++ more))))
over true bytes more rest n d = refl
over false bytes more rest n d = absurd cc

here_same : {A : Type 0} (bytes : List ℕ) (i : Item A) (x : A × List ℕ) → here {E = Unit {0}} bytes i ≡ Ok x → i ≡ Ok x
here_same bytes (Ok y) x e = cc
here_same bytes (Err c) x e = absurd cc

abbrev check : ℕ → ℕ → List ℕ → Item ℕ
check max n rest = cond (nat_lt max n) (Err TooLong) (Ok (n, rest))

only_word : (max : ℕ) (bytes : List ℕ) (s : XdrError) → Damaged (here bytes (after (Err s) (check max))) → Damaged {A = ℕ} (here bytes (Err s))
only_word max bytes s e = e

steady_count : (max : ℕ) → Steady (Count max)
steady_count max bytes more fits e =
    elim (outcome (number_at w32 bytes)) [
      | inl x ↦
          let word : read {E = Unit {0}} Word bytes ≡ Ok x.0 = ap (here bytes) x.1 in
          let later : number_at w32 (bytes ++ more) ≡ Ok (x.0.0, x.0.1 ++ more) = here_same (bytes ++ more) (number_at w32 (bytes ++ more)) (x.0.0, x.0.1 ++ more) (more_ok Word bytes more x.0 fits word) in
          let large : Damaged (here bytes (check max x.0.0 x.0.1)) = subst (λ (r : Item ℕ). Damaged (here bytes (after r (check max)))) x.1 e in
          subst (λ (r : Item ℕ). Damaged (here (bytes ++ more) (after r (check max)))) (sym later) (over (nat_lt max x.0.0) bytes more x.0.1 x.0.0 large)
      | inr s ↦
          let short : Damaged {A = ℕ} (here bytes (number_at w32 bytes)) = subst (λ (r : Item ℕ). Damaged (here bytes r)) (sym s.1) (only_word max bytes s.0 (subst (λ (r : Item ℕ). Damaged (here bytes (after r (check max)))) s.1 e)) in
          absurd (never_short (nat_lt (length bytes) (byte_len w32)) (from_be_bytes w32 (take (byte_len w32) bytes), drop (byte_len w32) bytes) bytes short)
    ]

steady_sized : (class link secs nanos : ℕ) → Steady (sized class link secs nanos)
steady_sized class link secs nanos = steady_then (Count RECORD_LIMIT) (λ size. Raw size >>= λ message. Done (made class link secs nanos message)) (steady_count RECORD_LIMIT)
    (λ size. steady_then (Raw size) (λ message. Done (made class link secs nanos message)) (steady_raw size) (λ message. steady_done (made class link secs nanos message)))

steady_timed : (class link secs nanos : ℕ) → Steady (timed class link secs nanos)
steady_timed class link secs nanos = steady_if (is_moment secs nanos) (sized class link secs nanos) untimed (steady_sized class link secs nanos) (steady_outside Event)

steady_linked : (class link : ℕ) → Steady (linked class link)
steady_linked class link = steady_then Long (λ secs. Word >>= λ nanos. timed class link secs nanos) steady_long
    (λ secs. steady_then Word (λ nanos. timed class link secs nanos) steady_word (λ nanos. steady_timed class link secs nanos))

pub stays : (bytes more : List ℕ) → IsBytes bytes → Damaged (read event bytes) → Damaged (read event (bytes ++ more))
unfolding event
stays = steady_then Word (λ class. Word >>= λ link. linked class link) steady_word
    (λ class. steady_then Word (λ link. linked class link) steady_word (λ link. steady_linked class link))

-- nothing is no damage
pub not_nothing : (bytes : List ℕ) → Damaged (read event bytes) → 0 < length bytes
unfolding event
not_nothing [] e = absurd cc
not_nothing (b ∷ bytes) e = omega arith
