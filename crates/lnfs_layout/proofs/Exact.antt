-- From what reading gives to what the bytes are.
use Rattle.std.proofs.Common.{◌≡◌, ℕ, Bool, true, false, List, ◌++◌, length, Result, Option, Some, None, Ok, Err, refl, ap, subst, ◌∙◌, arith, inl, inr}
use Rattle.std.specs.Prelude.{IfOk}
use Rattle.std.specs.Str.{bytes_eq}
use Rattle.std.specs.Int.{w64, to_be_bytes}
use Rattle.std.proofs.lemmas.Bool.{eqb-true}
use Rattle.std.proofs.lemmas.Slice.Eq.{bytes_eq-Decides}
use Rattle.lnfs_xdr.specs.Format.{Spells}
use Rattle.lnfs_xdr.specs.Canon.{long}
use Rattle.lnfs_xdr.specs.Message.{Closed, Unread, Next, Tells, Refuses, RefusesAt, parse}
use Rattle.lnfs_xdr.proofs.Fields.{IsBytes}
use Rattle.lnfs_xdr.proofs.Messages.{tells, told, refuses, refused}
use Rattle.lnfs_layout.specs.declared.numbers.TheConstants.{MAGIC, DIGEST}
use Rattle.lnfs_layout.specs.declared.errors.LayoutError.{LayoutError}
use Rattle.lnfs_layout.specs.declared.errors.LayoutError.TheVariants as errors
use Rattle.lnfs_layout.specs.declared.reading.Laid.{Laid}
use Rattle.lnfs_layout.specs.Whole.{Told, head, body, chosen, layout, IsOfAnother}
use Rattle.lnfs_layout.specs.Parsing.{Answers, IfDamaged, IfPolicy, told_of}

-- ---- the bytes of another policy

-- the front spells the name of the layout and 32 bytes
abbrev Heads : List ℕ → List ℕ → Type 0
Heads given front = (length given ≡ DIGEST) × (front ≡ long MAGIC ++ given)

heads : (given front : List ℕ) → Spells head given front → Heads given front
unfolding head long
heads given front s =
    let magic : s.0 ≡ MAGIC = eqb-true s.0 MAGIC s.3.0 in
    (s.4.0, s.5 ∙ ap (λ (b : List ℕ). b ++ s.2) (s.3.2 ∙ ap (to_be_bytes w64) magic) ∙ ap (λ (b : List ℕ). to_be_bytes w64 MAGIC ++ b) s.4.1)

is_head : (given : List ℕ) → length given ≡ DIGEST → Spells head given (long MAGIC ++ given)
unfolding head long
is_head given size = (MAGIC, to_be_bytes w64 MAGIC, given, (refl, omega arith, refl), (size, refl), refl)

-- of what follows the digest, nothing is told where it is another
nothing_told : (levels : ℕ) (b : Bool) (bytes : List ℕ) → Tells (chosen b (Next (body levels) (λ t. Closed (Some t)) (λ e. absurd e)) (Unread {B = Option Told} None)) None bytes → b ≡ false
nothing_told levels true bytes t =
    elim t [
      | inl p ↦ absurd (let no = p.5.0 in cc)
      | inr p ↦ absurd p.0
    ]
nothing_told levels false bytes t = refl

tells_nothing : (levels : ℕ) (b : Bool) (bytes : List ℕ) → b ≡ false → Tells (chosen b (Next (body levels) (λ t. Closed (Some t)) (λ e. absurd e)) (Unread {B = Option Told} None)) None bytes
tells_nothing levels true bytes e = absurd cc
tells_nothing levels false bytes e = refl

-- a test that fails
fails : (b : Bool) → (b ≡ true → ⊥) → b ≡ false
fails true never = absurd (never refl)
fails false never = refl

another : (levels : ℕ) (digest bytes : List ℕ) → Tells (layout levels digest) None bytes → IsOfAnother digest bytes
unfolding layout
another levels digest bytes t =
    elim t [
      | inl p ↦
          let front = heads p.0 p.1 p.3 in
          let off : bytes_eq p.0 digest ≡ false = nothing_told levels (bytes_eq p.0 digest) p.2 p.5 in
          (p.0, p.2, front.0, λ same. (let on = (bytes_eq-Decides p.0 digest).1 same in absurd cc), p.4 ∙ ap (λ (b : List ℕ). b ++ p.2) front.1)
      | inr p ↦ absurd p.0
    ]

pub is_another : (levels : ℕ) (digest bytes : List ℕ) → IsOfAnother digest bytes → Tells (layout levels digest) None bytes
unfolding layout
is_another levels digest bytes o =
    let off : bytes_eq o.0 digest ≡ false = fails (bytes_eq o.0 digest) (λ on. o.3 ((bytes_eq-Decides o.0 digest).0 on)) in
    inl (o.0, long MAGIC ++ o.0, o.1, is_head o.0 o.2, o.4, tells_nothing levels (bytes_eq o.0 digest) o.1 off)

-- ---- from reading

pub is_found : (levels : ℕ) (digest bytes : List ℕ) (r : Result Laid LayoutError) → IsBytes bytes → Answers r bytes (parse (layout levels digest) bytes) → IfOk r (λ l. Tells (layout levels digest) (Some (told_of l)) bytes)
is_found levels digest bytes (Ok l) fits given = tells (layout levels digest) bytes (Some (told_of l)) fits given
is_found levels digest bytes (Err e) fits given = tt

pub is_policy : (levels : ℕ) (digest bytes : List ℕ) (r : Result Laid LayoutError) → IsBytes bytes → Answers r bytes (parse (layout levels digest) bytes) → IfPolicy r (IsOfAnother digest bytes)
is_policy levels digest bytes (Ok l) fits given = tt
is_policy levels digest bytes (Err errors.Memory) fits given = tt
is_policy levels digest bytes (Err errors.Policy) fits given = another levels digest bytes (tells (layout levels digest) bytes None fits given)
is_policy levels digest bytes (Err (errors.Damaged at)) fits given = tt

pub is_damaged : (levels : ℕ) (digest bytes : List ℕ) (r : Result Laid LayoutError) → IsBytes bytes → Answers r bytes (parse (layout levels digest) bytes) → IfDamaged r (λ at. RefusesAt (layout levels digest) bytes at)
is_damaged levels digest bytes (Ok l) fits given = tt
is_damaged levels digest bytes (Err errors.Memory) fits given = tt
is_damaged levels digest bytes (Err errors.Policy) fits given = tt
is_damaged levels digest bytes (Err (errors.Damaged at)) fits given = (given.0, refuses (layout levels digest) bytes given.0 fits given.1, given.2)

pub only_found : (levels : ℕ) (digest bytes : List ℕ) (r : Result Laid LayoutError) → IsBytes bytes → Answers r bytes (parse (layout levels digest) bytes) → (t : Told) → Tells (layout levels digest) (Some t) bytes → Answers r bytes (Ok (Some t))
only_found levels digest bytes r fits given t is = subst (Answers r bytes) (told (layout levels digest) bytes (Some t) fits is) given

pub only_other : (levels : ℕ) (digest bytes : List ℕ) (r : Result Laid LayoutError) → IsBytes bytes → Answers r bytes (parse (layout levels digest) bytes) → IsOfAnother digest bytes → Answers r bytes (Ok None)
only_other levels digest bytes r fits given o = subst (Answers r bytes) (told (layout levels digest) bytes None fits (is_another levels digest bytes o)) given

pub only_damaged : (levels : ℕ) (digest bytes : List ℕ) (r : Result Laid LayoutError) → IsBytes bytes → Answers r bytes (parse (layout levels digest) bytes) → (stuck : List ℕ) → Refuses (layout levels digest) bytes stuck → Answers r bytes (Err stuck)
only_damaged levels digest bytes r fits given stuck is = subst (Answers r bytes) (refused (layout levels digest) bytes stuck fits is) given
