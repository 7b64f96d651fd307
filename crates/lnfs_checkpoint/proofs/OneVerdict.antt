-- Bytes have one verdict.
use Rattle.std.proofs.Common.{◌≡◌, ℕ, List, length, Option, Some, None, Result, Ok, Err, refl, sym, ap, ◌∙◌, subst, arith}
use Rattle.lnfs_policy.specs.Policy.{Policy}
use Rattle.lnfs_site.specs.Site.{site_of}
use Rattle.lnfs_xdr.specs.Message.{Tells, RefusesAt, parse}
use Rattle.lnfs_xdr.proofs.Fields.{IsBytes}
use Rattle.lnfs_xdr.proofs.Messages.{told, refused}
use Rattle.lnfs_layout.specs.Whole.{Told, IsOfAnother}
use Rattle.lnfs_layout.proofs.Alone.{told_alone}
use Rattle.lnfs_layout.proofs.Exact.{is_another}
use Rattle.lnfs_checkpoint.specs.declared.errors.CheckpointError.{CheckpointError}
use Rattle.lnfs_checkpoint.specs.declared.errors.CheckpointError.TheVariants as errors
use Rattle.lnfs_checkpoint.specs.Checkpoint.{checkpoint, digest_of, IsFit}
use Rattle.lnfs_checkpoint.specs.Resumed.{Resumed}
use Rattle.lnfs_checkpoint.specs.Takes.{Verdict, IsVerdict, told_of, Takes, IsTaken}

-- ---- what reading the bytes gives, by each verdict

module _ (p : Policy) (bytes : List ℕ) (fits : IsBytes bytes) where
  abbrev given : Result (Option Told) (List ℕ)
  given = parse (checkpoint p) bytes

  gives_told : (t : Told) → Tells (checkpoint p) (Some t) bytes → given ≡ Ok (Some t)
  gives_told t tells = told (checkpoint p) bytes (Some t) fits tells

  gives_none : IsOfAnother (digest_of p) bytes → given ≡ Ok None
  gives_none of = told (checkpoint p) bytes None fits (is_another (site_of p).levels (digest_of p) bytes of)

  gives_stuck : (at : ℕ) (is : RefusesAt (checkpoint p) bytes at) → given ≡ Err is.0
  gives_stuck at is = refused (checkpoint p) bytes is.0 fits is.1

  one_told : (t u : Told) → Tells (checkpoint p) (Some t) bytes → Tells (checkpoint p) (Some u) bytes → t ≡ u
  one_told t u a b = told_alone (site_of p).levels (digest_of p) bytes t u a b

  told_or_other : (t : Told) → Tells (checkpoint p) (Some t) bytes → IsOfAnother (digest_of p) bytes → ⊥
  told_or_other t a b = let same : Ok (Some t) ≡ Ok None = sym (gives_told t a) ∙ gives_none b in cc

  told_or_stuck : (t : Told) (at : ℕ) → Tells (checkpoint p) (Some t) bytes → RefusesAt (checkpoint p) bytes at → ⊥
  told_or_stuck t at a b = let same : Ok (Some t) ≡ Err b.0 = sym (gives_told t a) ∙ gives_stuck at b in cc

  other_or_stuck : (at : ℕ) → IsOfAnother (digest_of p) bytes → RefusesAt (checkpoint p) bytes at → ⊥
  other_or_stuck at a b = let same : Ok None ≡ Err b.0 = sym (gives_none a) ∙ gives_stuck at b in cc

  stuck_alone : (at by : ℕ) → RefusesAt (checkpoint p) bytes at → RefusesAt (checkpoint p) bytes by → at ≡ by
  stuck_alone at by a b =
      let same : Err a.0 ≡ Err b.0 = sym (gives_stuck at a) ∙ gives_stuck by b in
      let rest : a.0 ≡ b.0 = cc in
      omega (arith, a.2, b.2, ap length rest)

  -- ---- two verdicts

  fit_or_not : (t u : Told) → Tells (checkpoint p) (Some t) bytes → Tells (checkpoint p) (Some u) bytes → IsFit p t.world t.locks → (IsFit p u.world u.locks → ⊥) → ⊥
  fit_or_not t u a b fit unfit = unfit (subst (λ (s : Told). IsFit p s.world s.locks) (one_told t u a b) fit)

  one_ok : (t : Told) (v : Verdict) → IsVerdict p bytes (Ok t) → IsVerdict p bytes v → Ok t ≡ v
  one_ok t (Ok u) a b = ap Ok (one_told t u a.0 b.0)
  one_ok t (Err errors.Policy) a b = absurd (told_or_other t a.0 b)
  one_ok t (Err (errors.Damaged at)) a b = absurd (told_or_stuck t at a.0 b)
  one_ok t (Err errors.Unfit) a b = absurd (fit_or_not t b.0 a.0 b.1 a.1 b.2)
  one_ok t (Err errors.Memory) a b = absurd b

  one_other : (v : Verdict) → IsVerdict p bytes (Err errors.Policy) → IsVerdict p bytes v → Err errors.Policy ≡ v
  one_other (Ok u) a b = absurd (told_or_other u b.0 a)
  one_other (Err errors.Policy) a b = refl
  one_other (Err (errors.Damaged at)) a b = absurd (other_or_stuck at a b)
  one_other (Err errors.Unfit) a b = absurd (told_or_other b.0 b.1 a)
  one_other (Err errors.Memory) a b = absurd b

  one_damaged : (at : ℕ) (v : Verdict) → IsVerdict p bytes (Err (errors.Damaged at)) → IsVerdict p bytes v → Err (errors.Damaged at) ≡ v
  one_damaged at (Ok u) a b = absurd (told_or_stuck u at b.0 a)
  one_damaged at (Err errors.Policy) a b = absurd (other_or_stuck at b a)
  one_damaged at (Err (errors.Damaged by)) a b = ap (λ (n : ℕ). Err (errors.Damaged n)) (stuck_alone at by a b)
  one_damaged at (Err errors.Unfit) a b = absurd (told_or_stuck b.0 at b.1 a)
  one_damaged at (Err errors.Memory) a b = absurd b

  one_unfit : (v : Verdict) → IsVerdict p bytes (Err errors.Unfit) → IsVerdict p bytes v → Err errors.Unfit ≡ v
  one_unfit (Ok u) a b = absurd (fit_or_not u a.0 b.0 a.1 b.1 a.2)
  one_unfit (Err errors.Policy) a b = absurd (told_or_other a.0 a.1 b)
  one_unfit (Err (errors.Damaged at)) a b = absurd (told_or_stuck a.0 at a.1 b)
  one_unfit (Err errors.Unfit) a b = refl
  one_unfit (Err errors.Memory) a b = absurd b

  pub one_alone : (v w : Verdict) → IsVerdict p bytes v → IsVerdict p bytes w → v ≡ w
  one_alone (Ok t) w a b = one_ok t w a b
  one_alone (Err errors.Policy) w a b = one_other w a b
  one_alone (Err (errors.Damaged at)) w a b = one_damaged at w a b
  one_alone (Err errors.Unfit) w a b = one_unfit w a b
  one_alone (Err errors.Memory) w a b = absurd a

-- ---- a state that the bytes are

module _ (p : Policy) (bytes : List ℕ) (fits : IsBytes bytes) (t : Told) (tells : Tells (checkpoint p) (Some t) bytes) (fit : IsFit p t.world t.locks) where
  -- an answer by the verdict is of no other state, and isn't refused
  pub taken_by : (r : Result Resumed CheckpointError) → Takes p bytes r → IsTaken t r
  taken_by (Ok r) takes = one_told p bytes fits (told_of r) t takes.0 tells
  taken_by (Err errors.Policy) takes = told_or_other p bytes fits t tells takes
  taken_by (Err (errors.Damaged at)) takes = told_or_stuck p bytes fits t at tells takes
  taken_by (Err errors.Unfit) takes = fit_or_not p bytes fits t takes.0 tells takes.1 fit takes.2
  taken_by (Err errors.Memory) takes = tt
