-- What may answer an operation is no longer than its bound.
use Rattle.std.proofs.Common.{◌≡◌, ℕ, ◌+◌, ◌≤◌, Bool, true, false, cond, eqb, List, [], ◌∷◌, length, min, refl, subst, arith, inl, inr}
use Rattle.lnfs_arguments.specs.Further.{Further, IsLawful}
use Rattle.lnfs_arguments.specs.Numbers.{op_read}
use Rattle.lnfs_arguments.specs.Numbered as asked
use Rattle.lnfs_arguments.specs.declared.types.Op.{Op}
use Rattle.lnfs_arguments.specs.declared.types.Op.TheVariants as ops
use Rattle.lnfs_results.specs.declared.limits.TheConstants.{MOST_DATA}
use Rattle.lnfs_results.specs.declared.types.OpResult.{OpResult}
use Rattle.lnfs_results.specs.declared.types.OpResult.TheVariants as results
use Rattle.lnfs_results.specs.Numbered as answered
use Rattle.lnfs_results.specs.Texts.{further_text, result_text}
use Rattle.lnfs_results.specs.Fits.{IsOwn, ResultFits}
use Rattle.lnfs_results.specs.Bounds.{IsLimited, bounds, bound_in, bound_at, bound_of, rounded}
use Rattle.lnfs_results.proofs.Bounds.{result-bound, length-result, length-read}
use Rattle.lnfs_results.specs.Answering.{op_bound, IsFailure, IsFurther, MayAnswer, data_of}

-- ---- a number and a status have room everywhere

abbrev AllRoomy : List (ℕ × ℕ) → Type 0
AllRoomy [] = Unit {0}
AllRoomy ((n, most) ∷ more) = (8 ≤ most) × AllRoomy more

either-roomy : (b : Bool) (m n : ℕ) → 8 ≤ m → 8 ≤ n → 8 ≤ cond b m n
either-roomy true m n p q = p
either-roomy false m n p q = q

roomy : (rows : List (ℕ × ℕ)) (number : ℕ) → AllRoomy rows → 8 ≤ bound_in rows number
roomy [] number all = omega arith
roomy ((n, most) ∷ more) number all = either-roomy (eqb number n) most (bound_in more number) all.0 (roomy more number all.1)

least : (number : ℕ) → 8 ≤ bound_at number
least number = roomy bounds number (search arith depth 30)

-- ---- results by their kind

failure-bound : (r : OpResult) → IsFailure r → bound_of r ≤ 8
failure-bound (results.Failed number status) f = omega arith
failure-bound _ f = absurd f

further-bound : (r : OpResult) → IsFurther r → bound_of r ≤ 8 + length (further_text r)
further-bound (results.Extra number status bytes) f = omega arith
further-bound _ f = absurd f

own-bound : (r : OpResult) → IsOwn r → bound_of r ≤ bound_at (answered.number_of r)
own-bound (results.Extra number status bytes) own = absurd own
own-bound (results.Failed number status) own = least number
own-bound _ own = omega arith

own-further : (r : OpResult) → IsOwn r → length (further_text r) ≡ 0
own-further (results.Extra number status bytes) own = absurd own
own-further _ own = refl

numbered : (r : OpResult) (number : ℕ) → answered.number_of r ≡ number → IsOwn r → ResultFits r → IsLimited r → length (result_text r) ≤ bound_at number
numbered r number e own fits lim = subst (λ n. length (result_text r) ≤ bound_at n) e (omega (arith, result-bound r fits lim, own-bound r own))

-- READ's is READ's or a failure
read-bound : (r : OpResult) (most : ℕ) → answered.number_of r ≡ op_read → IsOwn r → ResultFits r → IsLimited r → length (data_of r) ≤ most → most ≤ MOST_DATA → length (result_text r) ≤ 16 + rounded most
read-bound (results.Read eof content) most e own fits lim le small = omega (arith, length-read eof content, le)
read-bound (results.Failed number status) most e own fits lim le small = omega (arith, result-bound (results.Failed number status) fits lim)
read-bound (results.Extra number status bytes) most e own fits lim le small = absurd own
read-bound _ most e own fits lim le small = absurd (omega (arith, e))

-- ---- the law

pub within-bound : (x : Further) (op : Op) (r : OpResult) → IsLawful x → MayAnswer x op r → ResultFits r → IsLimited r → length (result_text r) ≤ op_bound x op
within-bound x (ops.Read id offset count) r law may fits lim = read-bound r (min count MOST_DATA) may.number may.asked.0 fits lim may.asked.1 (omega arith)
within-bound x (ops.ReadDir cookie verifier dircount maxcount asked) r law may fits lim = omega (arith, length-result r, own-further r may.asked.0, may.asked.1)
within-bound x (ops.Outside number status) r law may fits lim = omega (arith, result-bound r fits lim, failure-bound r may.asked)
within-bound x (ops.Extra number args) r law may fits lim =
    elim may.asked [
      | inl f ↦ omega (arith, law.room number args, result-bound r fits lim, failure-bound r f)
      | inr f ↦ omega (arith, result-bound r fits lim, further-bound r f.0, f.1)
    ]
within-bound x op r law may fits lim = numbered r (asked.number_of op) may.number may.asked fits lim
