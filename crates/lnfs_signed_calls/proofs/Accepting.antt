-- A mechanism that compares takes the signatures that it makes.
use Rattle.std.proofs.Common.{◌≡◌, ℕ, true, List, [], ◌∷◌, arith}
use Rattle.std.specs.Str.{bytes_eq}
use Rattle.lnfs_policy.specs.declared.rows.Parent.{Parent}
use Rattle.lnfs_gss3.specs.Mechanism.{by_equality}
use Rattle.lnfs_signed_calls.specs.Laws.{Accepts}

same_bytes : (xs : List ℕ) → bytes_eq xs xs ≡ true
same_bytes [] = grind arith
same_bytes (x ∷ xs) = grind (arith, same_bytes xs)

pub equality_accepts : (mic_of : Parent → List ℕ → List ℕ) → Accepts (by_equality mic_of)
equality_accepts mic_of parent covered = same_bytes (mic_of parent covered)
