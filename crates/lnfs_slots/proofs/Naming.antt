-- What identifiers name is what they were written for.
use Rattle.std.proofs.Common.{◌≡◌, ℕ, ◌+◌, ◌*◌, ◌/◌, ◌%◌, ◌^◌, ◌<◌, true, [], ◌∷◌, drop, refl, arith}
use Rattle.std.specs.Str.{bytes_eq}
use Rattle.std.proofs.lemmas.Nat.{from_be_bytes-to_be_bytes_4, from_be_bytes-to_be_bytes_8}
use Rattle.lnfs_arguments.specs.Identifiers.{client_id, session_id}
use Rattle.lnfs_operations.specs.Identifiers.{client_named, session_named}
use Rattle.lnfs_xdr.specs.Canon.{word, long}

module _ (level number : ℕ) (l : level < 2 ^ 32) where
  pub session_named_is : number < 2 ^ 64 → session_named (session_id level number) ≡ record { level = level; number = number }
  unfolding word long
  session_named_is n = λ k. record { level = from_be_bytes-to_be_bytes_4 level l k; number = from_be_bytes-to_be_bytes_8 number n k }

  pub session_whole : bytes_eq (drop 12 (session_id level number)) (0 ∷ 0 ∷ 0 ∷ 0 ∷ []) ≡ true
  unfolding word long
  session_whole = refl

  pub client_named_is : number < 2 ^ 32 → client_named (client_id level number) ≡ record { level = level; number = number }
  client_named_is n = λ k. record { level = upper k; number = lower k }
    where
      upper : (level * 2 ^ 32 + number) / 2 ^ 32 ≡ level
      upper = omega (arith, n)

      lower : (level * 2 ^ 32 + number) % 2 ^ 32 ≡ number
      lower = omega (arith, n)
