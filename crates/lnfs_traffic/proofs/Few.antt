-- How few bytes there are where an event isn't whole for want of bytes.
use Rattle.std.proofs.Common.{◌≡◌, ℕ, ◌+◌, ◌<◌, Bool, true, false, cond, List, length, take, drop, Ok, Err, refl, arith}
use Rattle.std.specs.Prelude.{nat_lt}
use Rattle.std.specs.Int.{Width, w32, w64, byte_len, from_be_bytes}
use Rattle.std.proofs.lemmas.Bool.Decides.{nat_tests}
use Rattle.lnfs_types.specs.declared.limits.TheConstants.{RECORD_LIMIT}
use Rattle.lnfs_xdr.specs.declared.error.XdrError.{XdrError}
use Rattle.lnfs_xdr.specs.declared.error.XdrError.TheVariants.{Short, TooLong}
use Rattle.lnfs_xdr.specs.Reading.{Item, after, number_at, count_at, raw_at}
use Rattle.lnfs_traffic.specs.Recording.{event_limit}
use Rattle.lnfs_traffic.proofs.Cutting.{number_left, count_left, left_length}

guarded : {A : Type 0} (b : Bool) (x : A) (e : XdrError) → cond b (Err Short) (Ok x) ≡ Err e → b ≡ true
guarded true x e h = refl
guarded false x e h = absurd cc

number_few : (w : Width) (bytes : List ℕ) (e : XdrError) → number_at w bytes ≡ Err e → length bytes < byte_len w
number_few w bytes e h =
    let b = guarded (nat_lt (length bytes) (byte_len w)) (from_be_bytes w (take (byte_len w) bytes), drop (byte_len w) bytes) e h in
    grind (arith, nat_tests, b)

raw_few : (n : ℕ) (bytes : List ℕ) (e : XdrError) → raw_at n bytes ≡ Err e → length bytes < n
raw_few n bytes e h =
    let b = guarded (nat_lt (length bytes) n) (take n bytes, drop n bytes) e h in
    grind (arith, nat_tests, b)

no_more_than : {A : Type 0} (b : Bool) (x : A) → cond b (Err TooLong) (Ok x) ≡ Err Short → ⊥
no_more_than true x h = absurd cc
no_more_than false x h = absurd cc

count_of : (max : ℕ) (r : Item ℕ) → after r (λ n rest. cond (nat_lt max n) (Err TooLong) (Ok (n, rest))) ≡ Err Short → r ≡ Err Short
count_of max (Ok x) h = absurd (no_more_than (nat_lt max x.0) (x.0, x.1) h)
count_of max (Err e) h = h

count_few : (max : ℕ) (bytes : List ℕ) → count_at max bytes ≡ Err Short → length bytes < 4
count_few max bytes h = number_few w32 bytes Short (count_of max (number_at w32 bytes) h)

-- the head of an event up to its length
module _ (a b c d s : List ℕ) (class link secs nanos : ℕ) (w : number_at w32 a ≡ Ok (class, b)) (x : number_at w32 b ≡ Ok (link, c)) (y : number_at w64 c ≡ Ok (secs, d)) (z : number_at w32 d ≡ Ok (nanos, s)) where
  head : length a ≡ length s + 20
  head = omega (arith, left_length (number_left w32 a (class, b) w), left_length (number_left w32 b (link, c) x), left_length (number_left w64 c (secs, d) y), left_length (number_left w32 d (nanos, s) z))

  pub few_size : count_at RECORD_LIMIT s ≡ Err Short → length a < event_limit
  few_size h = omega (arith, head, count_few RECORD_LIMIT s h)

  pub few_message : (size : ℕ) (m : List ℕ) (e : XdrError) → count_at RECORD_LIMIT s ≡ Ok (size, m) → raw_at size m ≡ Err e → length a < event_limit
  few_message size m e k h =
      let l = count_left RECORD_LIMIT s (size, m) k in
      omega (arith, head, l.0, left_length l.1, raw_few size m e h)
