-- That the serving of a recording ends: each turn counts one more event, or feeds one more byte at least.
use Rattle.std.proofs.Common.{◌≡◌, ◌+◌, ◌-◌, ◌*◌, ◌^◌, ◌<◌, ◌≤◌, ℕ, arith}

-- The events that can be counted still come first, and then the bytes that may be fed.
abbrev pub turns_left : (counted fed : ℕ) → ℕ
turns_left counted fed = (2 ^ 63 - counted) * 2 ^ 64 + (2 ^ 64 - fed)

pub served_falls : (before after fed : ℕ) → after ≡ before + 1 → before < 2 ^ 63 → turns_left after fed < turns_left before fed
served_falls before after fed more few = omega (arith, more, few)

pub fed_falls : (counted fed more all : ℕ) → (fed < all → fed < more) → fed < all → all < 2 ^ 64 → turns_left counted more < turns_left counted fed
fed_falls counted fed more all on rest fits = let further : fed < more = on rest in omega (arith, further, rest, fits)
