-- What a client may take and put, by the labels alone (RFC 7204 section 3.3, after Bell and LaPadula).
use Rattle.std.specs.Prelude.{ℕ, Bool, true, false, ◌==◌, if◌then◌else◌, Option, Some, None, Result, Ok, Err}
use Rattle.lnfs_calipso.specs.declared.Level.{Level}
use Rattle.lnfs_client.specs.declared.answer.Refusal.{Refusal}
use Rattle.lnfs_client.specs.declared.answer.Refusal.TheVariants.{UnknownLabel, NotDominated, NotEqual}

-- it may take what its level dominates
abbrev pub may_take : (dom : ℕ → ℕ → Bool) → (subject level : ℕ) → Bool
may_take dom subject level = dom subject level

-- it may put into what has its own level
abbrev pub may_put : (subject level : ℕ) → Bool
may_put subject level = subject == level

abbrev pub enforced : (dom : ℕ → ℕ → Bool) → (subject : ℕ) → Option Level → (write : Bool) → Result (Unit {0}) Refusal
enforced dom subject None write = Err UnknownLabel
enforced dom subject (Some level) true = if may_put subject level.0 then Ok tt else Err NotEqual
enforced dom subject (Some level) false = if may_take dom subject level.0 then Ok tt else Err NotDominated
