-- What ended well and what was refused are two.
use Rattle.std.proofs.Common.{◌≡◌}
use Rattle.std.specs.Prelude.{Result, Ok, Err}
use Rattle.lnfs_policy.specs.declared.cause.Cause.{Cause}

abbrev pub ended : {A : Type 0} (E : Type 0) → A → Result A E
ended E a = Ok a

abbrev pub refused : (A : Type 0) {E : Type 0} → E → Result A E
refused A error = Err error

-- a step that went well
abbrev pub went : {A : Type 0} → A → Result A Cause
went a = Ok a

pub same_ok : {A E : Type 0} (a b : A) → ended E a ≡ ended E b → a ≡ b
same_ok a b e = cc

pub not_ok : {A E : Type 0} (error : E) (a : A) → refused A error ≡ ended E a → ⊥
not_ok error a e = cc
