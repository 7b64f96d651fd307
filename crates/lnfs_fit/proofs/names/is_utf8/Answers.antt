use Rattle.std.proofs.Common.{◌≡◌, refl, sym, ◌∙◌, Bool, true, false, Result, Ok, Err, ℕ, List, MatchResult}
use Rattle.std.specs.Str.{IsUtf8, is_utf8}
use Rattle.std.specs.Result.{is_ok}
use Rattle.std.proofs.lemmas.Str.{IsUtf8-from_is_utf8, is_utf8-from_IsUtf8}
use Rattle.lnfs_fit.proofs.names.is_utf8.Goals as goal

told : (b : Bool) (P : Type 0) → ¬ P → (b ≡ true → P) → false ≡ b
told true P not is = absurd (not (is refl))
told false P not is = refl

tells : {S E : Type 0} (r : Result S E) (bytes : List ℕ) (Yes : S → Type 0) (No : E → Type 0) → MatchResult r (λ s. Yes s × IsUtf8 bytes) (λ e. (¬ IsUtf8 bytes) × No e) → is_ok r ≡ is_utf8 bytes
tells (Ok s) bytes Yes No h = sym (is_utf8-from_IsUtf8 bytes h.1)
tells (Err e) bytes Yes No h = told (is_utf8 bytes) (IsUtf8 bytes) h.0 (IsUtf8-from_is_utf8 bytes)

pub returns : goal.returns
returns c = c.is_ok.ensures.value ∙ tells c.from_utf8.result c.args.name.now _ _ c.from_utf8.ensures.cases
