-- One more attribute in a bitmap.
use Rattle.std.proofs.Common.{◌≡◌, ◌≢◌, ℕ, ◌*◌, ◌/◌, ◌%◌, ◌^◌, ◌<◌, Bool, true, false, eqb, List, length, get_or, refl, ap, sym, ◌∙◌, arith}
use Rattle.std.specs.Prelude.{◌==◌, ◌||◌, bit_or}
use Rattle.std.proofs.Math.ListN.{set}
use Rattle.std.specs.Int.{w32}
use Rattle.std.proofs.lemmas.Nat.Bits.{bit_at_set_same, bit_at_set_other}
use Rattle.std.proofs.lemmas.Bool.{eqb-true}
use Rattle.std.proofs.lemmas.Bool.Decides.{nat_tests}
use Rattle.std.proofs.lemmas.List.{get_or-set_same, get_or-set_other}
use Rattle.std.proofs.lemmas.Grind.{get_or-set_at}
use Rattle.lnfs_attrs.specs.Bitmaps.{bit}

differ : (a n : ℕ) → eqb a n ≡ false → a ≢ n
differ a n e = λ f. grind (arith, nat_tests)

-- a word with one more bit
abbrev pub with_bit : ℕ → ℕ → ℕ
with_bit w k = bit_or w (1 * 2 ^ k % 4294967296)

abbrev has : List ℕ → ℕ → Bool
has ws n = bit (get_or ws (n / 32) 0) (n % 32)

abbrev more : List ℕ → ℕ → List ℕ
more ws a = set ws (a / 32) (with_bit (get_or ws (a / 32) 0) (a % 32))

has_it : (ws : List ℕ) (a : ℕ) → length ws ≡ 8 → a < 256 → has (more ws a) a ≡ true
has_it ws a len lt =
    let here : get_or (more ws a) (a / 32) 0 ≡ with_bit (get_or ws (a / 32) 0) (a % 32) = get_or-set_same ws (a / 32) (with_bit (get_or ws (a / 32) 0) (a % 32)) 0 (omega arith) in
    ap (λ (w : ℕ). bit w (a % 32)) here ∙ ap (λ (m : ℕ). eqb m 1) (bit_at_set_same w32 (get_or ws (a / 32) 0) (a % 32) (omega arith))

has_other : (ws : List ℕ) (a n : ℕ) → length ws ≡ 8 → a < 256 → a ≢ n → (d : Bool) → eqb (n / 32) (a / 32) ≡ d → has (more ws a) n ≡ has ws n
has_other ws a n len lt ne true d =
    let same : n / 32 ≡ a / 32 = eqb-true _ _ d in
    let apart : n % 32 ≢ a % 32 = λ f. ne (omega (arith, same, f)) in
    let here : get_or (more ws a) (n / 32) 0 ≡ with_bit (get_or ws (a / 32) 0) (a % 32) = get_or-set_at ws (a / 32) (n / 32) (with_bit (get_or ws (a / 32) 0) (a % 32)) 0 same (omega arith) in
    ap (λ (w : ℕ). bit w (n % 32)) here ∙ ap (λ (m : ℕ). eqb m 1) (bit_at_set_other w32 (get_or ws (a / 32) 0) (a % 32) (omega arith) (n % 32) apart) ∙ ap (λ (p : ℕ). bit (get_or ws p 0) (n % 32)) (sym same)
has_other ws a n len lt ne false d =
    ap (λ (w : ℕ). bit w (n % 32)) (get_or-set_other ws (a / 32) (n / 32) (with_bit (get_or ws (a / 32) 0) (a % 32)) 0 (differ (n / 32) (a / 32) d))

by_case : (ws : List ℕ) (a n : ℕ) → length ws ≡ 8 → a < 256 → (b : Bool) → eqb a n ≡ b → has (more ws a) n ≡ (b || has ws n)
by_case ws a n len lt true e = ap (has (more ws a)) (sym (eqb-true a n e)) ∙ has_it ws a len lt
by_case ws a n len lt false e = has_other ws a n len lt (differ a n e) (eqb (n / 32) (a / 32)) refl

pub inserted : (ws : List ℕ) (a n : ℕ) → length ws ≡ 8 → a < 256 → has (more ws a) n ≡ (a == n || has ws n)
inserted ws a n len lt = by_case ws a n len lt (eqb a n) refl
