use Rattle.std.proofs.Common.{◌≡◌, ◌≤◌, ◌<◌, ◌^◌, ℕ, List, Some, subst, sym}
use Rattle.std.specs.Fmt.{decimal}
use Rattle.lnfs_words.specs.Numbers.{number_up_to}
use Rattle.lnfs_words.proofs.Decimals.{number_is, number_decimal}
use Rattle.lnfs_words.proofs.laws.numbers.Goals as goal

spelled : (most : ℕ) → most < 2 ^ 64 → (word : List ℕ) (n : ℕ) → (n ≤ most) × (word ≡ decimal n) → number_up_to most word ≡ Some n
spelled most wide word n h = subst (λ (w : List ℕ). number_up_to most w ≡ Some n) (sym h.1) (number_decimal most wide n h.0)

pub returns : goal.returns
returns c = λ most wide word n. (number_is most wide word n, spelled most wide word n)
