-- Items that are written one behind the other.
use Rattle.std.proofs.Common.{◌≡◌, ◌++◌, ℕ, List, ap, ◌∙◌, append_assoc}

-- what stands behind an item stands behind what was before it, with the item in front
pub behind : (old new item rest whole : List ℕ) → new ≡ old ++ item → whole ≡ new ++ rest → whole ≡ old ++ (item ++ rest)
behind old new item rest whole one more = more ∙ ap (λ (l : List ℕ). l ++ rest) one ∙ append_assoc old item rest
