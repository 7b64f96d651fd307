-- What holds of the names of a path.
use Rattle.std.specs.Prelude.{◌≤◌, ℕ, List, length, All}

-- at most 16, none of which is too long
pub record AreNames (names : List (List ℕ)) : Type 0 where
  pub few : length names ≤ 16
  pub short : All (λ name. length name ≤ 255) names
