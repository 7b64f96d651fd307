-- The sizes of the values of attributes in units of four bytes.
use Rattle.std.specs.Prelude.{ℕ, List, [], ◌∷◌, ◌==◌, if◌then◌else◌}

-- An attribute of the table whose value has one size for all nodes, and the size. Only sec_label is missing.
abbrev pub sizes : List (ℕ × ℕ)
sizes =
    (0, 4) ∷ (1, 1) ∷ (2, 1) ∷ (3, 2) ∷ (4, 2) ∷ (5, 1) ∷ (6, 1) ∷ (7, 1) ∷ (8, 4) ∷ (9, 1) ∷ (10, 1) ∷ (11, 1) ∷ (19, 4) ∷ (20, 2) ∷ (33, 1) ∷ (35, 1)
    ∷ (36, 3) ∷ (37, 3) ∷ (38, 2) ∷ (40, 2) ∷ (47, 3) ∷ (52, 3) ∷ (53, 3) ∷ (55, 2) ∷ (75, 4) ∷ []

abbrev pub units_in : List (ℕ × ℕ) → ℕ → ℕ
units_in [] n = 0
units_in (s ∷ more) n = if n == s.0 then s.1 else units_in more n

unfoldable pub units_at : ℕ → ℕ
units_at n = units_in sizes n
