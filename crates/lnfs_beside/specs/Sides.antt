-- Two further operations side by side, each with its own rows.
use Rattle.std.specs.Prelude.{◌≡◌, ℕ, cond, ◌||◌, List, [], ◌∷◌, ◌⊎◌}
use Rattle.std.proofs.Common.{inl, inr}
use Rattle.lnfs_arguments.specs.Further.{Further}
use Rattle.lnfs_world.specs.Both.{Both, both}
use Rattle.lnfs_operations.specs.Extra.{Spot, After, Extra}

-- A number that the first serves is the first's, another the second's.
abbrev pub further_beside : Further → Further → Further
further_beside F G = record {
  serves = λ number. F.serves number || G.serves number;
  measure = λ number bytes. cond (F.serves number) (F.measure number bytes) (G.measure number bytes);
  bound = λ number arguments. cond (F.serves number) (F.bound number arguments) (G.bound number arguments);
}

abbrev pub lefts : {A B : Type 0} → List (A ⊎ B) → List A
lefts [] = []
lefts (inl a ∷ xs) = a ∷ lefts xs
lefts (inr b ∷ xs) = lefts xs

abbrev pub rights : {A B : Type 0} → List (A ⊎ B) → List B
rights [] = []
rights (inl a ∷ xs) = rights xs
rights (inr b ∷ xs) = b ∷ rights xs

-- the rows of the first, and then those of the second
abbrev pub both_rows : {A B : Type 0} → List A → List B → List (A ⊎ B)
both_rows [] [] = []
both_rows [] (b ∷ vs) = inr b ∷ both_rows [] vs
both_rows (a ∷ us) vs = inl a ∷ both_rows us vs

abbrev pub side_level : (A B : Extra) → A.Row ⊎ B.Row → ℕ
side_level A B (inl a) = A.level_of a
side_level A B (inr b) = B.level_of b

-- where it stands, on a world and own rows
abbrev pub Deed : Type 0 → Type 0
Deed Row = Spot → Both Row → After (Both Row)

abbrev pub with_right : {A B : Type 0} → List B → After (Both A) → After (Both (A ⊎ B))
with_right vs t = record { said = t.said; current = t.current; saved = t.saved; state = both t.state.world (both_rows t.state.own vs) }

abbrev pub with_left : {A B : Type 0} → List A → After (Both B) → After (Both (A ⊎ B))
with_left us t = record { said = t.said; current = t.current; saved = t.saved; state = both t.state.world (both_rows us t.state.own) }

-- An operation of the first leaves the rows of the second, and one of the second those of the first.
abbrev pub left : {A B : Type 0} → Deed A → Deed (A ⊎ B)
left deed at b = with_right (rights b.own) (deed at (both b.world (lefts b.own)))

abbrev pub right : {A B : Type 0} → Deed B → Deed (A ⊎ B)
right deed at b = with_left (lefts b.own) (deed at (both b.world (rights b.own)))

-- Their fact is that of each over its own rows, and that those of the first come first.
abbrev pub beside : Extra → Extra → Extra
beside A B = record {
  grammar = further_beside A.grammar B.grammar;
  Row = A.Row ⊎ B.Row;
  level_of = side_level A B;
  outcome = λ site number arguments. cond (A.grammar.serves number) (left (A.outcome site number arguments)) (right (B.outcome site number arguments));
  Fact = λ w rows. A.Fact w (lefts rows) × B.Fact w (rights rows) × (rows ≡ both_rows (lefts rows) (rights rows));
}
