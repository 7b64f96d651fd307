-- A world with rows of further operations, which stand beside it.
use Rattle.std.specs.Prelude.{ℕ, Bool, List, filter}
use Rattle.lnfs_world.specs.World.{World}
use Rattle.lnfs_world.specs.Erased.{erased}
use Rattle.lnfs_world.specs.Outcome.{Place, Stands}
use Rattle.lnfs_world.specs.Lawful.{Deed}

pub record Both (Row : Type 0) : Type 0 where
  pub world : World
  pub own : List Row

abbrev pub both : {Row : Type 0} → World → List Row → Both Row
both world own = record { world = world; own = own }

-- What a level sees of both: of the own rows those of the levels that it dominates.
abbrev pub both_seen : {Row : Type 0} → (Row → ℕ) → (ℕ → ℕ → Bool) → ℕ → Both Row → Both Row
both_seen level_of dom level b = record { world = erased dom level b.world; own = filter (λ r. dom level (level_of r)) b.own }

-- what stands of both, with a fact of the own rows
pub record BothStand {Row : Type 0} (Fact : World → List Row → Type 0) (dom : ℕ → ℕ → Bool) (p : Place) (b : Both Row) : Type 0 where
  pub world : Stands dom p b.world
  pub own : Fact b.world b.own

-- an operation on the world leaves the own rows
abbrev pub on_world : {A Row : Type 0} → Deed A World → Deed A (Both Row)
on_world deed p b = record {
  answer = (deed p b.world).answer;
  place = (deed p b.world).place;
  state = both (deed p b.world).state b.own;
}
