-- Two side by side where labels are carried alone: no label changes, no row of another level comes, and no rule refuses.
use Rattle.std.proofs.Common.{◌≡◌, ℕ, Bool, true, false, cond, List, ◌⊎◌, Option, Some}
use Rattle.lnfs_calipso.specs.Label.{IsPreorderWithBottom}
use Rattle.lnfs_world.specs.World.{Id, Stored}
use Rattle.lnfs_world.specs.Outcome.{Site, Place}
use Rattle.lnfs_world.specs.Both.{Both, both, BothStand}
use Rattle.lnfs_operations.specs.Carried.{CarriesAlone, AllLow, StandsLow, FurtherCarry, stored_at, NoRule}
use Rattle.lnfs_operations.specs.Extra.{After, Extra, spot_of}
use Rattle.lnfs_beside.specs.Sides.{Deed, lefts, rights, left, right, beside}

module _ (A B : Extra) (carry_a : FurtherCarry A) (carry_b : FurtherCarry B) (site : Site) (lattice : IsPreorderWithBottom site.dom) (alone : CarriesAlone site) (number : ℕ) (arguments : List ℕ) (p : Place) (b : Both (A.Row ⊎ B.Row)) (stands : BothStand (beside A B).Fact site.dom p b) (low : StandsLow p b.world) where
  abbrev first : Both A.Row
  first = both b.world (lefts b.own)

  abbrev second : Both B.Row
  second = both b.world (rights b.own)

  first_stands : BothStand A.Fact site.dom p first
  first_stands = record { world = stands.world; own = stands.own.0 }

  second_stands : BothStand B.Fact site.dom p second
  second_stands = record { world = stands.world; own = stands.own.1 }

  -- what is left by whichever serves the number
  abbrev chosen : Bool → After (Both (A.Row ⊎ B.Row))
  chosen t = cond {A = Deed (A.Row ⊎ B.Row)} t (left (A.outcome site number arguments)) (right (B.outcome site number arguments)) (spot_of p) b

  rows : (t : Bool) → AllLow (chosen t).state.world
  rows true = carry_a.rows site lattice alone number arguments p first first_stands low
  rows false = carry_b.rows site lattice alone number arguments p second second_stands low

  labels : (t : Bool) (i : Id) (after : Option Stored) → stored_at (chosen t).state.world.nodes i ≡ Some after → stored_at b.world.nodes i ≡ Some after
  labels true = carry_a.labels site lattice alone number arguments p first first_stands low
  labels false = carry_b.labels site lattice alone number arguments p second second_stands low

  rule : (t : Bool) → NoRule (chosen t).said.refusal
  rule true = carry_a.rule site lattice alone number arguments p first first_stands low
  rule false = carry_b.rule site lattice alone number arguments p second second_stands low

pub sides_carry : (A B : Extra) → FurtherCarry A → FurtherCarry B → FurtherCarry (beside A B)
sides_carry A B a b = record {
  rows = λ site lattice alone number arguments p s stands low. rows A B a b site lattice alone number arguments p s stands low (A.grammar.serves number);
  labels = λ site lattice alone number arguments p s stands low. labels A B a b site lattice alone number arguments p s stands low (A.grammar.serves number);
  rule = λ site lattice alone number arguments p s stands low. rule A B a b site lattice alone number arguments p s stands low (A.grammar.serves number);
}
