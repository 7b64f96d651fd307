use Rattle.std.proofs.Common.{◌≡◌, ◌≤◌, ℕ, [], ◌∷◌, refl, sym, subst, arith}
use Rattle.std.proofs.lemmas.List.Sums.{count_by-le-length}
use Rattle.std.proofs.lemmas.Result.{IfOk-weaker}
use Rattle.lnfs_world.specs.World.{Id, Entry as NameRow, same_id}
use Rattle.lnfs_world.specs.Names.{names_of}
use Rattle.lnfs_world.specs.declared.numbers.TheConstants.{MOST_NAMES}
use Rattle.lnfs_tree.specs.Makes.{MakesTree}
use Rattle.lnfs_test_state.proofs.restored.planted.Goals as goal

two_names : (a b : NameRow) (i : Id) → names_of (a ∷ b ∷ []) i ≤ MOST_NAMES
two_names a b i = let most : names_of (a ∷ b ∷ []) i ≤ 2 = count_by-le-length (λ e. same_id i e.node) (a ∷ b ∷ []) in omega (arith, most)

-- of a name no more is looked at than what it names
abbrev name_of : ℕ → NameRow
name_of number = record { directory = record { level = 0; number = 0 }; cookie = 0; name = []; node = record { level = 0; number = number } }

pub from_rows-requires : goal.from_rows-requires
from_rows-requires c = record {
  makes = record {
    nodes = record {
      rise = ((refl, (refl, tt)), ((refl, tt), (tt, tt)));
      storable = (record { number = omega arith; content = refl }, (record { number = omega arith; content = refl }, (record { number = omega arith; content = omega arith }, tt)));
    };
    names = record { rise = ((refl, tt), (tt, tt)); apart = ((refl, tt), (tt, tt)); joined = (refl, (refl, tt)); few = two_names (name_of 2) (name_of 4) };
    lasts = (record { level = omega arith; number = omega arith }, tt);
  };
}

pub returns : goal.returns
returns c = IfOk-weaker c.from_rows.result _ MakesTree (λ tree is. subst MakesTree (sym is) (record {
  nodes = record {
    rise = ((refl, (refl, tt)), ((refl, tt), (tt, tt)));
    storable = (record { number = omega arith; content = refl }, (record { number = omega arith; content = refl }, (record { number = omega arith; content = omega arith }, tt)));
  };
  names = record { rise = ((refl, tt), (tt, tt)); apart = ((refl, tt), (tt, tt)); joined = (refl, (refl, tt)); few = two_names (name_of 2) (name_of 4) };
  lasts = (record { level = omega arith; number = omega arith }, tt);
})) c.from_rows.ensures
