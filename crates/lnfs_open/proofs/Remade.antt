-- Opens that are made of rows, one after the other.
use Rattle.std.proofs.Common.{◌≡◌, ◌++◌, ◌≤◌, false, List, [], ◌∷◌, None, refl, sym, ◌∙◌, subst, arith}
use Rattle.std.specs.List.{find}
use Rattle.lnfs_world.specs.Rows.{Apart}
use Rattle.lnfs_world.specs.World.{Id, Open}
use Rattle.lnfs_world.specs.Facts.{same_opening}
use Rattle.lnfs_world.specs.declared.numbers.TheConstants.{LAST_NUMBER}
use Rattle.lnfs_world.proofs.KeptOpens.{openings_turn}
use Rattle.lnfs_counts.specs.Counters.{Counters}
use Rattle.lnfs_counts.proofs.Coming.{of_next, IsBegun, of_row, own_within, most, has_room, absent}
use Rattle.lnfs_open.specs.Indexed.{own_id}
use Rattle.lnfs_open.specs.Makes.{MakesOpens, CanCome}

-- none in front of an open has its client, owner and node
alone : (row : Open) (xs ys : List Open) → Apart same_opening (xs ++ row ∷ ys) → find (same_opening row) xs ≡ None
alone row [] ys apart = refl
alone row (x ∷ xs) ys apart =
    let other : same_opening row x ≡ false = openings_turn row x ∙ of_next (λ y. same_opening x y ≡ false) row xs ys apart.0 in
    grind (arith, other, alone row xs ys apart.1)

pub can_come : (lasts : List Id) (all made : List Open) (row : Open) (left : List Open) (counters : Counters) → MakesOpens all lasts → IsBegun own_id lasts all made (row ∷ left) counters → CanCome made counters row
can_come lasts all made row left counters makes so =
    let numbered = makes.numbered in
    record {
      positive = of_row own_id lasts all numbered made row left counters so (λ o. 1 ≤ o.id.number) numbered.numbers;
      given = own_within own_id lasts all numbered made row left counters so;
      most = most own_id lasts all numbered made row left counters so;
      few = has_room own_id lasts all numbered made row left counters so;
      absent = absent own_id lasts all numbered made row left counters so;
      alone = alone row made left (subst (Apart same_opening) (sym so.rest) makes.apart);
      client = of_row own_id lasts all numbered made row left counters so (λ o. o.client ≤ LAST_NUMBER) makes.clients;
      node = of_row own_id lasts all numbered made row left counters so (λ o. o.node.number ≤ LAST_NUMBER) makes.nodes;
    }
