-- What no two rows may have in common, as keys.
use Rattle.std.specs.Prelude.{◌≡◌, ℕ, Bool, cond, ◌==◌, ◌&&◌, List, Vec}
use Rattle.std.specs.Str.{bytes_eq}
use Rattle.std.specs.List.{list_any}
use Rattle.std.specs.Ordering.{nat_cmp, ordering_then}
use Rattle.std.specs.Cmp.Lexicographic.{slice_cmp}
use Rattle.std.specs.declared.cmp.Ordering.{Ordering}
use Rattle.std.proofs.Common.{Global}
use Rattle.std.specs.BTreeSet.{BTreeSet, contains}
use Rattle.lnfs_world.specs.World.{Client, Open}

-- ---- clients: a level, whether it is confirmed, an owner

abbrev pub flag : Bool → ℕ
flag b = cond b 1 0

abbrev pub Rival : Type 0
Rival = ℕ × ℕ × Vec ℕ Global

abbrev pub rival_cmp : Rival → Rival → Ordering
rival_cmp x y = ordering_then (ordering_then (nat_cmp x.0 y.0) (nat_cmp x.1 y.1)) (slice_cmp nat_cmp x.2.items y.2.items)

abbrev pub is_rival : Rival → Client → Bool
is_rival q c = q.0 == c.id.level && q.1 == flag c.confirmed && bytes_eq q.2.items c.owner

pub record AreRivals (seen : BTreeSet Rival) (cs : List Client) : Type 0 where
  pub told : (q : Rival) → contains rival_cmp seen q ≡ list_any (is_rival q) cs

-- ---- opens: a level, a client, a node, an owner

abbrev pub Opening : Type 0
Opening = ℕ × ℕ × ℕ × ℕ × Vec ℕ Global

abbrev pub opening_cmp : Opening → Opening → Ordering
opening_cmp x y = ordering_then (ordering_then (ordering_then (ordering_then (nat_cmp x.0 y.0) (nat_cmp x.1 y.1)) (nat_cmp x.2 y.2)) (nat_cmp x.3 y.3)) (slice_cmp nat_cmp x.4.items y.4.items)

abbrev pub is_opening : Opening → Open → Bool
is_opening q o = q.0 == o.id.level && q.1 == o.client && q.2 == o.node.level && q.3 == o.node.number && bytes_eq q.4.items o.owner

pub record AreOpenings (seen : BTreeSet Opening) (os : List Open) : Type 0 where
  pub told : (q : Opening) → contains opening_cmp seen q ≡ list_any (is_opening q) os
