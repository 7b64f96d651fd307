-- Whether an entry is at a key.
use Rattle.std.specs.Prelude.{◌≡◌, ℕ, Bool, ◌==◌, ◌&&◌, List, Vec}
use Rattle.std.specs.Str.{bytes_eq}
use Rattle.std.specs.List.{list_any}
use Rattle.std.specs.Ordering.{nat_cmp, ordering_then}
use Rattle.std.specs.Cmp.Lexicographic.{slice_cmp}
use Rattle.std.specs.declared.cmp.Ordering.{Ordering}
use Rattle.std.proofs.Common.{Global}
use Rattle.std.specs.BTreeSet.{BTreeSet, contains}
use Rattle.lnfs_world.specs.World.{Entry}

-- a directory's level and number, and a name
abbrev pub Key : Type 0
Key = ℕ × ℕ × Vec ℕ Global

abbrev pub key_cmp : Key → Key → Ordering
key_cmp x y = ordering_then (ordering_then (nat_cmp x.0 y.0) (nat_cmp x.1 y.1)) (slice_cmp nat_cmp x.2.items y.2.items)

abbrev pub is_keyed : Key → Entry → Bool
is_keyed q e = q.0 == e.directory.level && q.1 == e.directory.number && bytes_eq q.2.items e.name

-- the keys that were seen are those of some entries
pub record AreSeen (seen : BTreeSet Key) (es : List Entry) : Type 0 where
  pub told : (q : Key) → contains key_cmp seen q ≡ list_any (is_keyed q) es
