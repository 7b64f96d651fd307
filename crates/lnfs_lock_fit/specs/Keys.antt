-- What no two locks may have in common whose open is there, as a key: a level, the number of an open, an owner.
use Rattle.std.specs.Prelude.{◌≡◌, ℕ, Bool, ◌==◌, ◌&&◌, List, Vec}
use Rattle.std.specs.Str.{bytes_eq}
use Rattle.std.specs.List.{list_any}
use Rattle.std.specs.Ordering.{nat_cmp, ordering_then}
use Rattle.std.specs.Cmp.Lexicographic.{slice_cmp}
use Rattle.std.specs.declared.cmp.Ordering.{Ordering}
use Rattle.std.proofs.Common.{Global}
use Rattle.std.specs.BTreeSet.{BTreeSet, contains}
use Rattle.lnfs_world.specs.World.{World}
use Rattle.lnfs_locks.specs.Locks.{Lock, is_live}

abbrev pub Holder : Type 0
Holder = ℕ × ℕ × Vec ℕ Global

abbrev pub holder_cmp : Holder → Holder → Ordering
holder_cmp x y = ordering_then (ordering_then (nat_cmp x.0 y.0) (nat_cmp x.1 y.1)) (slice_cmp nat_cmp x.2.items y.2.items)

abbrev pub is_holder : World → Holder → Lock → Bool
is_holder w q l = (q.0 == l.id.level && q.1 == l.opening && bytes_eq q.2.items l.owner) && is_live w l

pub record AreHolders (w : World) (seen : BTreeSet Holder) (locks : List Lock) : Type 0 where
  pub told : (q : Holder) → contains holder_cmp seen q ≡ list_any (is_holder w q) locks
