use Rattle.std.proofs.Common.{◌≡◌, Bool, length}
use Rattle.std.specs.Prelude.{not, filter}
use Rattle.lnfs_world.specs.World.{Id}
use Rattle.lnfs_open.specs.Listed.{id_of}
use Rattle.lnfs_open.specs.Stopping.{Tells, yields_to}
use Rattle.lnfs_open.proofs.opens.Opens.revoke.Given as goal

abbrev pub invariant-loop-id : goal.invariant-loop-id
invariant-loop-id g l = record {
  opens : (told : Id → Bool) → Tells (goal.F-post g l.over) told → filter (λ o. not (yields_to l.asked (id_of l.file) told o)) l.self.opens ≡ filter (λ o. not (yields_to l.asked (id_of l.file) told o)) l.fn.self.opens;
  lasts : l.self.lasts ≡ l.fn.self.lasts;
}

abbrev pub decreases-loop-id : goal.decreases-loop-id
decreases-loop-id g l = length l.self.opens
