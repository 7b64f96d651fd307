use Rattle.std.proofs.Common.{◌≡◌, ◌&&◌, Bool}
use Rattle.std.specs.List.{list_any}
use Rattle.lnfs_world.specs.World.{Id}
use Rattle.lnfs_open.specs.Listed.{id_of}
use Rattle.lnfs_open.specs.Indexed.{open_at, passes}
use Rattle.lnfs_open.specs.Tallies.{in_layer}
use Rattle.lnfs_open.specs.Stopping.{opens_in, Tells, yields_to}
use Rattle.lnfs_open.proofs.Runs.{run, is_member}
use Rattle.lnfs_open.proofs.revoking.Asked.first_given_way.Given as goal

abbrev pub invariant-loop-place : goal.invariant-loop-place
invariant-loop-place g l =
    (told : Id → Bool) → Tells (goal.F-post g l.over) told →
    list_any (λ e. passes (yields_to l.self (id_of l.node) told) (open_at (opens_in l.rows) (id_of e.0.id))) (run (is_member l.node l.level) l.place-iterator)
    ≡ list_any (λ o. in_layer (id_of l.node) l.level o && yields_to l.self (id_of l.node) told o) (opens_in l.rows)
