use Rattle.std.proofs.Common.{◌≡◌, ◌&&◌, Bool}
use Rattle.std.specs.List.{list_any}
use Rattle.lnfs_world.specs.World.{Id, same_id}
use Rattle.lnfs_open.specs.Listed.{id_of}
use Rattle.lnfs_open.specs.Tallies.{in_layer}
use Rattle.lnfs_open.specs.Stopping.{opens_in, Tells, stopped_by, may_stop}
use Rattle.lnfs_open.proofs.Runs.{run, is_of_node}
use Rattle.lnfs_open.proofs.shares.Share.is_stopped.Given as goal

abbrev pub invariant-loop-layer : goal.invariant-loop-layer
invariant-loop-layer g l =
    (told : Id → Bool) → Tells (goal.F-post g l.over) told →
    list_any (λ e. may_stop l.self e.0.level e.1 && list_any (λ o. in_layer (id_of l.node) e.0.level o && stopped_by l.self told o) (opens_in l.rows)) (run (is_of_node l.node) l.layer-iterator)
    ≡ list_any (λ o. same_id (id_of l.node) o.node && stopped_by l.self told o) (opens_in l.rows)
