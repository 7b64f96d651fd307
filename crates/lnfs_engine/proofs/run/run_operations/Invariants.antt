use Rattle.std.proofs.Common.{◌≡◌, ◌≤◌, ◌-◌, [], length}
use Rattle.lnfs_world.specs.Both.{both, BothStand}
use Rattle.lnfs_operations.specs.Served.{operation}
use Rattle.lnfs_operations.specs.SlotRule.{run_behind}
use Rattle.lnfs_engine.specs.Places.{place_of, Stands, Starts}
use Rattle.lnfs_engine.specs.Performs.{site_in, sent_of}
use Rattle.lnfs_engine.proofs.Running.{Ahead}
use Rattle.lnfs_engine.proofs.run.run_operations.Given as goal

abbrev pub invariant-loop-done : goal.invariant-loop-done
invariant-loop-done g l =
    let X = g.X.ExtraRows.extra in
    let rows = g.X.ExtraRows.rows in
    let r = l.fn.request in
    let k = r.compound.now in
    let deeds = operation X (site_in r) (sent_of r) k in
    let begun = both l.initial.store (rows l.initial.extra) in
    let b = both l.store (rows l.extra) in
    record {
      within : l.done ≤ length k.ops;
      first : l.done ≡ 0 → Starts (place_of l.place) l.keeper;
      stands : Stands (place_of l.place) l.store.sessions l.keeper;
      facts : BothStand X.Fact (site_in r).dom (place_of l.place) b;
      ahead : Ahead deeds k.ops r.begin l.initial.out (run_behind deeds [] k.ops (place_of l.initial.place) begun) l.out l.done l.keeper (place_of l.place) b;
    }

abbrev pub decreases-loop-done : goal.decreases-loop-done
decreases-loop-done g l = length l.fn.request.compound.now.ops - l.done
