use Rattle.std.proofs.Common.{None, ap}
use Rattle.lnfs_world.specs.Outcome.{Place}
use Rattle.lnfs_operations.specs.Extra.{place_at}
use Rattle.lnfs_engine.specs.Further.{spot_of}
use Rattle.lnfs_locks.specs.Arguments.{Asked}
use Rattle.lnfs_locks.specs.Locks.{Lock}
use Rattle.lnfs_locks.specs.Effects.{locked}
use Rattle.lnfs_lock_args.specs.Values.{asked_of}
use Rattle.lnfs_byte_locks.proofs.TakenLocks.{keeps, code_stays, code_kept}
use Rattle.lnfs_byte_locks.proofs.lock.take.Goals as goal

pub keep-requires : goal.keep-requires
keep-requires c =
    let p : Place = place_at (spot_of c.args.at.now) in
    let a : Asked = asked_of c.args.args.now.asked in
    let takes = c.requires.takes in
    record {
      keeps = keeps c.args.store.now c.args.locks.now c.requires.facts a p takes.client takes.node takes.lock c.args.taking.taken c.args.taking.ranges takes.taken _
          (code_stays c.args.store.now c.args.locks.now c.requires.facts a p takes.client takes.node takes.lock c.args.taking.taken c.args.taking.ranges takes.taken
          c.opens.result.now c.clients.result.now c.as_slice.result.now c.opens.ensures c.clients.ensures c.as_slice.ensures);
    }

pub returns : goal.returns
returns c = λ takes.
    let p : Place = place_at (spot_of c.args.at.now) in
    let a : Asked = asked_of c.args.args.now.asked in
    let text = c.in_ok-bytes.ensures (locked a takes.lock) takes.taken.id (ap (λ (l : Lock). l.sequence) takes.taken.state) in
    let stays = code_stays c.args.store.now c.args.locks.now c.requires.facts a p takes.client takes.node takes.lock c.args.taking.taken c.args.taking.ranges takes.taken
    c.opens.result.now c.clients.result.now c.as_slice.result.now c.opens.ensures c.clients.ensures c.as_slice.ensures in
    record {
      said = (λ i. record { refusal = None; bytes = text i });
      locks = code_kept c.args.store.now c.args.locks.now c.requires.facts a p takes.client takes.node takes.lock c.args.taking.taken c.args.taking.ranges takes.taken
          c.opens.result.now c.clients.result.now c.as_slice.result.now c.opens.ensures c.clients.ensures c.as_slice.ensures c.keep.new.locks
          (c.in_ok-keep.ensures.kept (keeps c.args.store.now c.args.locks.now c.requires.facts a p takes.client takes.node takes.lock c.args.taking.taken c.args.taking.ranges takes.taken _ stays));
    }
