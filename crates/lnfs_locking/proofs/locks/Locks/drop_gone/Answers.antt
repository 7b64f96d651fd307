use Rattle.std.proofs.Common.{◌<◌, length, sym, ap, ◌∙◌, subst}
use Rattle.std.specs.Prelude.{not, filter}
use Rattle.lnfs_counts.proofs.Rows.{fewer}
use Rattle.lnfs_locks.specs.Locks as kept
use Rattle.lnfs_locking.specs.Keys.{id_of}
use Rattle.lnfs_locking.specs.Rows.{lock_id}
use Rattle.lnfs_locking.specs.Walks.{from_on}
use Rattle.lnfs_locking.proofs.Dropping.{one_gone, is_there, all_stay, all_from_front}
use Rattle.lnfs_locking.proofs.locks.Locks.drop_gone.Goals as goal

pub loop-id-smaller : goal.loop-id-smaller
loop-id-smaller g c =
    let locks = c.loop-id.self.locks in
    let test = g.T.LockTest.passes c.args.going.now in
    subst (λ (k : kept.Locks). length k.locks < length locks) (sym c.take_out.ensures) (fewer lock_id (id_of c.in-Some.id) locks (is_there (from_on (id_of c.loop-id.from) test) locks (id_of c.in-Some.id) (sym c.in-Some.ensures.first)))

pub loop-id-preserved : goal.loop-id-preserved
loop-id-preserved g c =
    let test = g.T.LockTest.passes c.args.going.now in
    record {
      locks = ap (λ (k : kept.Locks). filter (λ x. not (from_on (id_of c.in-Some.id) test x)) k.locks) c.take_out.ensures
          ∙ (one_gone (id_of c.loop-id.from) (id_of c.in-Some.id) test c.loop-id.self.locks c.in-Some.ensures.rise (sym c.in-Some.ensures.first)
          ∙ c.loop-id.invariant.locks);
      lasts = ap (λ (k : kept.Locks). k.lasts) c.take_out.ensures ∙ c.loop-id.invariant.lasts;
    }

pub returns : goal.returns
returns g c =
    let test = g.T.LockTest.passes c.args.going.now in
    let left = sym (all_stay (from_on (id_of c.loop-id.from) test) c.loop-id.self.locks (sym c.in_default.ensures.first)) ∙ (c.loop-id.invariant.locks ∙ all_from_front c.args.level test c.args.self.now.locks) in
    λ t. record { lasts = c.loop-id.invariant.lasts t; locks = left t }
