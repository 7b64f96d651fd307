use Rattle.std.proofs.Common.{ℕ, cond, sym, ap, subst, ◌∙◌}
use Rattle.std.specs.Prelude.{◌==◌}
use Rattle.lnfs_world.specs.Rows.{Rising}
use Rattle.lnfs_world.specs.World.{last_of}
use Rattle.lnfs_world.proofs.Keys.{last_of-inserted}
use Rattle.lnfs_counts.specs.Counters.{lasts_of}
use Rattle.lnfs_locks.specs.Locks as kept
use Rattle.lnfs_locks.specs.Locks.{lock_order}
use Rattle.lnfs_locking.specs.Keys.{id_of}
use Rattle.lnfs_locking.proofs.locks.Locks.add.Goals as goal

pub returns-in_err-make_counter-clause-rise : goal.returns-in_err-make_counter-clause-rise
returns-in_err-make_counter-clause-rise c = subst (λ (k : kept.Locks). Rising lock_order k.locks) c.self.view_is c.self.invariant.indexed.rise

pub returns-in_err-enter-clause-rise : goal.returns-in_err-enter-clause-rise
returns-in_err-enter-clause-rise c = subst (λ (k : kept.Locks). Rising lock_order k.locks) c.self.view_is c.self.invariant.indexed.rise

pub returns-clause-rise : goal.returns-clause-rise
returns-clause-rise c = subst (λ (k : kept.Locks). Rising lock_order k.locks) c.self.view_is c.self.invariant.indexed.rise

pub invariant_of-self-2 : goal.invariant_of-self-2
invariant_of-self-2 c =
    let i = id_of c.args.id in
    let same = c.in_ok-make_counter.ensures.same in
    record {
      indexed = c.in_ok-enter.ensures.indexed;
      lasting = λ (level : ℕ).
          ap (last_of level) c.give.ensures.lasts
          ∙ (last_of-inserted i (lasts_of c.make_counter.new.counters.entries) level
          ∙ (ap (λ n. cond (i.level == level) i.number n) (ap (last_of level) same.lasts ∙ (c.self.invariant.lasting level ∙ sym (same.last level)))
          ∙ sym (c.give.ensures.last level)));
    }
