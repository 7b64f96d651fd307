use Rattle.std.proofs.Common.{◌≡◌, ◌++◌, ◌+◌, ℕ, List, length, ap, ◌∙◌, arith}
use Rattle.lnfs_policy.proofs.Site.{preordered}
use Rattle.lnfs_further.specs.Further.{further}
use Rattle.lnfs_step.specs.Journal.{first_state, state_from, state_after}
use Rattle.lnfs_checkpoint.specs.Checkpoint.{checkpoint, checkpoint_text}
use Rattle.lnfs_checkpoint.specs.Resumed.{Got, got_from}
use Rattle.lnfs_checkpoint.proofs.Serving.{state_again}
use Rattle.lnfs_checkpoint.proofs.Taken.{taken}
use Rattle.lnfs_checkpoint.proofs.Runs.{got_append, got_journal, contexts_after}
use Rattle.lnfs_checkpoint.proofs.laws.resumed.Goals as goal

pub returns-clause-fit : goal.returns-clause-fit
returns-clause-fit g c = λ p spelled a.
    let m = g.M.Mechanism.signing in
    let lattice = preordered p in
    let first = (c.one_step.ensures.first p spelled).0 in
    record {
      sound = (c.purge.ensures.kept p spelled a).sound;
      contexts = contexts_after further m p (λ b event holds. c.one_step.ensures.facts p lattice b event holds) (λ b event holds fit. c.contexts_fit.ensures.kept p lattice b event holds fit) (first_state further p) (record { facts = first.sound.facts; own = first.own }) (c.contexts_fit.ensures.first p) a;
      locks = record { facts = (c.purge.ensures.kept p spelled a).own.0.facts; bounds = c.locks_are_bounded.ensures.after p spelled a };
    }

pub returns-clause-whole : goal.returns-clause-whole
returns-clause-whole g c = λ p spelled a. state_again (state_after further g.M.Mechanism.signing p a) (c.purge.ensures.kept p spelled a).own

pub returns-clause-taken : goal.returns-clause-taken
returns-clause-taken g c = taken c.written.ensures.world

pub returns-clause-alone : goal.returns-clause-alone
returns-clause-alone g c = λ p spelled w own fit rows lock_rows n few t told.
    c.written.ensures.alone _ _ (checkpoint_text p n w own) t (record { events = n; world = w; locks = own }) told (taken c.written.ensures.world p spelled w own fit rows lock_rows n few)

pub returns-clause-rest : goal.returns-clause-rest
returns-clause-rest g c = λ p a b.
    let m = g.M.Mechanism.signing in
    let first = first_state further p in
    let count : 0 + length a ≡ length a = omega arith in
    got_append further m p 0 first a b ∙ ap (λ (n : ℕ). got_from further m p 0 first a ++ got_from further m p n (state_after further m p a) b) count

pub returns-clause-journal : goal.returns-clause-journal
returns-clause-journal g c = λ p a b. got_journal further g.M.Mechanism.signing p (λ journal event. c.purge.ensures.replies p (preordered p) journal event) a b
