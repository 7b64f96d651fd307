use Rattle.std.proofs.Common.{◌≡◌, rules, refl, ap, arith, Ok, Err}
use Rattle.std.specs.Prelude.{Result, IsErr}
use Rattle.std.specs.Result.{IsErrAnd}
use Rattle.lnfs_workers.specs.Served.{telling}
use Rattle.lnfs_workers.proofs.Dealt.{each_at_length}
use Rattle.lnfs_stage.specs.declared.stop.Stop.TheVariants as stops
use Rattle.lnfs_service.proofs.Accepting.{links_lost, serves_short, serves_stopped, serves_told}
use Rattle.lnfs_service.proofs.Handing.{idle_stopped, idle_told}
use Rattle.lnfs_service.proofs.service.serve.Goals as goal

-- a stop that is handed on
stopped_by : {T E : Type 0} (result : Result T E) (Given : E → Type 0) (stop : E) → IsErr result → IsErrAnd result Given → ((e : E) → Given e → e ≡ stop) → result ≡ Err stop
stopped_by (Ok x) Given stop err is from = absurd is
stopped_by (Err e) Given stop err is from = ap Err (from e is)

pub returns-in_err-links-clause-serves : goal.returns-in_err-links-clause-serves
returns-in_err-links-clause-serves g c = let l = c.in_err-links.ensures in serves_stopped _ _ _ _ _ _ c.in_err-links.field-0.0 (stopped_by _ _ _ c.from_residual.ensures.0 c.from_residual.ensures.1 (λ x is. is)) l.cause.excused l.cause.later (rw c.deref.ensures.value at l.stopped)

pub returns-in_err-links-clause-idle : goal.returns-in_err-links-clause-idle
returns-in_err-links-clause-idle g c = idle_stopped _ _ c.in_err-links.field-0.0 _ _ (stopped_by _ _ _ c.from_residual.ensures.0 c.from_residual.ensures.1 (λ x is. is)) c.in_err-links.ensures.cause.excused

pub returns-in_err-ended-clause-serves : goal.returns-in_err-ended-clause-serves
returns-in_err-ended-clause-serves g c = let l = c.in_ok-links.ensures in serves_short _ _ _ _ _ _ (search rules) l.cause.later (links_lost (telling g.N.L.Source.left g.N.L.Sink.taken g.N.L.Source.read_faults g.N.L.Sink.write_faults) _ _ (rw c.deref.ensures.value at l.came))

pub returns-in_err-ended-clause-idle : goal.returns-in_err-ended-clause-idle
returns-in_err-ended-clause-idle g c = idle_stopped _ _ stops.Memory 0 0 (search rules) tt

pub tell-requires-clause-owes : goal.tell-requires-clause-owes
tell-requires-clause-owes g c = rw (each_at_length _ 0 _ _ c.in_ok-ended.ensures.ends) c.in_ok-links.ensures.came.owes

pub returns-clause-serves : goal.returns-clause-serves
returns-clause-serves g c =
    let vault = c.args.new.vault in
    let e = c.in_ok-ended.ensures in
    let t = c.tell.ensures in
    let l = c.in_ok-links.ensures in
    rw c.args.new.first (serves_told g.X.ExtraRows.extra (g.C.Clock.may c.args.clock.now) g.M.Mechanism.signing vault.policy c.args.team.now.links.items (telling g.N.L.Source.left g.N.L.Sink.taken g.N.L.Source.read_faults g.N.L.Sink.write_faults)
    c.in_ok-links.links.items c.in_ok-ended.ended.ends.items c.in_ok-ended.ended.vault.journal (rw c.deref.ensures.value at l.came)
    (c.purge.ensures.replies vault.policy (rw c.policy.ensures at c.law_preorder.ensures))
    e.ends e.others (rw e.policy at t.does)
    t.untold t.memory t.dealt t.backs l.cause.later t.later)

pub returns-clause-idle : goal.returns-clause-idle
returns-clause-idle g c = idle_told _ _ _ c.tell.ensures.untold
