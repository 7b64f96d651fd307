use denote.RattleType.{RattleType}
use denote.Ref.{NamedLft}
use denote.Exit.{no}
use denote.Param.{param}
use denote.Param.Send.{IsSync}
use Rattle.std.proofs.Crossing.{sync}
use Rattle.std.proofs.Common.{IfOk, arith}
use Rattle.lnfs_workers.specs.Served.{telling}
use Rattle.lnfs_workers.specs.Links.{IsDone}
use Rattle.lnfs_workers.specs.Pairs.{Each}
use Rattle.lnfs_workers.proofs.Pairs.{if_ok_two, each_by_place}
use denote.Param.SendFields.{declared_sync}
use Rattle.lnfs_history.specs.contracts.history.History
use Rattle.std.specs.contracts.sync.Mutex
use Rattle.lnfs_workers.specs.contracts.desk.Desk
use Rattle.lnfs_workers.specs.contracts.shared.Shared.{the_type as shared_type}
use Rattle.lnfs_vault.specs.contracts.front.Front
use Rattle.lnfs_workers.proofs.Shares.{closure_sync, lent_sync, given_sync}
use Rattle.lnfs_workers.proofs.pool.fan_out.Given.{Over}
use Rattle.lnfs_workers.proofs.pool.fan_out.Lts as lts
use Rattle.lnfs_workers.proofs.pool.fan_out.Goals as goal

pub returns : goal.returns
returns g c =
    let R = IsDone {B = g.row.B.Denot} (telling g.L.Source.left g.L.Sink.taken g.L.Source.read_faults g.L.Sink.write_faults) (g.C.Clock.may c.args.shared.now.clock.now) in
    if_ok_two _ _ _
    (λ all long each. each_by_place (λ job one. IfOk one (λ done. Each R job.links.items done.items)) c.args.jobs.items all.items (omega (arith, long, all.ok, c.args.jobs.ok))
    (λ i d less. let h = (each i d less).1 in (h.job, h.job_is, h.call.met)))
    c.map_vec.result c.map_vec.ensures.len c.map_vec.ensures.each

-- the types of the codecs, and of what the workers share beside them
abbrev codecs_row : (g : Over) → RattleType
codecs_row g = lts.of-0 g.row.B g.row.M g.row.X g.row.C g.row.G g.row.L g.row.R g.row.X-Reader g.B.laws g.M.laws g.X.laws g.C.laws g.G.laws g.L.laws g.R.laws g.X.Reader.laws g.B.Room g.B.Room-dict g.M.Mechanism g.M.Mechanism-dict g.X.ReadExtra g.X.ReadExtra-dict g.X.Extra g.X.Extra-dict g.X.ExtraRows g.X.ExtraRows-dict g.X.ExtraGrammar g.X.ExtraGrammar-dict g.X.Reader.ExtraGrammar g.X.Reader.ExtraGrammar-dict g.C.Clock g.C.Clock-dict g.G.TurnGate g.G.TurnGate-dict g.L.Link g.L.Link-dict g.L.Source g.L.Source-dict g.L.Sink g.L.Sink-dict g.R.Threads g.R.Threads-dict g.R.Wait g.R.Wait-dict g.M.Destruct-dict g.X.Destruct-dict g.L.Destruct-dict g.X.Reader.Destruct-dict g.dyn-1 g.dyn-1-has g.dyn-2 g.dyn-2-has

abbrev shared_row : (g : Over) → NamedLft → RattleType
shared_row g = lts.of-16 g.row.B g.row.M g.row.X g.row.C g.row.G g.row.L g.row.R g.row.X-Reader g.B.laws g.M.laws g.X.laws g.C.laws g.G.laws g.L.laws g.R.laws g.X.Reader.laws g.B.Room g.B.Room-dict g.M.Mechanism g.M.Mechanism-dict g.X.ReadExtra g.X.ReadExtra-dict g.X.Extra g.X.Extra-dict g.X.ExtraRows g.X.ExtraRows-dict g.X.ExtraGrammar g.X.ExtraGrammar-dict g.X.Reader.ExtraGrammar g.X.Reader.ExtraGrammar-dict g.C.Clock g.C.Clock-dict g.G.TurnGate g.G.TurnGate-dict g.L.Link g.L.Link-dict g.L.Source g.L.Source-dict g.L.Sink g.L.Sink-dict g.R.Threads g.R.Threads-dict g.R.Wait g.R.Wait-dict g.M.Destruct-dict g.X.Destruct-dict g.L.Destruct-dict g.X.Reader.Destruct-dict g.dyn-1 g.dyn-1-has g.dyn-2 g.dyn-2-has

pub map_vec-requires-sync-F : goal.map_vec-requires-sync-F
map_vec-requires-sync-F g c κs within =
    let codecs : IsSync (codecs_row g) = record { shared = c.may_share.ensures.shared } in
    let shared : (ℓ : NamedLft) → IsSync (shared_row g ℓ) = λ ℓ. declared_sync
    (shared_type ℓ (param 0 g.row.B) (param 1 g.row.M) (param 2 g.row.X) (param 3 g.row.C) (param 4 g.row.G) (param 7 g.row.X-Reader) g.B.Room g.M.Mechanism g.X.ExtraRows g.X.ExtraGrammar g.X.Reader.ExtraGrammar) (
      sync,
      (
        lent_sync ℓ (Front.the_row (param 1 g.row.M) (param 2 g.row.X) (param 7 g.row.X-Reader) g.M.Mechanism g.X.ExtraRows g.X.ExtraGrammar g.X.Reader.ExtraGrammar) tt (record { shared = c.may_share-2.ensures.shared }),
        (
          lent_sync ℓ (History.the_row (param 0 g.row.B) g.B.Room) tt (record { shared = c.may_share-3.ensures.shared }),
          (
            lent_sync ℓ (Mutex.the_row (Desk.the_row (param 0 g.row.B) (param 1 g.row.M) (param 2 g.row.X) g.B.Room g.M.Mechanism g.X.ExtraRows g.X.ExtraGrammar)) tt (record { shared = c.may_share-4.ensures.shared }),
            (given_sync ℓ (param 3 g.row.C) c.type_bounds.sync-C, (given_sync ℓ (param 4 g.row.G) c.type_bounds.sync-G, tt)),
          ),
        ),
      ),
    ) in
    closure_sync 4 _ no _ _ _ _ (param 6 g.row.R) (codecs_row g) (shared_row g _) _ _ _ c.type_bounds.sync-R codecs (shared _)
