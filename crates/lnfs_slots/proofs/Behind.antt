-- Behind a SEQUENCE each client's record keeps all but whether it has reclaimed, and contexts and last numbers stay.
use Rattle.std.proofs.Common.{◌≡◌, ℕ, Bool, true, false, cond, not, List, [], ◌∷◌, ◌++◌, Option, Some, None, refl, sym, ◌∙◌, ap}
use Rattle.std.specs.Option.{option_map}
use Rattle.lnfs_calipso.specs.Label.{IsPreorderWithBottom}
use Rattle.lnfs_arguments.specs.declared.types.Op.{Op}
use Rattle.lnfs_arguments.specs.declared.types.Op.TheVariants as ops
use Rattle.lnfs_arguments.specs.declared.types.Compound.{Compound}
use Rattle.lnfs_arguments.specs.declared.statuses.TheConstants.{NFS4ERR_COMPLETE_ALREADY, NFS4ERR_OP_NOT_IN_SESSION}
use Rattle.lnfs_results.specs.declared.types.OpResult.{OpResult}
use Rattle.lnfs_world.specs.Rows.{inserted}
use Rattle.lnfs_world.specs.World.{Id, Client, Session, World, client_order, same_id, client_at}
use Rattle.lnfs_world.specs.Change.{SetClient, apply_all}
use Rattle.lnfs_world.specs.Outcome.{Site, Place, done_to}
use Rattle.lnfs_world.specs.Lawful.{deed_of}
use Rattle.lnfs_world.specs.Both.{Both, both_seen, BothStand, on_world}
use Rattle.lnfs_world.proofs.Keys.{id_same}
use Rattle.lnfs_world.proofs.KeptClients.{client_at-inserted}
use Rattle.lnfs_operations.specs.declared.Gate.TheVariants as gates
use Rattle.lnfs_operations.specs.Chain.{refuse, done, demand, where_there}
use Rattle.lnfs_operations.specs.Sequence.{Sent, renewing}
use Rattle.lnfs_operations.specs.ReclaimComplete.{client_under, reclaimed, reclaim_complete}
use Rattle.lnfs_operations.specs.Extra.{Extra, AreLawful, further_deed}
use Rattle.lnfs_operations.specs.Admission.{admission}
use Rattle.lnfs_operations.specs.Served.{row, row_in, further_reply, admitted, operation}
use Rattle.lnfs_operations.specs.SlotRule.{run_behind}
use Rattle.lnfs_operations.proofs.SessionLaws.{client_level}
use Rattle.lnfs_operations.proofs.ServedLaws.{operation_lawful}
use Rattle.lnfs_operations.proofs.SlotRules.{followed_any}
use Rattle.lnfs_operations.proofs.ReadingRows.{is_reading, row_reads, reads_any}
use Rattle.lnfs_operations.proofs.ChangingRows.{is_changing, row_changes}
use Rattle.lnfs_operations.proofs.Once.{admitted_any, reclaim_any}
use Rattle.lnfs_operations.proofs.Renewals.{renewed_in}
use Rattle.lnfs_world.specs.Leases.{renewed}
use Rattle.lnfs_slots.proofs.Steady.{Steady, steady_itself, steady_through, changing_steady, reading_steady}

-- all but whether it has reclaimed, and its lease
abbrev pub core : Client → Client
core c = record c { reclaimed = false; seen = None }

-- each record is as before, but for that
abbrev pub AreCore : List Client → List Client → Type 0
AreCore old new = (i : Id) → option_map core (client_at new i) ≡ option_map core (client_at old i)

-- another state of a record that keeps it
pub set_core : (clients : List Client) (j : Id) (c d : Client) → client_at clients j ≡ Some c → core d ≡ core c → d.id ≡ c.id → AreCore clients (inserted client_order d clients)
set_core clients j c d found kept id i = ap (option_map core) (client_at-inserted d clients i) ∙ at (same_id i d.id) refl
  where
    at : (b : Bool) → same_id i d.id ≡ b → option_map core (cond b (Some d) (client_at clients i)) ≡ option_map core (client_at clients i)
    at true e =
        let same : i ≡ j = id_same i d.id e ∙ id ∙ client_level j clients c found in
        ap Some kept ∙ sym (ap (option_map core) (ap (client_at clients) same ∙ found))
    at false e = refl

-- the lease of a session's client begins again
pub renewed_core : (p : Place) (w : World) (x : Session) → AreCore w.clients (renewed_in p w x).clients
renewed_core p w x = at (client_at w.clients j) refl
  where
    j : Id
    j = record { level = p.subject; number = x.client }

    at : (o : Option Client) → client_at w.clients j ≡ o → AreCore w.clients (apply_all (renewing p.moment o) w).clients
    at None e = λ i. refl
    at (Some c) e = set_core w.clients j c (renewed p.moment c) e refl refl

module _ (X : Extra) (owed : AreLawful X) (site : Site) (lattice : IsPreorderWithBottom site.dom) (sent : Sent) (c : Compound) where
  abbrev Stays : Place → Both X.Row → Place → Both X.Row → Type 0
  Stays p b q v = AreCore b.world.clients v.world.clients × Steady b.world v.world

  same : (p q : Place) (b v : Both X.Row) → v.world.clients ≡ b.world.clients → Steady b.world v.world → Stays p b q v
  same p q b v e steady = (λ i. ap (λ cs. option_map core (client_at cs i)) e, steady)

  all_same : (p : Place) (b : Both X.Row) → Stays p b p b
  all_same p b = (λ i. refl, steady_itself b.world)

  reclaim_core : (one_fs : Bool) (p : Place) (w : World) → AreCore w.clients (done_to w (reclaim_complete one_fs p w)).clients
  reclaim_core one_fs p w = under p.client
    where
      of : (one : Bool) (j : Id) (d : Client) → client_at w.clients j ≡ Some d → AreCore w.clients (done_to w (reclaimed one p d)).clients
      of true j d found = λ i. refl
      of false j d found = either (not d.reclaimed)
        where
          either : (t : Bool) → AreCore w.clients (done_to w (demand t (refuse p gates.Session NFS4ERR_COMPLETE_ALREADY) (done {R = Unit {0}} p tt (SetClient (record d { reclaimed = true }) ∷ [])))).clients
          either true = set_core w.clients j d (record d { reclaimed = true }) found refl refl
          either false = λ i. refl

      found_at : (j : Id) (o : Option Client) → client_at w.clients j ≡ o → AreCore w.clients (done_to w (where_there o (reclaimed one_fs p) (refuse p gates.Session NFS4ERR_OP_NOT_IN_SESSION))).clients
      found_at j None e = λ i. refl
      found_at j (Some d) e = of one_fs j d e

      under : (n : Option ℕ) → AreCore w.clients (done_to w (where_there (client_under p.subject n w.clients) (reclaimed one_fs p) (refuse p gates.Session NFS4ERR_OP_NOT_IN_SESSION))).clients
      under None = λ i. refl
      under (Some number) = found_at (record { level = p.subject; number = number }) (client_at w.clients (record { level = p.subject; number = number })) refl

  reclaim_steady : (one_fs : Bool) (p : Place) (w : World) → Steady w (done_to w (reclaim_complete one_fs p w))
  reclaim_steady one_fs p w = reclaim_any (λ o. Steady w (done_to w o)) one_fs p w (λ status. steady_itself w) (steady_itself w) (λ d. record { contexts = refl; last_clients = refl; last_sessions = refl; last_contexts = refl })

  reading_stays : (r : OpResult) (rs : List OpResult) (op : Op) (p : Place) (b : Both X.Row) → is_reading op ≡ true →
      let t = admitted op p b (admission X.grammar c (r ∷ rs) op p b.world) (on_world (deed_of (row site sent op)) p b) in
      Stays p b t.place t.state
  reading_stays r rs op p b is = admitted_any (Stays p b) op (admission X.grammar c (r ∷ rs) op p b.world) p b (on_world (deed_of (row site sent op)) p b) (all_same p b)
      (same p p b (on_world (deed_of (row site sent op)) p b).state (reads_any p b.world (λ v. v.clients ≡ b.world.clients) (row site sent op p b.world) (row_reads site sent p b.world op is) refl (λ n found. refl)) (reading_steady site p b.world sent op is))

  changing_stays : (r : OpResult) (rs : List OpResult) (op : Op) (p : Place) (b : Both X.Row) → is_changing op ≡ true →
      let t = admitted op p b (admission X.grammar c (r ∷ rs) op p b.world) (on_world (deed_of (row site sent op)) p b) in
      Stays p b t.place t.state
  changing_stays r rs op p b is = admitted_any (Stays p b) op (admission X.grammar c (r ∷ rs) op p b.world) p b (on_world (deed_of (row site sent op)) p b) (all_same p b)
      (same p p b (on_world (deed_of (row site sent op)) p b).state (row_changes site p b.world sent op is).changed.beside.clients (changing_steady site p b.world sent op is))

  extra_stays : (serves : Bool) (number : ℕ) (arguments : List ℕ) (p : Place) (b : Both X.Row) → BothStand X.Fact site.dom p b →
      let t = cond serves (further_reply number (further_deed X site number arguments)) (on_world (deed_of (row site sent (ops.Extra number arguments)))) p b in
      Stays p b t.place t.state
  extra_stays true number arguments p b stands =
      let left = (owed.tame site lattice number arguments p b stands).untouched in
      same p p b (further_deed X site number arguments p b).state left.clients (record { contexts = left.contexts; last_clients = left.last_clients; last_sessions = left.last_sessions; last_contexts = left.last_contexts })
  extra_stays false number arguments p b stands = all_same p b

  pub operation_core : (r : OpResult) (rs : List OpResult) (op : Op) (p : Place) (b : Both X.Row) → BothStand X.Fact site.dom p b → Stays p b (operation X site sent c (r ∷ rs) op p b).place (operation X site sent c (r ∷ rs) op p b).state
  operation_core r rs (ops.ExchangeId verifier owner flags implementation) p b stands = all_same p b
  operation_core r rs (ops.CreateSession args) p b stands = all_same p b
  operation_core r rs (ops.DestroySession session) p b stands = all_same p b
  operation_core r rs (ops.Sequence args) p b stands = all_same p b
  operation_core r rs (ops.DestroyClientId client) p b stands = all_same p b
  operation_core r rs (ops.ReclaimComplete one_fs) p b stands = admitted_any (Stays p b) (ops.ReclaimComplete one_fs) (admission X.grammar c (r ∷ rs) (ops.ReclaimComplete one_fs) p b.world) p b (row_in X site sent (ops.ReclaimComplete one_fs) p b) (all_same p b) (reclaim_core one_fs p b.world, reclaim_steady one_fs p b.world)
  operation_core r rs (ops.PutFh handle) p b stands = reading_stays r rs (ops.PutFh handle) p b refl
  operation_core r rs ops.PutRootFh p b stands = reading_stays r rs ops.PutRootFh p b refl
  operation_core r rs ops.GetFh p b stands = reading_stays r rs ops.GetFh p b refl
  operation_core r rs ops.SaveFh p b stands = reading_stays r rs ops.SaveFh p b refl
  operation_core r rs ops.RestoreFh p b stands = reading_stays r rs ops.RestoreFh p b refl
  operation_core r rs (ops.Lookup name) p b stands = reading_stays r rs (ops.Lookup name) p b refl
  operation_core r rs ops.LookupP p b stands = reading_stays r rs ops.LookupP p b refl
  operation_core r rs (ops.GetAttr asked) p b stands = reading_stays r rs (ops.GetAttr asked) p b refl
  operation_core r rs (ops.Verify given) p b stands = reading_stays r rs (ops.Verify given) p b refl
  operation_core r rs (ops.NVerify given) p b stands = reading_stays r rs (ops.NVerify given) p b refl
  operation_core r rs (ops.Access bits) p b stands = reading_stays r rs (ops.Access bits) p b refl
  operation_core r rs (ops.ReadDir cookie verifier dircount maxcount asked) p b stands = reading_stays r rs (ops.ReadDir cookie verifier dircount maxcount asked) p b refl
  operation_core r rs ops.ReadLink p b stands = reading_stays r rs ops.ReadLink p b refl
  operation_core r rs (ops.Create what name given) p b stands = changing_stays r rs (ops.Create what name given) p b refl
  operation_core r rs (ops.Link name) p b stands = changing_stays r rs (ops.Link name) p b refl
  operation_core r rs (ops.Remove name) p b stands = changing_stays r rs (ops.Remove name) p b refl
  operation_core r rs (ops.Rename old new) p b stands = changing_stays r rs (ops.Rename old new) p b refl
  operation_core r rs (ops.SetAttr id given) p b stands = changing_stays r rs (ops.SetAttr id given) p b refl
  operation_core r rs (ops.Read id offset count) p b stands = reading_stays r rs (ops.Read id offset count) p b refl
  operation_core r rs (ops.Commit offset count) p b stands = reading_stays r rs (ops.Commit offset count) p b refl
  operation_core r rs (ops.Open seqid access deny client owner making claim) p b stands = changing_stays r rs (ops.Open seqid access deny client owner making claim) p b refl
  operation_core r rs (ops.Close seqid id) p b stands = changing_stays r rs (ops.Close seqid id) p b refl
  operation_core r rs (ops.Write id offset stable content) p b stands = changing_stays r rs (ops.Write id offset stable content) p b refl
  operation_core r rs (ops.Outside number status) p b stands = admitted_any (Stays p b) (ops.Outside number status) (admission X.grammar c (r ∷ rs) (ops.Outside number status) p b.world) p b (row_in X site sent (ops.Outside number status) p b) (all_same p b) (all_same p b)
  operation_core r rs (ops.Extra number arguments) p b stands =
      admitted_any (Stays p b) (ops.Extra number arguments) (admission X.grammar c (r ∷ rs) (ops.Extra number arguments) p b.world) p b (row_in X site sent (ops.Extra number arguments) p b) (all_same p b)
      (extra_stays (X.grammar.serves number) number arguments p b stands)

  pub behind_core : (os : List Op) (r : OpResult) (rs : List OpResult) (p : Place) (b : Both X.Row) → BothStand X.Fact site.dom p b → Stays p b (run_behind (operation X site sent c) (r ∷ rs) os p b).place (run_behind (operation X site sent c) (r ∷ rs) os p b).state
  unfolding run_behind
  behind_core [] r rs p b stands = all_same p b
  behind_core (op ∷ os) r rs p b stands =
      let t = operation X site sent c (r ∷ rs) op p b in
      let now = operation_core r rs op p b stands in
      let law = operation_lawful X owed site lattice sent c (r ∷ rs) op in
      followed_any site.dom (both_seen X.level_of site.dom) (BothStand X.Fact site.dom) (Stays p b) (r ∷ rs) op t.place t.state t.answer (λ results. run_behind (operation X site sent c) results os t.place t.state) now
      (λ last.
      let later = behind_core os r (rs ++ last ∷ []) t.place t.state (law.stands p b stands) in
      (λ i. later.0 i ∙ now.0 i, steady_through b.world t.state.world _ now.1 later.1))
