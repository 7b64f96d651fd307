-- What a new COMPOUND on a slot answers stands in that slot afterwards.
use Rattle.std.proofs.Common.{◌≡◌, ◌≤◌, ℕ, zero, suc, Bool, true, false, cond, not, List, [], ◌∷◌, ◌++◌, drop, Option, Some, None, refl, sym, ap, ◌∙◌, subst, arith}
use Rattle.std.specs.Prelude.{slice_get}
use Rattle.std.specs.Str.{bytes_eq}
use Rattle.lnfs_calipso.specs.Label.{IsPreorderWithBottom}
use Rattle.lnfs_types.specs.declared.event.Moment.{Moment}
use Rattle.lnfs_arguments.specs.declared.types.Op.{Op}
use Rattle.lnfs_arguments.specs.declared.types.Op.TheVariants as ops
use Rattle.lnfs_arguments.specs.declared.types.Compound.{Compound}
use Rattle.lnfs_arguments.specs.declared.types.Sequence.{Sequence}
use Rattle.lnfs_arguments.specs.declared.statuses.TheConstants.{NFS4ERR_COMPLETE_ALREADY, NFS4ERR_OP_NOT_IN_SESSION}
use Rattle.lnfs_results.specs.declared.types.OpResult.{OpResult}
use Rattle.lnfs_world.specs.Rows.{inserted}
use Rattle.lnfs_world.specs.World.{Id, Kept as Stored, Client, Slot as SlotRow, Session, World, session_order, session_at}
use Rattle.lnfs_world.specs.Change.{SetClient, apply_all}
use Rattle.lnfs_world.specs.Outcome.{Site, Place, Outcome, begins_at, done_to}
use Rattle.lnfs_world.specs.Lawful.{Turn, deed_of}
use Rattle.lnfs_world.specs.Both.{Both, both, both_seen, BothStand, on_world}
use Rattle.lnfs_world.proofs.Keys.{id_itself}
use Rattle.lnfs_operations.specs.declared.Gate.TheVariants as gates
use Rattle.lnfs_operations.specs.Chain.{Answer as Answered, Refusal, refuse, done, demand, where_there}
use Rattle.lnfs_operations.specs.Identifiers.{session_named, session_under}
use Rattle.lnfs_operations.specs.Keeping.{next_sequence, with_slot, kept_in, kept_under, keep_result}
use Rattle.lnfs_operations.specs.Sequence.{Sent, Sequenced, in_session, begun_in, sequence}
use Rattle.lnfs_operations.specs.ReclaimComplete.{client_under, reclaimed, reclaim_complete}
use Rattle.lnfs_operations.specs.Extra.{Extra, AreLawful, further_deed}
use Rattle.lnfs_operations.specs.Admission.{admission}
use Rattle.lnfs_operations.specs.Served.{Reply, row, row_in, further_reply, admitted, operation}
use Rattle.lnfs_operations.specs.SlotRule.{run_behind, kept_after, served}
use Rattle.lnfs_operations.specs.Retries.{Names}
use Rattle.lnfs_operations.proofs.KeepingLaws.{session_at-inserted}
use Rattle.lnfs_operations.proofs.SessionLaws.{session_at-id, session_under-at}
use Rattle.lnfs_operations.proofs.Renewals.{renewed_in, renewal_leaves}
use Rattle.lnfs_operations.proofs.ServedLaws.{operation_lawful}
use Rattle.lnfs_operations.proofs.SlotRules.{followed_any, behind_stands}
use Rattle.lnfs_operations.proofs.ReadingRows.{is_reading, row_reads, reads_stay}
use Rattle.lnfs_operations.proofs.ChangingRows.{is_changing, row_changes, changes_stay}
use Rattle.lnfs_operations.proofs.Retries.{on_named, slot_new, begun, by_sequence, answered_again}

-- ---- behind a SEQUENCE no session changes

pub admitted_any : {S : Type 0} (P : Place → S → Type 0) (op : Op) (o : Option Refusal) (p : Place) (a : S) (t : Turn Reply S) → P p a → P t.place t.state → P (admitted op p a o t).place (admitted op p a o t).state
admitted_any P op None p a t before after = after
admitted_any P op (Some why) p a t before after = before

-- what holds of each end of RECLAIM_COMPLETE holds of its outcome
pub reclaim_any : (P : Outcome (Answered (Unit {0})) → Type 0) (one_fs : Bool) (p : Place) (w : World) → ((status : ℕ) → P (refuse p gates.Session status)) → P (done p tt []) → ((c : Client) → P (done p tt (SetClient c ∷ []))) → P (reclaim_complete one_fs p w)
reclaim_any P one_fs p w refused told set = at (client_under p.subject p.client w.clients)
  where
    either : (test : Bool) (x y : Outcome (Answered (Unit {0}))) → P x → P y → P (demand test x y)
    either true x y a b = b
    either false x y a b = a

    of : (one : Bool) (c : Client) → P (reclaimed one p c)
    of true c = told
    of false c = either (not c.reclaimed) (refuse p gates.Session NFS4ERR_COMPLETE_ALREADY) (done p tt (SetClient (record c { reclaimed = true }) ∷ [])) (refused NFS4ERR_COMPLETE_ALREADY) (set (record c { reclaimed = true }))

    at : (o : Option Client) → P (where_there o (reclaimed one_fs p) (refuse p gates.Session NFS4ERR_OP_NOT_IN_SESSION))
    at None = refused NFS4ERR_OP_NOT_IN_SESSION
    at (Some c) = of one_fs c

module _ (X : Extra) (owed : AreLawful X) (site : Site) (lattice : IsPreorderWithBottom site.dom) (sent : Sent) (c : Compound) where
  -- the sessions are those from before, and the place stands in its own
  abbrev Stays : Place → Both X.Row → Place → Both X.Row → Type 0
  Stays p b q v = (v.world.sessions ≡ b.world.sessions) × (q.session ≡ p.session)

  further_stays : (number : ℕ) (arguments : List ℕ) (p : Place) (b : Both X.Row) → BothStand X.Fact site.dom p b → Stays p b (further_deed X site number arguments p b).place (further_deed X site number arguments p b).state
  further_stays number arguments p b stands =
      let tame = owed.tame site lattice number arguments p b stands in
      (tame.untouched.sessions, refl)

  extra_stays : (serves : Bool) (number : ℕ) (arguments : List ℕ) (p : Place) (b : Both X.Row) → BothStand X.Fact site.dom p b →
      let t = cond serves (further_reply number (further_deed X site number arguments)) (on_world (deed_of (row site sent (ops.Extra number arguments)))) p b in
      Stays p b t.place t.state
  extra_stays true number arguments p b stands = further_stays number arguments p b stands
  extra_stays false number arguments p b stands = (refl, refl)

  reclaim_stays : (r : OpResult) (rs : List OpResult) (one_fs : Bool) (p : Place) (b : Both X.Row) → Stays p b (operation X site sent c (r ∷ rs) (ops.ReclaimComplete one_fs) p b).place (operation X site sent c (r ∷ rs) (ops.ReclaimComplete one_fs) p b).state
  reclaim_stays r rs one_fs p b = admitted_any (Stays p b) (ops.ReclaimComplete one_fs) (admission X.grammar c (r ∷ rs) (ops.ReclaimComplete one_fs) p b.world) p b (row_in X site sent (ops.ReclaimComplete one_fs) p b) (refl, refl)
      (reclaim_any (λ o. Stays p b o.place (both (done_to b.world o) b.own)) one_fs p b.world (λ status. (refl, refl)) (refl, refl) (λ c. (refl, refl)))

  reading_stays : (r : OpResult) (rs : List OpResult) (op : Op) (p : Place) (b : Both X.Row) → is_reading op ≡ true →
      let t = admitted op p b (admission X.grammar c (r ∷ rs) op p b.world) (on_world (deed_of (row site sent op)) p b) in
      Stays p b t.place t.state
  reading_stays r rs op p b is = admitted_any (Stays p b) op (admission X.grammar c (r ∷ rs) op p b.world) p b (on_world (deed_of (row site sent op)) p b) (refl, refl) (reads_stay p b.world (row site sent op p b.world) (row_reads site sent p b.world op is))

  changing_stays : (r : OpResult) (rs : List OpResult) (op : Op) (p : Place) (b : Both X.Row) → is_changing op ≡ true →
      let t = admitted op p b (admission X.grammar c (r ∷ rs) op p b.world) (on_world (deed_of (row site sent op)) p b) in
      Stays p b t.place t.state
  changing_stays r rs op p b is = admitted_any (Stays p b) op (admission X.grammar c (r ∷ rs) op p b.world) p b (on_world (deed_of (row site sent op)) p b) (refl, refl) (changes_stay site p b.world (row site sent op p b.world) (row_changes site p b.world sent op is))

  pub operation_stays : (r : OpResult) (rs : List OpResult) (op : Op) (p : Place) (b : Both X.Row) → BothStand X.Fact site.dom p b → Stays p b (operation X site sent c (r ∷ rs) op p b).place (operation X site sent c (r ∷ rs) op p b).state
  operation_stays r rs (ops.ExchangeId verifier owner flags implementation) p b stands = (refl, refl)
  operation_stays r rs (ops.CreateSession args) p b stands = (refl, refl)
  operation_stays r rs (ops.DestroySession session) p b stands = (refl, refl)
  operation_stays r rs (ops.Sequence args) p b stands = (refl, refl)
  operation_stays r rs (ops.DestroyClientId client) p b stands = (refl, refl)
  operation_stays r rs (ops.ReclaimComplete one_fs) p b stands = reclaim_stays r rs one_fs p b
  operation_stays r rs (ops.PutFh handle) p b stands = reading_stays r rs (ops.PutFh handle) p b refl
  operation_stays r rs ops.PutRootFh p b stands = reading_stays r rs ops.PutRootFh p b refl
  operation_stays r rs ops.GetFh p b stands = reading_stays r rs ops.GetFh p b refl
  operation_stays r rs ops.SaveFh p b stands = reading_stays r rs ops.SaveFh p b refl
  operation_stays r rs ops.RestoreFh p b stands = reading_stays r rs ops.RestoreFh p b refl
  operation_stays r rs (ops.Lookup name) p b stands = reading_stays r rs (ops.Lookup name) p b refl
  operation_stays r rs ops.LookupP p b stands = reading_stays r rs ops.LookupP p b refl
  operation_stays r rs (ops.GetAttr asked) p b stands = reading_stays r rs (ops.GetAttr asked) p b refl
  operation_stays r rs (ops.Verify given) p b stands = reading_stays r rs (ops.Verify given) p b refl
  operation_stays r rs (ops.NVerify given) p b stands = reading_stays r rs (ops.NVerify given) p b refl
  operation_stays r rs (ops.Access bits) p b stands = reading_stays r rs (ops.Access bits) p b refl
  operation_stays r rs (ops.ReadDir cookie verifier dircount maxcount asked) p b stands = reading_stays r rs (ops.ReadDir cookie verifier dircount maxcount asked) p b refl
  operation_stays r rs ops.ReadLink p b stands = reading_stays r rs ops.ReadLink p b refl
  operation_stays r rs (ops.Create what name given) p b stands = changing_stays r rs (ops.Create what name given) p b refl
  operation_stays r rs (ops.Link name) p b stands = changing_stays r rs (ops.Link name) p b refl
  operation_stays r rs (ops.Remove name) p b stands = changing_stays r rs (ops.Remove name) p b refl
  operation_stays r rs (ops.Rename old new) p b stands = changing_stays r rs (ops.Rename old new) p b refl
  operation_stays r rs (ops.SetAttr id given) p b stands = changing_stays r rs (ops.SetAttr id given) p b refl
  operation_stays r rs (ops.Read id offset count) p b stands = reading_stays r rs (ops.Read id offset count) p b refl
  operation_stays r rs (ops.Commit offset count) p b stands = reading_stays r rs (ops.Commit offset count) p b refl
  operation_stays r rs (ops.Open seqid access deny client owner making claim) p b stands = changing_stays r rs (ops.Open seqid access deny client owner making claim) p b refl
  operation_stays r rs (ops.Close seqid id) p b stands = changing_stays r rs (ops.Close seqid id) p b refl
  operation_stays r rs (ops.Write id offset stable content) p b stands = changing_stays r rs (ops.Write id offset stable content) p b refl
  operation_stays r rs (ops.Outside number status) p b stands = admitted_any (Stays p b) (ops.Outside number status) (admission X.grammar c (r ∷ rs) (ops.Outside number status) p b.world) p b (row_in X site sent (ops.Outside number status) p b) (refl, refl) (refl, refl)
  operation_stays r rs (ops.Extra number arguments) p b stands =
      admitted_any (Stays p b) (ops.Extra number arguments) (admission X.grammar c (r ∷ rs) (ops.Extra number arguments) p b.world) p b (row_in X site sent (ops.Extra number arguments) p b) (refl, refl)
      (extra_stays (X.grammar.serves number) number arguments p b stands)

  pub behind_stays : (os : List Op) (r : OpResult) (rs : List OpResult) (p : Place) (b : Both X.Row) → BothStand X.Fact site.dom p b → Stays p b (run_behind (operation X site sent c) (r ∷ rs) os p b).place (run_behind (operation X site sent c) (r ∷ rs) os p b).state
  unfolding run_behind
  behind_stays [] r rs p b stands = (refl, refl)
  behind_stays (op ∷ os) r rs p b stands =
      let t = operation X site sent c (r ∷ rs) op p b in
      let now = operation_stays r rs op p b stands in
      let law = operation_lawful X owed site lattice sent c (r ∷ rs) op in
      followed_any site.dom (both_seen X.level_of site.dom) (BothStand X.Fact site.dom) (Stays p b) (r ∷ rs) op t.place t.state t.answer (λ results. run_behind (operation X site sent c) results os t.place t.state) now
      (λ last. let later = behind_stays os r (rs ++ last ∷ []) t.place t.state (law.stands p b stands) in (later.0 ∙ now.0, later.1 ∙ now.1))

  pub behind_subject : (os : List Op) (r : OpResult) (rs : List OpResult) (p : Place) (b : Both X.Row) → BothStand X.Fact site.dom p b → (run_behind (operation X site sent c) (r ∷ rs) os p b).place.subject ≡ p.subject
  behind_subject os r rs p b stands = (behind_stands site.dom (both_seen X.level_of site.dom) (BothStand X.Fact site.dom) (operation X site sent c) (operation_lawful X owed site lattice sent c) os (r ∷ rs) p b stands).1

-- ---- the slot afterwards

slot_set : (n : ℕ) (row : SlotRow) (xs : List SlotRow) (old : SlotRow) → slice_get xs n ≡ Some old → slice_get (with_slot n row xs) n ≡ Some row
slot_set n row [] old is = absurd (grind arith)
slot_set zero row (x ∷ xs) old is = refl
slot_set (suc n) row (x ∷ xs) old is = slot_set n row xs old is

-- the session with a result in one of its slots
abbrev pub keeping : Session → (slot sequence : ℕ) → Stored → Session
keeping x slot sequence kept = record x { slots = with_slot slot (record { sequence = sequence; kept = Some kept }) x.slots }

-- where the place stands in a session that is there, it is that session that keeps
pub kept_sessions : (q : Place) (w : World) (level : ℕ) (x : Session) (slot sequence : ℕ) (kept : Stored) → q.session ≡ Some x.id.number → q.subject ≡ level → x.id.level ≡ level → session_at w.sessions x.id ≡ Some x →
    (done_to w (keep_result slot sequence kept q w)).sessions ≡ inserted session_order (keeping x slot sequence kept) w.sessions
kept_sessions q w level x slot sequence kept stands subject own there =
    let row : SlotRow = record { sequence = sequence; kept = Some kept } in
    let id : record { level = q.subject; number = x.id.number } ≡ x.id = (λ i. record { level = (subject ∙ sym own) i; number = x.id.number }) in
    ap (λ cs. (apply_all cs w).sessions) (ap (λ o. kept_under q slot row o w.sessions) stands ∙ ap (kept_in q slot row) (ap (session_at w.sessions) id ∙ there))

under_again : (bytes : List ℕ) (before after : List Session) (x y : Session) → session_under bytes before ≡ Some x → session_at after (session_named bytes) ≡ Some y → session_under bytes after ≡ Some y
under_again bytes before after x y was now = at (bytes_eq (drop 12 bytes) (0 ∷ 0 ∷ 0 ∷ 0 ∷ [])) was
  where
    at : (b : Bool) → cond b (session_at before (session_named bytes)) None ≡ Some x → cond b (session_at after (session_named bytes)) None ≡ Some y
    at true e = now
    at false e = absurd (grind arith)

-- the same slot is named by the same arguments, with what is kept in it
named_again : (level : ℕ) (w v : World) (args : Sequence) (sent again : Sent) (x : Session) (slot : SlotRow) (kept : Stored) → Names level w args sent x slot → again.size ≤ x.channel.max_request →
    v.sessions ≡ inserted session_order (keeping x args.slot args.sequence kept) w.sessions → Names level v args again (keeping x args.slot args.sequence kept) (record { sequence = args.sequence; kept = Some kept })
named_again level w v args sent again x slot kept names size sessions =
    let y : Session = keeping x args.slot args.sequence kept in
    let id : x.id ≡ session_named args.session = session_at-id (session_named args.session) w.sessions x (session_under-at args.session w.sessions x names.session) in
    let there : session_at v.sessions x.id ≡ Some y = ap (λ xs. session_at xs x.id) sessions ∙ session_at-inserted y w.sessions x.id ∙ ap (λ b. cond b (Some y) (session_at w.sessions x.id)) (id_itself x.id) in
    record {
      own = names.own;
      session = under_again args.session w.sessions v.sessions x y names.session (ap (session_at v.sessions) (sym id) ∙ there);
      size = size;
      slot = slot_set args.slot (record { sequence = args.sequence; kept = Some kept }) x.slots slot names.slot;
    }

-- ---- acts once

module _ (X : Extra) (owed : AreLawful X) (site : Site) (lattice : IsPreorderWithBottom site.dom) (sent : Sent) (c : Compound) where
  -- the state behind a SEQUENCE that begins a new request in a session
  abbrev pub renewed_state : Place → Both X.Row → Session → Both X.Row
  renewed_state p b x = both (renewed_in p b.world x) b.own

  -- a new COMPOUND on the slot that it names: its operations stand in the session
  pub new_begins : (level : ℕ) (moment : Moment) (b : Both X.Row) (args : Sequence) (x : Session) (slot : SlotRow) → BothStand X.Fact site.dom (begins_at level moment) b → Names level b.world args sent x slot → sent.count ≤ x.channel.max_operations → args.sequence ≡ next_sequence slot.sequence →
      (sequence args sent (begins_at level moment) b.world ≡ begun_in (begins_at level moment) b.world x) × BothStand X.Fact site.dom (in_session (begins_at level moment) x) (renewed_state (begins_at level moment) b x)
  new_begins level moment b args x slot stands names few next =
      let p = begins_at level moment in
      let law = operation_lawful X owed site lattice sent c [] (ops.Sequence args) in
      let v = renewed_state p b x in
      let done_new : sequence args sent p b.world ≡ begun_in p b.world x = on_named level moment b.world args sent x slot names few ∙ slot_new p b.world args sent x slot next in
      let turned : (operation X site sent c [] (ops.Sequence args) p b).place ≡ in_session p x = ap (λ (o : Outcome (Answered Sequenced)). o.place) done_new in
      let renews : (operation X site sent c [] (ops.Sequence args) p b).state ≡ v = ap (λ (o : Outcome (Answered Sequenced)). both (done_to b.world o) b.own) done_new in
      (done_new, subst (λ q. BothStand X.Fact site.dom q v) turned (subst (BothStand X.Fact site.dom (operation X site sent c [] (ops.Sequence args) p b).place) renews (law.stands p b stands)))

  pub acts_once : (level : ℕ) (moment later : Moment) (b : Both X.Row) (args : Sequence) (rest : List Op) (x : Session) (slot : SlotRow) (again : Sent) → BothStand X.Fact site.dom (begins_at level moment) b → c.minor ≡ 2 → c.ops ≡ ops.Sequence args ∷ rest →
      Names level b.world args sent x slot → sent.count ≤ x.channel.max_operations → args.sequence ≡ next_sequence slot.sequence → again.arguments ≡ sent.arguments → again.size ≤ x.channel.max_request → again.count ≤ x.channel.max_operations →
      served X site again c (begins_at level later) (served X site sent c (begins_at level moment) b).state
      ≡ record { answer = record { result = (served X site sent c (begins_at level moment) b).answer.result; denial = None }; place = begins_at level later; state = (served X site sent c (begins_at level moment) b).state }
  unfolding served begun
  acts_once level moment later b args rest x slot again stands minor is names few next same size count =
      let p = begins_at level moment in
      let started = new_begins level moment b args x slot stands names few next in
      let done_new = started.0 in
      let inside = started.1 in
      let o : Outcome (Answered Sequenced) = begun_in p b.world x in
      let v = renewed_state p b x in
      let left = (renewal_leaves p b.world x).sessions in
      let r = begun X site sent c args rest b o in
      let ran = by_sequence X site sent c level moment b args rest minor is ∙ ap (begun X site sent c args rest b) done_new in
      let first = ap (kept_after sent c) ran in
      let behind = behind_stays X owed site lattice sent c rest _ [] (in_session p x) v inside in
      let sessions_stay = behind.0 ∙ left in
      let subject = behind_subject X owed site lattice sent c rest _ [] (in_session p x) v inside in
      let id : x.id ≡ session_named args.session = session_at-id (session_named args.session) b.world.sessions x (session_under-at args.session b.world.sessions x names.session) in
      let own : x.id.level ≡ level = ap (λ (i : Id). i.level) id ∙ names.own in
      let there : session_at b.world.sessions x.id ≡ Some x = ap (session_at b.world.sessions) id ∙ session_under-at args.session b.world.sessions x names.session in
      let kept : Stored = record { arguments = sent.arguments; reply = (kept_after sent c r).answer.result } in
      let sessions = kept_sessions r.place r.state.world level x args.slot args.sequence kept behind.1 subject own (ap (λ xs. session_at xs x.id) sessions_stay ∙ there)
      ∙ ap (inserted session_order (keeping x args.slot args.sequence kept)) sessions_stay in
      let named = named_again level b.world (kept_after sent c r).state.world args sent again x slot kept names size sessions in
      let slot_now : record { sequence = args.sequence; kept = Some kept } ≡ record { sequence = args.sequence; kept = Some (record { arguments = again.arguments; reply = (kept_after sent c r).answer.result }) } = (λ i. record { sequence = args.sequence; kept = Some (record { arguments = sym same i; reply = (kept_after sent c r).answer.result }) }) in
      let retry = answered_again X site again c level later (kept_after sent c r).state args rest (keeping x args.slot args.sequence kept) (record { sequence = args.sequence; kept = Some kept }) (kept_after sent c r).answer.result minor is named count slot_now in
      subst (λ t. served X site again c (begins_at level later) t.state ≡ record { answer = record { result = t.answer.result; denial = None }; place = begins_at level later; state = t.state }) (sym first) retry
