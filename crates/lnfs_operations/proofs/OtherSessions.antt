-- A COMPOUND that doesn't name a session leaves its row, unless a CREATE_SESSION takes the place of its client's record.
use Rattle.std.proofs.Common.{◌≡◌, ℕ, ◌+◌, Bool, true, false, cond, not, List, [], ◌∷◌, ◌++◌, Option, Some, None, refl, sym, ap, ◌∙◌, subst, arith}
use Rattle.std.specs.Prelude.{◌==◌}
use Rattle.std.specs.List.{find, list_any}
use Rattle.std.proofs.lemmas.Bool.Decides.{nat_tests}
use Rattle.lnfs_calipso.specs.Label.{IsPreorderWithBottom}
use Rattle.lnfs_types.specs.declared.event.Moment.{Moment}
use Rattle.lnfs_arguments.specs.declared.types.Op.{Op}
use Rattle.lnfs_arguments.specs.declared.types.Op.TheVariants as ops
use Rattle.lnfs_arguments.specs.declared.types.Compound.{Compound}
use Rattle.lnfs_arguments.specs.declared.types.CreateSession.{CreateSession}
use Rattle.lnfs_arguments.specs.declared.types.Sequence.{Sequence}
use Rattle.lnfs_world.specs.World.{Id, Kept, Client, Session, World, same_id, client_at, session_at, last_of, is_given}
use Rattle.lnfs_world.specs.Change.{Change, SetClient, DropClient, AddSession, is_session_of, apply, apply_all}
use Rattle.lnfs_world.specs.Facts.{Facts, has_confirmed}
use Rattle.lnfs_world.specs.Outcome.{Site, Place, Outcome, begins_at, done_to}
use Rattle.lnfs_world.specs.Lawful.{Turn}
use Rattle.lnfs_world.specs.Both.{Both, both_seen, BothStand}
use Rattle.lnfs_world.proofs.Keys.{id_same}
use Rattle.lnfs_world.proofs.Rows.{all_anyway, all_find, none_any}
use Rattle.lnfs_world.proofs.Views.{found_by_id, found_left}
use Rattle.lnfs_operations.specs.Admission.{admission}
use Rattle.lnfs_operations.specs.Came as came
use Rattle.lnfs_operations.specs.Came.{Came, came_on_slot}
use Rattle.lnfs_operations.specs.CreateSession.{create_session, granted_of, new_session, is_replaced, confirmed}
use Rattle.lnfs_operations.specs.DestroyClientId.{destroy_clientid, is_busy}
use Rattle.lnfs_operations.specs.DestroySession.{destroy_session}
use Rattle.lnfs_operations.specs.ExchangeId.{Arguments, exchange_id, is_pending, dropped}
use Rattle.lnfs_operations.specs.Extra.{Extra, AreLawful}
use Rattle.lnfs_operations.specs.Identifiers.{client_named, session_named, session_under}
use Rattle.lnfs_operations.specs.Keeping.{kept_under, kept_of}
use Rattle.lnfs_operations.specs.Named.{names_session, replaced_by, is_session_under, replaces_client_of}
use Rattle.lnfs_operations.specs.Sequence.{Sent}
use Rattle.lnfs_operations.specs.Served.{Keeper, Nowhere, Slot, Record, row_in, operation}
use Rattle.lnfs_operations.specs.SlotRule.{Answer, Ran, run_behind, run_all, result_of, keep_in, kept_after, served}
use Rattle.lnfs_operations.proofs.CameLaws.{slot_again, slot_refused, slot_new}
use Rattle.lnfs_operations.proofs.Chains.{demand_any, where_any}
use Rattle.lnfs_operations.proofs.CreateSessionLaws.{created_any}
use Rattle.lnfs_operations.proofs.ExchangeIdLaws.{exchange_id_any, other_client}
use Rattle.lnfs_operations.proofs.KeepingLaws.{session_at-inserted}
use Rattle.lnfs_operations.proofs.Once.{admitted_any, behind_stays, keeping}
use Rattle.lnfs_operations.proofs.Retries.{chosen_false, of_version}
use Rattle.lnfs_operations.proofs.ServedLaws.{operation_lawful}
use Rattle.lnfs_operations.proofs.SessionLaws.{session_at-id, session_under-at}
use Rattle.lnfs_operations.proofs.SlotRules.{followed_any}

-- what is given next wasn't given
fresh : (i : Id) (s : ℕ) (lasts : List Id) → is_given lasts i ≡ true → same_id i (record { level = s; number = last_of s lasts + 1 }) ≡ false
fresh i s lasts given = at (same_id i (record { level = s; number = last_of s lasts + 1 })) refl
  where
    at : (t : Bool) → same_id i (record { level = s; number = last_of s lasts + 1 }) ≡ t → same_id i (record { level = s; number = last_of s lasts + 1 }) ≡ false
    at true is =
        let next : Id = record { level = s; number = last_of s lasts + 1 } in
        let now : is_given lasts next ≡ true = subst (λ k. is_given lasts k ≡ true) (id_same i next is) given in
        absurd (grind (arith, nat_tests, now))
    at false is = is

module _ (x : Session) where
  -- its row stands
  abbrev pub IsThere : World → Type 0
  IsThere w = session_at w.sessions x.id ≡ Some x

  -- ---- a record that goes

  left_there : (i : Id) (w : World) → is_session_of i x ≡ false → IsThere w → IsThere (apply (DropClient i) w)
  left_there i w apart there = found_left (λ y. same_id x.id y.id) (λ y. not (is_session_of i y)) w.sessions x there (ap not apart)

  dropped_there : (o : Option Client) (rest : List Change) (w : World) → ((d : Client) → o ≡ Some d → is_session_of d.id x ≡ false) → ((v : World) → IsThere v → IsThere (apply_all rest v)) → IsThere w → IsThere (apply_all (dropped o ++ rest) w)
  dropped_there None rest w apart later there = later w there
  dropped_there (Some d) rest w apart later there = later (apply (DropClient d.id) w) (left_there d.id w (apart d refl) there)

  -- ---- an operation that stands alone

  module _ {dom : ℕ → ℕ → Bool} (p : Place) (w : World) (facts : Facts dom w) (there : IsThere w) (lone : p.session ≡ None) where
    -- its row stands, and the place is in no session
    abbrev Left : {A : Type 0} → Outcome A → Type 0
    Left o = IsThere (done_to w o) × (o.place.session ≡ None)

    -- a record that isn't confirmed has no sessions
    pending_apart : (owner : List ℕ) (d : Client) → find (is_pending p.subject owner) w.clients ≡ Some d → is_session_of d.id x ≡ false
    pending_apart owner d found =
        let pending = (all_find (λ c. Unit {0}) (is_pending p.subject owner) w.clients d (all_anyway _ (λ c. tt) w.clients) found).1 in
        let own = found_by_id (λ c. c.id) (is_pending p.subject owner) w.clients d facts.clients.rise found in
        let unconfirmed : d.confirmed ≡ false = grind (arith, pending) in
        let behind = (all_find (λ y. has_confirmed w.clients y.id.level y.client ≡ true) (λ y. same_id x.id y.id) w.sessions x facts.sessions.behind there).0 in
        other_client w.clients d own unconfirmed x.id.level x.client behind

    exchange_left : (args : Arguments) → Left (exchange_id args p w)
    exchange_left args = exchange_id_any Left args p w (λ gate status. (there, lone)) (λ t. (there, lone))
        (dropped_there (find (is_pending p.subject args.owner) w.clients) _ w (pending_apart args.owner) (λ v is. is) there, lone)

    create_left : (args : CreateSession) (arguments : List ℕ) → replaces_client_of w x (ops.CreateSession args) ≡ false → Left (create_session args arguments p w)
    create_left args arguments spared =
        demand_any Left ((client_named args.client).level == p.subject) _ _ (there, lone) (λ own.
        where_any Left (client_at w.clients (client_named args.client)) _ _ (λ c found.
        created_any Left args arguments p w c (λ gate status. (there, lone)) (λ k kept. (there, lone)) (λ large.
        (dropped_there (find (is_replaced c) w.clients) _ w (apart c found) (added c) there, refl))) (there, lone))
      where
        apart : (c : Client) → client_at w.clients (client_named args.client) ≡ Some c → (d : Client) → find (is_replaced c) w.clients ≡ Some d → is_session_of d.id x ≡ false
        apart c found d replaced = sym (ap (is_session_under x) replaced) ∙ sym (ap (λ o. is_session_under x (replaced_by w o)) found) ∙ spared

        added : (c : Client) (v : World) → IsThere v → IsThere (apply_all (SetClient (confirmed p c) ∷ AddSession (new_session (record { level = p.subject; number = last_of p.subject w.lasts.sessions + 1 }) c (granted_of args.fore)) ∷ []) v)
        added c v is =
            let next : Id = record { level = p.subject; number = last_of p.subject w.lasts.sessions + 1 } in
            let row : Session = new_session next c (granted_of args.fore) in
            let given = (all_find (λ y. is_given w.lasts.sessions y.id ≡ true) (λ y. same_id x.id y.id) w.sessions x facts.sessions.given there).0 in
            session_at-inserted row v.sessions x.id ∙ ap (λ t. cond t (Some row) (session_at v.sessions x.id)) (fresh x.id p.subject w.lasts.sessions given) ∙ is

    destroy_left : (session : List ℕ) → names_session x.id (ops.DestroySession session) ≡ false → Left (destroy_session session p w)
    destroy_left session spared =
        demand_any Left ((session_named session).level == p.subject) _ _ (there, lone) (λ own.
        where_any Left (session_under session w.sessions) _ _ (λ y found.
        let id : y.id ≡ session_named session = session_at-id (session_named session) w.sessions y (session_under-at session w.sessions y found) in
        let other : same_id (session_named session) x.id ≡ false = grind (arith, nat_tests, spared) in
        (found_left (λ z. same_id x.id z.id) (λ z. not (same_id y.id z.id)) w.sessions x there (ap (λ i. not (same_id i x.id)) id ∙ ap not other), refl)) (there, lone))

    leave_left : (client : ℕ) → Left (destroy_clientid client p w)
    leave_left client =
        demand_any Left ((client_named client).level == p.subject) _ _ (there, lone) (λ own.
        where_any Left (client_at w.clients (client_named client)) _ _ (λ c found.
        demand_any Left (not (is_busy c.id w)) _ _ (there, lone) (λ idle.
        let none : list_any (is_session_of c.id) w.sessions ≡ false = grind (arith, idle) in
        let apart = (all_find (λ y. is_session_of c.id y ≡ false) (λ y. same_id x.id y.id) w.sessions x (none_any (is_session_of c.id) w.sessions none) there).0 in
        (left_there c.id w apart there, refl))) (there, lone))

  -- ---- the keeping of a result where the place is in no session

  record_there : (kept : Kept) (o : Option Client) (w : World) → IsThere w → IsThere (apply_all (kept_of kept o) w)
  record_there kept None w there = there
  record_there kept (Some c) w there = there

  keep_there : (keeper : Keeper) (kept : Kept) (p : Place) (w : World) → IsThere w → p.session ≡ None → IsThere (done_to w (keep_in keeper kept p w))
  keep_there Nowhere kept p w there lone = there
  keep_there (Slot slot sequence) kept p w there lone = subst (λ o. IsThere (apply_all (kept_under p slot (record { sequence = sequence; kept = Some kept }) o w.sessions) w)) (sym lone) there
  keep_there (Record client) kept p w there lone = record_there kept (client_at w.clients (record { level = p.subject; number = client })) w there

-- ---- a COMPOUND

module _ (X : Extra) (owed : AreLawful X) (site : Site) (lattice : IsPreorderWithBottom site.dom) (sent : Sent) (c : Compound) (level : ℕ) (moment : Moment) (b : Both X.Row) (stands : BothStand X.Fact site.dom (begins_at level moment) b) (x : Session) (there : IsThere x b.world) where
  abbrev p : Place
  p = begins_at level moment

  abbrev Lone : Place → Both X.Row → Type 0
  Lone q v = IsThere x v.world × (q.session ≡ None)

  -- it stands behind the whole
  abbrev Stays : Type 0
  Stays = IsThere x (served X site sent c p b).state.world

  kept_there : (r : Ran (Both X.Row)) → Lone r.place r.state → IsThere x (kept_after sent c r).state.world
  kept_there r left = keep_there x r.keeper (record { arguments = sent.arguments; reply = result_of c r.results r.again }) r.place r.state.world left.0 left.1

  -- by its first operation, where that leaves the place in no session
  by_first : (op : Op) (rest : List Op) → c.minor ≡ 2 → c.ops ≡ op ∷ rest → Lone (operation X site sent c [] op p b).place (operation X site sent c [] op p b).state → Stays
  unfolding served run_behind
  by_first op rest minor is first =
      let t = operation X site sent c [] op p b in
      let r = run_behind (operation X site sent c) [] (op ∷ rest) p b in
      let after = (operation_lawful X owed site lattice sent c [] op).stands p b stands in
      let left : Lone r.place r.state = followed_any site.dom (both_seen X.level_of site.dom) (BothStand X.Fact site.dom) Lone [] op t.place t.state t.answer (λ results. run_behind (operation X site sent c) results rest t.place t.state) first
      (λ last. let later = behind_stays X owed site lattice sent c rest last [] t.place t.state after in (ap (λ xs. session_at xs x.id) later.0 ∙ first.0, later.1 ∙ first.1)) in
      subst (λ (r : Ran (Both X.Row)). IsThere x (kept_after sent c r).state.world) (sym (of_version X site sent c p b (op ∷ rest) minor is)) (kept_there r left)

  -- one that is admitted there
  if_admitted : (op : Op) → Lone (row_in X site sent op p b).place (row_in X site sent op p b).state → Lone (operation X site sent c [] op p b).place (operation X site sent c [] op p b).state
  if_admitted op left = admitted_any Lone op (admission X.grammar c [] op p b.world) p b (row_in X site sent op p b) (there, refl) left

  -- a SEQUENCE of another session
  on_other : (args : Sequence) (rest : List Op) → c.minor ≡ 2 → c.ops ≡ ops.Sequence args ∷ rest → names_session x.id (ops.Sequence args) ≡ false → Stays
  on_other args rest minor is spared = at (came_on_slot level b.world args sent) refl
    where
      at : (k : Came) → came_on_slot level b.world args sent ≡ k → Stays
      at came.New e =
          let left = slot_new X site sent c level moment b args rest minor is owed lattice stands e in
          let y = keeping left.session args.slot args.sequence (record { arguments = sent.arguments; reply = (served X site sent c p b).answer.result }) in
          let id : left.session.id ≡ session_named args.session = session_at-id (session_named args.session) b.world.sessions left.session (session_under-at args.session b.world.sessions left.session left.session_is) in
          ap (λ xs. session_at xs x.id) left.sessions ∙ session_at-inserted y b.world.sessions x.id ∙ ap (λ t. cond t (Some y) (session_at b.world.sessions x.id)) (ap (same_id x.id) id ∙ spared) ∙ there
      at (came.Again reply) e = ap (λ (t : Turn Answer (Both X.Row)). session_at t.state.world.sessions x.id) (slot_again X site sent c level moment b args rest minor is reply e) ∙ there
      at came.Refused e =
          let (gate, status, is_so) = slot_refused X site sent c level moment b args rest minor is e in
          ap (λ (t : Turn Answer (Both X.Row)). session_at t.state.world.sessions x.id) is_so ∙ there

  by_op : (op : Op) (rest : List Op) → c.minor ≡ 2 → c.ops ≡ op ∷ rest → names_session x.id op ≡ false → replaces_client_of b.world x op ≡ false → Stays
  by_op (ops.ExchangeId verifier owner flags implementation) rest minor is named replaced = by_first (ops.ExchangeId verifier owner flags implementation) rest minor is
      (if_admitted (ops.ExchangeId verifier owner flags implementation) (exchange_left x p b.world stands.world.facts there refl (record { verifier = verifier; owner = owner; flags = flags })))
  by_op (ops.CreateSession args) rest minor is named replaced = by_first (ops.CreateSession args) rest minor is (if_admitted (ops.CreateSession args) (create_left x p b.world stands.world.facts there refl args sent.arguments replaced))
  by_op (ops.DestroySession session) rest minor is named replaced = by_first (ops.DestroySession session) rest minor is (if_admitted (ops.DestroySession session) (destroy_left x p b.world stands.world.facts there refl session named))
  by_op (ops.Sequence args) rest minor is named replaced = on_other args rest minor is named
  by_op (ops.DestroyClientId client) rest minor is named replaced = by_first (ops.DestroyClientId client) rest minor is (if_admitted (ops.DestroyClientId client) (leave_left x p b.world stands.world.facts there refl client))
  by_op (ops.ReclaimComplete one_fs) rest minor is named replaced = by_first (ops.ReclaimComplete one_fs) rest minor is (there, refl)
  by_op (ops.PutFh handle) rest minor is named replaced = by_first (ops.PutFh handle) rest minor is (there, refl)
  by_op ops.PutRootFh rest minor is named replaced = by_first ops.PutRootFh rest minor is (there, refl)
  by_op ops.GetFh rest minor is named replaced = by_first ops.GetFh rest minor is (there, refl)
  by_op ops.SaveFh rest minor is named replaced = by_first ops.SaveFh rest minor is (there, refl)
  by_op ops.RestoreFh rest minor is named replaced = by_first ops.RestoreFh rest minor is (there, refl)
  by_op (ops.Lookup name) rest minor is named replaced = by_first (ops.Lookup name) rest minor is (there, refl)
  by_op ops.LookupP rest minor is named replaced = by_first ops.LookupP rest minor is (there, refl)
  by_op (ops.GetAttr asked) rest minor is named replaced = by_first (ops.GetAttr asked) rest minor is (there, refl)
  by_op (ops.Verify given) rest minor is named replaced = by_first (ops.Verify given) rest minor is (there, refl)
  by_op (ops.NVerify given) rest minor is named replaced = by_first (ops.NVerify given) rest minor is (there, refl)
  by_op (ops.Access bits) rest minor is named replaced = by_first (ops.Access bits) rest minor is (there, refl)
  by_op (ops.ReadDir cookie verifier dircount maxcount asked) rest minor is named replaced = by_first (ops.ReadDir cookie verifier dircount maxcount asked) rest minor is (there, refl)
  by_op ops.ReadLink rest minor is named replaced = by_first ops.ReadLink rest minor is (there, refl)
  by_op (ops.Create what name given) rest minor is named replaced = by_first (ops.Create what name given) rest minor is (there, refl)
  by_op (ops.Link name) rest minor is named replaced = by_first (ops.Link name) rest minor is (there, refl)
  by_op (ops.Remove name) rest minor is named replaced = by_first (ops.Remove name) rest minor is (there, refl)
  by_op (ops.Rename old new) rest minor is named replaced = by_first (ops.Rename old new) rest minor is (there, refl)
  by_op (ops.SetAttr id given) rest minor is named replaced = by_first (ops.SetAttr id given) rest minor is (there, refl)
  by_op (ops.Open seqid access deny client owner making claim) rest minor is named replaced = by_first (ops.Open seqid access deny client owner making claim) rest minor is (there, refl)
  by_op (ops.Close seqid id) rest minor is named replaced = by_first (ops.Close seqid id) rest minor is (there, refl)
  by_op (ops.Read id offset count) rest minor is named replaced = by_first (ops.Read id offset count) rest minor is (there, refl)
  by_op (ops.Write id offset stable content) rest minor is named replaced = by_first (ops.Write id offset stable content) rest minor is (there, refl)
  by_op (ops.Commit offset count) rest minor is named replaced = by_first (ops.Commit offset count) rest minor is (there, refl)
  by_op (ops.Extra number arguments) rest minor is named replaced = by_first (ops.Extra number arguments) rest minor is (there, refl)
  by_op (ops.Outside number status) rest minor is named replaced = by_first (ops.Outside number status) rest minor is (if_admitted (ops.Outside number status) (there, refl))

  by_ops : (os : List Op) → c.minor ≡ 2 → c.ops ≡ os → list_any (names_session x.id) os ≡ false → list_any (replaces_client_of b.world x) os ≡ false → Stays
  unfolding served run_behind
  by_ops [] minor is named replaced = subst (λ (r : Ran (Both X.Row)). IsThere x (kept_after sent c r).state.world) (sym (of_version X site sent c p b [] minor is)) there
  by_ops (op ∷ rest) minor is named replaced = by_op op rest minor is (none_any (names_session x.id) (op ∷ rest) named).0 (none_any (replaces_client_of b.world x) (op ∷ rest) replaced).0

  pub other_stays : list_any (names_session x.id) c.ops ≡ false → list_any (replaces_client_of b.world x) c.ops ≡ false → Stays
  unfolding served run_all
  other_stays named replaced = at (c.minor == 2) refl
    where
      at : (t : Bool) → (c.minor == 2) ≡ t → Stays
      at true is = by_ops c.ops (grind (arith, nat_tests, is)) refl named replaced
      at false is = subst (λ (r : Ran (Both X.Row)). IsThere x (kept_after sent c r).state.world) (sym (chosen_false (c.minor == 2) _ _ is)) there
