-- What a CREATE_SESSION under the next sequence of its record leaves of a world.
use Rattle.std.proofs.Common.{◌≡◌, ◌≤◌, ℕ, ◌+◌, Bool, true, false, cond, ◌&&◌, List, [], ◌∷◌, ◌++◌, Option, Some, None, refl, sym, ◌∙◌, ap, subst, arith}
use Rattle.std.specs.Prelude.{◌==◌, nat_lt}
use Rattle.std.specs.List.{find}
use Rattle.std.proofs.lemmas.Bool.Decides.{nat_tests}
use Rattle.lnfs_types.specs.declared.event.Moment.{Moment}
use Rattle.lnfs_arguments.specs.declared.types.Op.TheVariants as ops
use Rattle.lnfs_arguments.specs.declared.types.Compound.{Compound as Asking}
use Rattle.lnfs_arguments.specs.declared.types.CreateSession.{CreateSession}
use Rattle.lnfs_arguments.specs.Identifiers.{session_id}
use Rattle.lnfs_results.specs.declared.types.OpResult.TheVariants as results
use Rattle.lnfs_arguments.specs.declared.statuses.TheConstants.{NFS4ERR_TOOSMALL, NFS4ERR_NOSPC}
use Rattle.lnfs_world.specs.Rows.{inserted}
use Rattle.lnfs_world.specs.World.{Id, Kept as Stored, Client as ClientRow, Session as SessionRow, World, client_order, level_order, same_id, client_at, session_at, last_of}
use Rattle.lnfs_world.specs.Change.{Change, SetClient, AddSession, apply, apply_all}
use Rattle.lnfs_world.specs.Outcome.{Site, Place, Outcome, begins_at}
use Rattle.lnfs_world.specs.Lawful.{Turn}
use Rattle.lnfs_world.specs.Both.{Both}
use Rattle.lnfs_world.specs.declared.numbers.TheConstants.{LAST_NUMBER}
use Rattle.lnfs_world.proofs.Keys.{id_itself, last_of-inserted}
use Rattle.lnfs_world.proofs.KeptClients.{client_at-inserted}
use Rattle.lnfs_operations.specs.declared.Gate.TheVariants as gates
use Rattle.lnfs_operations.specs.declared.numbers.TheConstants.{SESSIONS_OF_A_LEVEL}
use Rattle.lnfs_operations.specs.Chain.{Answer as Answered, refuse, done}
use Rattle.lnfs_operations.specs.ExchangeId.{dropped}
use Rattle.lnfs_operations.specs.Identifiers.{client_named}
use Rattle.lnfs_operations.specs.InOrder.{sequence_before}
use Rattle.lnfs_operations.specs.Keeping.{next_sequence, kept_of}
use Rattle.lnfs_operations.specs.CreateSession.{Created, Again, granted_of, new_session, is_large_enough, is_replaced, confirmed as now_confirmed, sessions_of, made, create_session, is_next_of}
use Rattle.lnfs_operations.specs.Sequence.{Sent}
use Rattle.lnfs_operations.specs.Extra.{Extra}
use Rattle.lnfs_operations.specs.Results.{failed}
use Rattle.lnfs_operations.specs.Served.{Record, Nowhere, sizes_of, created_keeper, operation}
use Rattle.lnfs_operations.specs.SlotRule.{Answer, Ran, new_result, run_all, kept_after, served}
use Rattle.lnfs_operations.proofs.Chains.{demand_any}
use Rattle.lnfs_operations.proofs.KeepingLaws.{session_at-inserted}
use Rattle.lnfs_operations.proofs.SessionLaws.{client_level}
use Rattle.lnfs_operations.proofs.Retries.{chosen_true, in_order_new}
use Rattle.lnfs_slots.specs.OneClient.{is_keeping}
use Rattle.lnfs_slots.proofs.Creates.{ran_from, ran_is, served_as, of_record}

before_apart : (n : ℕ) → (n == sequence_before n) ≡ false
before_apart n = grind (arith, nat_tests)

module _ (X : Extra) (site : Site) (sent : Sent) (c : Asking) (args : CreateSession) (level : ℕ) (moment : Moment) (b : Both X.Row) (minor : c.minor ≡ 2) (count : c.count ≡ 1) (only : c.ops ≡ ops.CreateSession args ∷ []) (own : (client_named args.client).level ≡ level) (client : ClientRow) (found : client_at b.world.clients (client_named args.client) ≡ Some client) (next : args.sequence ≡ client.sequence) where
  abbrev i : Id
  i = client_named args.client

  abbrev p : Place
  p = begins_at level moment

  abbrev w : World
  w = b.world

  abbrev now : Turn Answer (Both X.Row)
  now = served X site sent c p b

  -- the record, with what it got
  abbrev pub keeping : ClientRow → (reply : List ℕ) → ClientRow
  keeping row reply = record row { sequence = next_sequence row.sequence; kept = Some (record { arguments = sent.arguments; reply = reply }) }

  -- the session that it makes, under the level's next number
  abbrev pub opened_session : SessionRow
  opened_session = new_session (record { level = level; number = last_of level w.lasts.sessions + 1 }) client (granted_of args.fore)

  abbrev session : Change
  session = AddSession opened_session

  -- its result, where it is refused and where it makes a session
  abbrev pub refused_with : (status : ℕ) → List ℕ
  refused_with status = new_result c (failed (ops.CreateSession args) status ∷ [])

  abbrev pub opened_with : List ℕ
  opened_with = new_result c (results.CreateSession (session_id level (last_of level w.lasts.sessions + 1)) args.sequence 0 (sizes_of (granted_of args.fore)) (record args.back { ird = None }) ∷ [])

  -- refused, or a session under the level's next number; in both cases its record keeps the answer
  pub data IsCreated (t : Turn Answer (Both X.Row)) : Type 0 where
    turned_down : (status : ℕ) → 1 ≤ status → t.answer.result ≡ refused_with status → t.state.world ≡ apply (SetClient (keeping client t.answer.result)) w → IsCreated t
    opened : is_large_enough args.fore ≡ true → nat_lt (last_of level w.lasts.sessions) LAST_NUMBER ≡ true → t.answer.result ≡ opened_with → t.state.world ≡ apply_all (dropped (find (is_replaced client) w.clients) ++ SetClient (now_confirmed p client) ∷ session ∷ SetClient (keeping (now_confirmed p client) t.answer.result) ∷ []) w → IsCreated t

  is_new : create_session args sent.arguments p w ≡ made args p w client
  is_new =
      of_record X site sent c args level moment b minor count only own (Some client) found
      ∙ in_order_new p (sequence_before client.sequence) client.sequence client.kept args.sequence sent.arguments (λ reply. done p (Again reply) []) (made args p w client)
      (ap (λ n. n == sequence_before client.sequence) next ∙ before_apart client.sequence) (grind (arith, nat_tests, next))

  kept_there : created_keeper args p w ≡ Record i.number
  kept_there =
      let of : is_next_of args.sequence (client_at w.clients i) ≡ true = ap (is_next_of args.sequence) found ∙ grind (arith, nat_tests, next) in
      let level_is : (i.level == level) ≡ true = grind (arith, nat_tests, own) in
      chosen_true ((i.level == level) && is_next_of args.sequence (client_at w.clients i)) (Record i.number) Nowhere (grind (arith, of, level_is))

  -- it acts
  pub acts : is_keeping (run_all (operation X site sent c) c p b).keeper ≡ true
  acts = ap (λ (r : Ran (Both X.Row)). is_keeping r.keeper) (ran_is X site sent c args level moment b minor count only own (Record i.number) (made args p w client) kept_there is_new) ∙ at
    where
      Keeps : Outcome (Answered Created) → Type 0
      Keeps o = is_keeping (ran_from X site sent c args level moment b minor count only own (Record i.number) o).keeper ≡ true

      at : Keeps (made args p w client)
      at = demand_any Keeps (is_large_enough args.fore) _ _ refl (λ large. demand_any Keeps (nat_lt (sessions_of level w.sessions) SESSIONS_OF_A_LEVEL) _ _ refl (λ few. demand_any Keeps (nat_lt (last_of level w.lasts.sessions) LAST_NUMBER) _ _ refl (λ left. refl)))

  named : record { level = level; number = i.number } ≡ i
  named = λ k. record { level = sym own k; number = i.number }

  id_is : client.id ≡ i
  id_is = client_level i w.clients client found

  row_set : (row : ClientRow) (rows : List ClientRow) → row.id ≡ i → client_at (inserted client_order row rows) i ≡ Some row
  row_set row rows is = client_at-inserted row rows i ∙ ap (λ b. cond b (Some row) (client_at rows i)) (ap (same_id i) is ∙ id_itself i)

  -- the record that is there keeps
  kept_world : (v : World) (row : ClientRow) (kept : Stored) → client_at v.clients i ≡ Some row → apply_all (kept_of kept (client_at v.clients (record { level = level; number = i.number }))) v ≡ apply (SetClient (record row { sequence = next_sequence row.sequence; kept = Some kept })) v
  kept_world v row kept there = ap (λ o. apply_all (kept_of kept o) v) (ap (client_at v.clients) named ∙ there)

  abbrev Creates : Outcome (Answered Created) → Type 0
  Creates o = IsCreated (kept_after sent c (ran_from X site sent c args level moment b minor count only own (Record i.number) o))

  refused_creates : (status : ℕ) → 1 ≤ status → Creates (refuse p gates.Session status)
  refused_creates status some = turned_down status some refl (kept_world w client _ found)

  confirmed : (o : Option ClientRow) → client_at (apply_all (dropped o ++ SetClient (now_confirmed p client) ∷ session ∷ []) w).clients i ≡ Some (now_confirmed p client)
  confirmed None = row_set (now_confirmed p client) w.clients id_is
  confirmed (Some d) = row_set (now_confirmed p client) _ id_is

  one_more : (o : Option ClientRow) (last : Change) → apply last (apply_all (dropped o ++ SetClient (now_confirmed p client) ∷ session ∷ []) w) ≡ apply_all (dropped o ++ SetClient (now_confirmed p client) ∷ session ∷ last ∷ []) w
  one_more None last = refl
  one_more (Some d) last = refl

  made_creates : Creates (made args p w client)
  made_creates =
      demand_any Creates (is_large_enough args.fore) _ _ (refused_creates NFS4ERR_TOOSMALL (omega arith)) (λ large.
      demand_any Creates (nat_lt (sessions_of level w.sessions) SESSIONS_OF_A_LEVEL) _ _ (refused_creates NFS4ERR_NOSPC (omega arith)) (λ few.
      demand_any Creates (nat_lt (last_of level w.lasts.sessions) LAST_NUMBER) _ _ (refused_creates NFS4ERR_NOSPC (omega arith)) (λ left.
      opened large left refl (kept_world (apply_all (dropped (find (is_replaced client) w.clients) ++ SetClient (now_confirmed p client) ∷ session ∷ []) w) (now_confirmed p client) _ (confirmed (find (is_replaced client) w.clients)) ∙ one_more (find (is_replaced client) w.clients) _))))

  pub create_leaves : IsCreated now
  create_leaves = subst IsCreated (sym (served_as X site sent c args level moment b minor count only own (Record i.number) (made args p w client) kept_there is_new)) made_creates

  -- ---- what is there afterwards, where the owner has no other record

  -- no session more, or one
  pub data SessionCame (t : Turn Answer (Both X.Row)) : Type 0 where
    none : (status : ℕ) → 1 ≤ status → t.answer.result ≡ refused_with status → t.state.world.sessions ≡ w.sessions → t.state.world.lasts.sessions ≡ w.lasts.sessions → SessionCame t
    one : is_large_enough args.fore ≡ true → nat_lt (last_of level w.lasts.sessions) LAST_NUMBER ≡ true → t.answer.result ≡ opened_with →
        ((j : Id) → session_at t.state.world.sessions j ≡ cond (same_id j opened_session.id) (Some opened_session) (session_at w.sessions j)) →
        last_of level t.state.world.lasts.sessions ≡ last_of level w.lasts.sessions + 1 → SessionCame t

  pub record Left (t : Turn Answer (Both X.Row)) : Type 0 where
    pub row : ClientRow
    pub owner : row.owner ≡ client.owner
    pub verifier : row.verifier ≡ client.verifier
    pub sequence : row.sequence ≡ next_sequence client.sequence
    pub kept : row.kept ≡ Some (record { arguments = sent.arguments; reply = t.answer.result })
    pub clients : (j : Id) → client_at t.state.world.clients j ≡ cond (same_id j client.id) (Some row) (client_at w.clients j)
    pub contexts : t.state.world.contexts ≡ w.contexts
    pub last_clients : t.state.world.lasts.clients ≡ w.lasts.clients
    pub last_contexts : t.state.world.lasts.contexts ≡ w.lasts.contexts
    pub came : SessionCame t

  module _ (alone : find (is_replaced client) w.clients ≡ None) where
    -- the row is set twice
    twice : (t : Bool) (row other : ClientRow) (o : Option ClientRow) → cond t (Some row) (cond t (Some other) o) ≡ cond t (Some row) o
    twice true row other o = refl
    twice false row other o = refl

    set_twice : (row other : ClientRow) (j : Id) → row.id ≡ client.id → other.id ≡ client.id → client_at (inserted client_order row (inserted client_order other w.clients)) j ≡ cond (same_id j client.id) (Some row) (client_at w.clients j)
    set_twice row other j is is_other =
        client_at-inserted row (inserted client_order other w.clients) j
        ∙ ap (λ k. cond (same_id j k) (Some row) (client_at (inserted client_order other w.clients) j)) is
        ∙ ap (λ o. cond (same_id j client.id) (Some row) o) (client_at-inserted other w.clients j ∙ ap (λ k. cond (same_id j k) (Some other) (client_at w.clients j)) is_other)
        ∙ twice (same_id j client.id) row other (client_at w.clients j)

    last_now : last_of level (inserted level_order opened_session.id w.lasts.sessions) ≡ last_of level w.lasts.sessions + 1
    last_now = last_of-inserted opened_session.id w.lasts.sessions level ∙ chosen_true (level == level) (last_of level w.lasts.sessions + 1) (last_of level w.lasts.sessions) (grind (arith, nat_tests))

    left_by : (t : Turn Answer (Both X.Row)) → IsCreated t → Left t
    left_by t (turned_down status some result e) = record {
      row = keeping client t.answer.result;
      owner = refl;
      verifier = refl;
      sequence = refl;
      kept = refl;
      clients = λ j. ap (λ (v : World). client_at v.clients j) e ∙ client_at-inserted (keeping client t.answer.result) w.clients j;
      contexts = ap (λ (v : World). v.contexts) e;
      last_clients = ap (λ (v : World). v.lasts.clients) e;
      last_contexts = ap (λ (v : World). v.lasts.contexts) e;
      came = none status some result (ap (λ (v : World). v.sessions) e) (ap (λ (v : World). v.lasts.sessions) e);
    }
    left_by t (opened large left result e) =
        let row : ClientRow = keeping (now_confirmed p client) t.answer.result in
        let is : t.state.world ≡ apply_all (SetClient (now_confirmed p client) ∷ session ∷ SetClient row ∷ []) w = e ∙ ap (λ o. apply_all (dropped o ++ SetClient (now_confirmed p client) ∷ session ∷ SetClient row ∷ []) w) alone in
        record {
          row = row;
          owner = refl;
          verifier = refl;
          sequence = refl;
          kept = refl;
          clients = λ j. ap (λ (v : World). client_at v.clients j) is ∙ set_twice row (now_confirmed p client) j refl refl;
          contexts = ap (λ (v : World). v.contexts) is;
          last_clients = ap (λ (v : World). v.lasts.clients) is;
          last_contexts = ap (λ (v : World). v.lasts.contexts) is;
          came = one large left result (λ j. ap (λ (v : World). session_at v.sessions j) is ∙ session_at-inserted opened_session w.sessions j) (ap (λ (v : World). last_of level v.lasts.sessions) is ∙ last_now);
        }

    pub create_left : Left now
    create_left = left_by now create_leaves
