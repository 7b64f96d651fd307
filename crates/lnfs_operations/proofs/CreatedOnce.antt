-- A CREATE_SESSION under the next sequence of its client's record acts once.
use Rattle.std.proofs.Common.{◌≡◌, ℕ, ◌+◌, Bool, true, false, cond, ◌&&◌, List, [], ◌∷◌, ◌++◌, Option, Some, None, refl, sym, ap, ◌∙◌, subst, arith}
use Rattle.std.specs.Prelude.{◌==◌, nat_lt}
use Rattle.std.specs.List.{find}
use Rattle.std.proofs.lemmas.Bool.Decides.{nat_tests}
use Rattle.lnfs_types.specs.declared.event.Moment.{Moment}
use Rattle.lnfs_arguments.specs.declared.types.Op.TheVariants as ops
use Rattle.lnfs_arguments.specs.declared.types.Compound.{Compound}
use Rattle.lnfs_arguments.specs.declared.types.CreateSession.{CreateSession}
use Rattle.lnfs_arguments.specs.declared.statuses.TheConstants.{NFS4ERR_NOT_ONLY_OP, NFS4ERR_STALE_CLIENTID, NFS4ERR_TOOSMALL, NFS4ERR_NOSPC}
use Rattle.lnfs_monitor.specs.declared.rule.Rule.TheVariants.{M9}
use Rattle.lnfs_world.specs.Rows.{inserted}
use Rattle.lnfs_world.specs.World.{Id, Kept as Stored, Client, World, client_order, same_id, client_at, last_of}
use Rattle.lnfs_world.specs.Change.{SetClient, AddSession, apply_all}
use Rattle.lnfs_world.specs.Outcome.{Site, Place, Outcome, begins_at}
use Rattle.lnfs_world.specs.Lawful.{Turn, deed_of}
use Rattle.lnfs_world.specs.Both.{Both, both, on_world}
use Rattle.lnfs_world.specs.declared.numbers.TheConstants.{LAST_NUMBER}
use Rattle.lnfs_world.proofs.Keys.{id_itself}
use Rattle.lnfs_world.proofs.KeptClients.{client_at-inserted}
use Rattle.lnfs_operations.specs.declared.Gate.TheVariants as gates
use Rattle.lnfs_operations.specs.declared.numbers.TheConstants.{SESSIONS_OF_A_LEVEL}
use Rattle.lnfs_operations.specs.Chain.{Answer as Answered, refuse, done, where_there}
use Rattle.lnfs_operations.specs.ExchangeId.{dropped}
use Rattle.lnfs_operations.specs.Identifiers.{client_named}
use Rattle.lnfs_operations.specs.InOrder.{sequence_before}
use Rattle.lnfs_operations.specs.Keeping.{next_sequence, kept_of}
use Rattle.lnfs_operations.specs.CreateSession.{Created, Again, granted_of, new_session, is_large_enough, is_replaced, confirmed as now_confirmed, sessions_of, made, created, create_session, is_next_of}
use Rattle.lnfs_operations.specs.Sequence.{Sent}
use Rattle.lnfs_operations.specs.Extra.{Extra}
use Rattle.lnfs_operations.specs.Admission.{or_else, unless}
use Rattle.lnfs_operations.specs.Served.{Keeper, Nowhere, Record, reply_of, under, created_keeper, created_reply, row, admitted, operation}
use Rattle.lnfs_operations.specs.SlotRule.{Answer, Ran, followed, run_behind, run_all, kept_after, served}
use Rattle.lnfs_operations.proofs.Chains.{demand_any}
use Rattle.lnfs_operations.proofs.SessionLaws.{client_level}
use Rattle.lnfs_operations.proofs.Retries.{chosen_true, in_order_new, created_again}

-- ---- sequences

before_next : (n : ℕ) → sequence_before (next_sequence n) ≡ n
before_next n = grind (arith, nat_tests)

before_apart : (n : ℕ) → (n == sequence_before n) ≡ false
before_apart n = grind (arith, nat_tests)

module _ (X : Extra) (site : Site) (sent : Sent) (c : Compound) (args : CreateSession) (level : ℕ) (moment : Moment) (b : Both X.Row) (client : Client) (own : (client_named args.client).level ≡ level) (found : client_at b.world.clients (client_named args.client) ≡ Some client) (next : args.sequence ≡ client.sequence) where
  abbrev i : Id
  i = client_named args.client

  abbrev p : Place
  p = begins_at level moment

  -- what a COMPOUND comes to whose CREATE_SESSION comes to this
  abbrev ran_from : Keeper → Outcome (Answered Created) → Ran (Both X.Row)
  ran_from keeper o =
      followed [] (ops.CreateSession args) o.place (both (apply_all o.changes b.world) b.own) (under keeper (reply_of (ops.CreateSession args) (created_reply level args) o.answer))
      (λ results. record { place = o.place; state = both (apply_all o.changes b.world) b.own; results = results; denial = None; again = None; keeper = Nowhere })

  is_new : create_session args sent.arguments p b.world ≡ made args p b.world client
  is_new =
      chosen_true (i.level == level) _ (refuse p (gates.Monitor M9) NFS4ERR_STALE_CLIENTID) (grind (arith, nat_tests, own))
      ∙ ap (λ o. where_there o (created args sent.arguments p b.world) (refuse p gates.Session NFS4ERR_STALE_CLIENTID)) found
      ∙ in_order_new p (sequence_before client.sequence) client.sequence client.kept args.sequence sent.arguments (λ reply. done p (Again reply) []) (made args p b.world client)
      (ap (λ n. n == sequence_before client.sequence) next ∙ before_apart client.sequence) (grind (arith, nat_tests, next))

  kept_there : created_keeper args p b.world ≡ Record i.number
  kept_there =
      let of : is_next_of args.sequence (client_at b.world.clients i) ≡ true = ap (is_next_of args.sequence) found ∙ grind (arith, nat_tests, next) in
      let level_is : (i.level == level) ≡ true = grind (arith, nat_tests, own) in
      chosen_true ((i.level == level) && is_next_of args.sequence (client_at b.world.clients i)) (Record i.number) Nowhere (grind (arith, of, level_is))

  ran_is : c.minor ≡ 2 → c.count ≡ 1 → c.ops ≡ ops.CreateSession args ∷ [] → run_all (operation X site sent c) c p b ≡ ran_from (Record i.number) (made args p b.world client)
  unfolding run_all run_behind
  ran_is minor count is =
      let t = on_world (deed_of (row site sent (ops.CreateSession args))) p b in
      chosen_true (c.minor == 2) _ _ (ap (λ n. n == 2) minor)
      ∙ ap (λ os. run_behind (operation X site sent c) [] os p b) is
      ∙ ap (λ (alone : Bool). let u = admitted (ops.CreateSession args) p b (or_else (unless alone gates.Session NFS4ERR_NOT_ONLY_OP) None) t in
      followed [] (ops.CreateSession args) u.place u.state u.answer (λ results. run_behind (operation X site sent c) results [] u.place u.state)) (ap (λ n. n == 1) count)
      ∙ (λ k. ran_from (kept_there k) (is_new k))

  -- what is kept in the record of the client, where it stands after the operation
  id_is : client.id ≡ i
  id_is = client_level i b.world.clients client found

  named : record { level = level; number = i.number } ≡ i
  named = λ k. record { level = sym own k; number = i.number }

  row_set : (row : Client) (rows : List Client) → row.id ≡ i → client_at (inserted client_order row rows) i ≡ Some row
  row_set row rows is = client_at-inserted row rows i ∙ ap (λ b. cond b (Some row) (client_at rows i)) (ap (same_id i) is ∙ id_itself i)

  kept_row : (w : World) (row : Client) (kept : Stored) → row.id ≡ i → client_at w.clients i ≡ Some row →
      client_at (apply_all (kept_of kept (client_at w.clients (record { level = level; number = i.number }))) w).clients i ≡ Some (record row { sequence = next_sequence row.sequence; kept = Some kept })
  kept_row w row kept is there =
      ap (λ o. client_at (apply_all (kept_of kept o) w).clients i) (ap (client_at w.clients) named ∙ there)
      ∙ row_set (record row { sequence = next_sequence row.sequence; kept = Some kept }) w.clients is

  -- the record keeps what the COMPOUND got
  pub record IsKept (t : Turn Answer (Both X.Row)) : Type 0 where
    pub row : Client
    pub sequence : row.sequence ≡ client.sequence
    pub there : client_at t.state.world.clients i ≡ Some (record row { sequence = next_sequence row.sequence; kept = Some (record { arguments = sent.arguments; reply = t.answer.result }) })

  abbrev Keeps : Outcome (Answered Created) → Type 0
  Keeps o = IsKept (kept_after sent c (ran_from (Record i.number) o))

  refused_keeps : (status : ℕ) → Keeps (refuse p gates.Session status)
  refused_keeps status = record { row = client; sequence = refl; there = kept_row b.world client _ id_is found }

  confirmed : (o : Option Client) (session : _) → client_at (apply_all (dropped o ++ SetClient (now_confirmed p client) ∷ AddSession session ∷ []) b.world).clients i ≡ Some (now_confirmed p client)
  confirmed None session = row_set (now_confirmed p client) b.world.clients id_is
  confirmed (Some d) session = row_set (now_confirmed p client) _ id_is

  made_keeps : Keeps (made args p b.world client)
  made_keeps =
      demand_any Keeps (is_large_enough args.fore) _ _ (refused_keeps NFS4ERR_TOOSMALL) (λ large.
      demand_any Keeps (nat_lt (sessions_of level b.world.sessions) SESSIONS_OF_A_LEVEL) _ _ (refused_keeps NFS4ERR_NOSPC) (λ few.
      demand_any Keeps (nat_lt (last_of level b.world.lasts.sessions) LAST_NUMBER) _ _ (refused_keeps NFS4ERR_NOSPC) (λ left.
      record {
        row = now_confirmed p client;
        sequence = refl;
        there = kept_row (apply_all (dropped (find (is_replaced client) b.world.clients) ++ SetClient (now_confirmed p client) ∷ AddSession (new_session (record { level = level; number = last_of level b.world.lasts.sessions + 1 }) client (granted_of args.fore)) ∷ []) b.world) (now_confirmed p client) _ id_is (confirmed (find (is_replaced client) b.world.clients) _);
      })))

  pub created_kept : c.minor ≡ 2 → c.count ≡ 1 → c.ops ≡ ops.CreateSession args ∷ [] → IsKept (served X site sent c p b)
  unfolding served
  created_kept minor count is = subst (λ r. IsKept (kept_after sent c r)) (sym (ran_is minor count is)) made_keeps

  pub created_once : (later : Moment) (again : Sent) → c.minor ≡ 2 → c.count ≡ 1 → c.ops ≡ ops.CreateSession args ∷ [] → again.arguments ≡ sent.arguments →
      let first = served X site sent c p b in
      served X site again c (begins_at level later) first.state ≡ record { answer = record { result = first.answer.result; denial = None }; place = begins_at level later; state = first.state }
  created_once later again minor count is same =
      let first = served X site sent c p b in
      let kept = created_kept minor count is in
      created_again X site again c level later first.state args [] (record kept.row { sequence = next_sequence kept.row.sequence; kept = Some (record { arguments = sent.arguments; reply = first.answer.result }) }) first.answer.result minor count is own kept.there
      (next ∙ sym kept.sequence ∙ sym (before_next kept.row.sequence)) (λ k. Some (record { arguments = sym same k; reply = first.answer.result }))
