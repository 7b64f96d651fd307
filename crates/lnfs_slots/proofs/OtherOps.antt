-- What the operations that make and end clients and sessions leave of an owner's rows, where they name nothing of the owner's.
use Rattle.std.proofs.Common.{◌≡◌, ℕ, ◌+◌, ◌≤◌, Bool, true, false, cond, not, ◌&&◌, List, [], ◌∷◌, ◌++◌, Option, Some, None, refl, sym, ◌∙◌, ap, arith}
use Rattle.std.specs.Prelude.{◌==◌, nat_lt}
use Rattle.std.specs.List.{find}
use Rattle.std.specs.Str.{bytes_eq}
use Rattle.std.proofs.lemmas.Bool.{and_parts}
use Rattle.std.proofs.lemmas.Bool.Decides.{nat_tests}
use Rattle.lnfs_types.specs.declared.event.Moment.{Moment}
use Rattle.lnfs_arguments.specs.declared.types.CreateSession.{CreateSession}
use Rattle.lnfs_world.specs.Facts.{Facts}
use Rattle.lnfs_world.specs.World.{Id, Kept, Client as ClientRow, Session as SessionRow, World, same_id, client_at, session_at, last_of, is_given}
use Rattle.lnfs_world.specs.Change.{SetClient, DropClient, AddSession, AddClient, apply, apply_all}
use Rattle.lnfs_world.specs.Outcome.{Place, Outcome, begins_at, done_to}
use Rattle.lnfs_world.proofs.Keys.{bytes_same}
use Rattle.lnfs_world.proofs.KeptClients.{client_absent, client_at-dropped}
use Rattle.lnfs_world.proofs.Rows.{all_anyway, all_find}
use Rattle.lnfs_world.proofs.Views.{found_by_id}
use Rattle.lnfs_world.specs.declared.numbers.TheConstants.{LAST_NUMBER}
use Rattle.lnfs_operations.specs.Chain.{Answer}
use Rattle.lnfs_operations.specs.CreateSession.{Created, granted_of, new_session, is_replaced, confirmed, create_session}
use Rattle.lnfs_operations.specs.DestroyClientId.{is_busy, destroy_clientid}
use Rattle.lnfs_operations.specs.DestroySession.{destroy_session}
use Rattle.lnfs_operations.specs.ExchangeId.{Arguments, is_pending, dropped, new_client, exchange_id}
use Rattle.lnfs_operations.specs.Identifiers.{client_named, session_named, session_under}
use Rattle.lnfs_operations.specs.Keeping.{next_sequence, kept_of}
use Rattle.lnfs_operations.proofs.Chains.{demand_any, where_any}
use Rattle.lnfs_operations.proofs.CreateSessionLaws.{created_any}
use Rattle.lnfs_operations.proofs.ExchangeIdLaws.{exchange_id_ends}
use Rattle.lnfs_operations.proofs.SessionLaws.{client_level, session_at-id, session_under-at}
use Rattle.lnfs_slots.specs.OneClient.{at_level, is_owner, is_session}
use Rattle.lnfs_slots.proofs.Apart.{own_session, IsApart, IsStrange, apart_itself, apart_through, strange_still, set_client_apart, add_client_apart, drop_client_apart, add_session_apart, drop_session_apart}

module _ (owner : List ℕ) (level : ℕ) where
  abbrev Apart : World → World → Type 0
  Apart w u = IsApart owner level w u

  abbrev next_of : (subject : ℕ) → List Id → Id
  next_of subject lasts = record { level = subject; number = last_of subject lasts + 1 }

  pub exchange_apart : {dom : ℕ → ℕ → Bool} (args : Arguments) (p : Place) (w : World) → Facts dom w → (p.subject ≡ level → bytes_eq args.owner owner ≡ false) → Apart w (done_to w (exchange_id args p w))
  exchange_apart args p w facts other = exchange_id_ends (λ o. Apart w (done_to w o)) args p w (λ gate status. apart_itself owner level w) (λ t. apart_itself owner level w) (λ few room. by room (find (is_pending p.subject args.owner) w.clients) refl)
    where
      absent : client_at w.clients (next_of p.subject w.lasts.clients) ≡ None
      absent = client_absent p.subject w.clients w.lasts.clients facts.clients (next_of p.subject w.lasts.clients) (record { own = refl; above = omega arith })

      nobody : IsStrange owner level w (next_of p.subject w.lasts.clients)
      nobody e = ap (is_owner owner) absent

      pending_strange : (d : ClientRow) → find (is_pending p.subject args.owner) w.clients ≡ Some d → IsStrange owner level w d.id
      pending_strange d found own_level =
          let is_so : is_pending p.subject args.owner d ≡ true = (all_find (λ c. Unit {0}) (is_pending p.subject args.owner) w.clients d (all_anyway _ (λ c. tt) w.clients) found).1 in
          let parts = and_parts (d.id.level == p.subject) (bytes_eq d.owner args.owner && not d.confirmed) is_so in
          let same : bytes_eq d.owner args.owner ≡ true = (and_parts (bytes_eq d.owner args.owner) (not d.confirmed) parts.1).0 in
          let subject : p.subject ≡ level = let first = parts.0 in grind (arith, nat_tests, first, own_level) in
          ap (is_owner owner) (found_by_id (λ c. c.id) (is_pending p.subject args.owner) w.clients d facts.clients.rise found)
          ∙ ap (λ o. bytes_eq o owner) (bytes_same d.owner args.owner same) ∙ other subject

      above : p.subject ≡ level → last_of level w.lasts.clients + 1 ≤ last_of p.subject w.lasts.clients + 1
      above e = let same : last_of p.subject w.lasts.clients ≡ last_of level w.lasts.clients = ap (λ l. last_of l w.lasts.clients) e in omega arith

      bound : nat_lt (last_of p.subject w.lasts.clients) LAST_NUMBER ≡ true → last_of p.subject w.lasts.clients + 1 ≤ LAST_NUMBER
      bound room = grind (arith, nat_tests, room)

      by : nat_lt (last_of p.subject w.lasts.clients) LAST_NUMBER ≡ true → (o : Option ClientRow) → find (is_pending p.subject args.owner) w.clients ≡ o → Apart w (apply_all (dropped o ++ AddClient (new_client (next_of p.subject w.lasts.clients) args) ∷ []) w)
      by room None e = add_client_apart owner level (new_client (next_of p.subject w.lasts.clients) args) w nobody other above (bound room)
      by room (Some d) e =
          let first = drop_client_apart owner level d.id w facts.sessions.rise (pending_strange d e) in
          apart_through owner level w (apply (DropClient d.id) w) (apply (AddClient (new_client (next_of p.subject w.lasts.clients) args)) (apply (DropClient d.id) w)) first
          (add_client_apart owner level (new_client (next_of p.subject w.lasts.clients) args) (apply (DropClient d.id) w) (strange_still owner level w (apply (DropClient d.id) w) (next_of p.subject w.lasts.clients) first nobody) other above (bound room))

  module _ (dom : ℕ → ℕ → Bool) (args : CreateSession) (arguments : List ℕ) (subject : ℕ) (moment : Moment) (w : World) (facts : Facts dom w) (strange : (client_named args.client).level ≡ subject → IsStrange owner level w (client_named args.client)) where
    abbrev p : Place
    p = begins_at subject moment

    abbrev Left : Outcome (Answer Created) → Type 0
    Left o = Apart w (done_to w o)

    abbrev next : Id
    next = next_of subject w.lasts.sessions

    abbrev row : ClientRow → SessionRow
    row c = new_session next c (granted_of args.fore)

    module _ (own_subject : ((client_named args.client).level == subject) ≡ true) (c : ClientRow) (found : client_at w.clients (client_named args.client) ≡ Some c) where
      id : c.id ≡ client_named args.client
      id = client_level (client_named args.client) w.clients c found

      there : client_at w.clients c.id ≡ Some c
      there = ap (client_at w.clients) id ∙ found

      strange_c : IsStrange owner level w c.id
      strange_c own_level = ap (λ i. is_owner owner (client_at w.clients i)) id ∙ strange (grind (arith, nat_tests, own_subject)) (sym (ap (λ (i : Id). i.level) id) ∙ own_level)

      other : c.id.level ≡ level → bytes_eq c.owner owner ≡ false
      other own_level = sym (ap (is_owner owner) there) ∙ strange_c own_level

      of_subject : c.id.level ≡ subject
      of_subject = ap (λ (i : Id). i.level) id ∙ grind (arith, nat_tests, own_subject)

      session_strange : (u : World) → Apart w u → subject ≡ level → is_session owner level u (row c) ≡ false
      session_strange u through own_level =
          let same : at_level level c.id.number ≡ c.id = (λ k. record { level = sym (of_subject ∙ own_level) k; number = c.id.number }) in
          ap (λ i. is_owner owner (client_at u.clients i)) same ∙ strange_still owner level w u c.id through strange_c (of_subject ∙ own_level)

      no_next : session_at w.sessions next ≡ None
      no_next = at (session_at w.sessions next) refl
        where
          at : (o : Option SessionRow) → session_at w.sessions next ≡ o → session_at w.sessions next ≡ None
          at None e = e
          at (Some y) e =
              let given : is_given w.lasts.sessions y.id ≡ true = (all_find (λ x. is_given w.lasts.sessions x.id ≡ true) (λ x. same_id next x.id) w.sessions y facts.sessions.given e).0 in
              let now : is_given w.lasts.sessions next ≡ true = ap (is_given w.lasts.sessions) (sym (session_at-id next w.sessions y e)) ∙ given in
              absurd (grind (arith, nat_tests, now))

      unused : (u : World) → Apart w u → subject ≡ level → own_session owner level u (session_at u.sessions next) ≡ None
      unused u through own_level =
          let number : ℕ = last_of subject w.lasts.sessions + 1 in
          let same : next ≡ at_level level number = (λ k. record { level = own_level k; number = number }) in
          ap (λ i. own_session owner level u (session_at u.sessions i)) same ∙ through.sessions number ∙ ap (λ i. own_session owner level w (session_at w.sessions i)) (sym same) ∙ ap (own_session owner level w) no_next

      next_above : (v : World) → v.lasts ≡ w.lasts → subject ≡ level → last_of level v.lasts.sessions + 1 ≤ last_of subject w.lasts.sessions + 1
      next_above v lasts own_level =
          let same : last_of subject w.lasts.sessions ≡ last_of level v.lasts.sessions = ap (λ l. last_of l w.lasts.sessions) own_level ∙ ap (λ l. last_of level l.sessions) (sym lasts) in
          omega arith

      -- behind the record that gives way
      confirms : (v : World) → v.lasts ≡ w.lasts → Apart w v → client_at v.clients c.id ≡ Some c → Apart w (apply_all (SetClient (confirmed p c) ∷ AddSession (row c) ∷ []) v)
      confirms v lasts before still =
          let u : World = apply (SetClient (confirmed p c)) v in
          let set : Apart v u = set_client_apart owner level (confirmed p c) v (strange_still owner level w v c.id before strange_c) other c still in
          let through : Apart w u = apart_through owner level w v u before set in
          apart_through owner level w u (apply (AddSession (row c)) u) through
          (add_session_apart owner level (row c) u (session_strange u through) (unused u through) (λ own_level. next_above v lasts own_level))

      by : (o : Option ClientRow) → find (is_replaced c) w.clients ≡ o → Apart w (apply_all (dropped o ++ SetClient (confirmed p c) ∷ AddSession (row c) ∷ []) w)
      by None e = confirms w refl (apart_itself owner level w) there
      by (Some d) e =
          let is_so : is_replaced c d ≡ true = (all_find (λ x. Unit {0}) (is_replaced c) w.clients d (all_anyway _ (λ x. tt) w.clients) e).1 in
          let parts = and_parts (d.id.level == c.id.level) (bytes_eq d.owner c.owner && (d.confirmed && not (same_id c.id d.id))) is_so in
          let owners = and_parts (bytes_eq d.owner c.owner) (d.confirmed && not (same_id c.id d.id)) parts.1 in
          let apart : same_id c.id d.id ≡ false = let last = (and_parts d.confirmed (not (same_id c.id d.id)) owners.1).1 in grind (arith, last) in
          let d_there : client_at w.clients d.id ≡ Some d = found_by_id (λ x. x.id) (is_replaced c) w.clients d facts.clients.rise e in
          let level_same : d.id.level ≡ c.id.level = let first = parts.0 in grind (arith, nat_tests, first) in
          let strange_d : IsStrange owner level w d.id = (λ own_level. ap (is_owner owner) d_there ∙ ap (λ o. bytes_eq o owner) (bytes_same d.owner c.owner owners.0) ∙ other (sym level_same ∙ own_level)) in
          confirms (apply (DropClient d.id) w) refl (drop_client_apart owner level d.id w facts.sessions.rise strange_d)
          (client_at-dropped d.id w.clients c.id ∙ ap (λ t. cond t None (client_at w.clients c.id)) apart ∙ there)

    pub create_apart : Apart w (done_to w (create_session args arguments (begins_at subject moment) w))
    create_apart =
        demand_any Left ((client_named args.client).level == subject) _ _ (apart_itself owner level w) (λ own_level.
        where_any Left (client_at w.clients (client_named args.client)) _ _ (λ c found.
        created_any Left args arguments p w c (λ gate status. apart_itself owner level w) (λ k kept. apart_itself owner level w) (λ large.
        by own_level c found (find (is_replaced c) w.clients) refl)) (apart_itself owner level w))

  pub destroy_apart : (session : List ℕ) (p : Place) (w : World) → ((session_named session).level ≡ p.subject → (session_named session).level ≡ level → own_session owner level w (session_at w.sessions (session_named session)) ≡ None) → Apart w (done_to w (destroy_session session p w))
  destroy_apart session p w other =
      demand_any (λ o. Apart w (done_to w o)) ((session_named session).level == p.subject) _ _ (apart_itself owner level w) (λ own_subject.
      where_any (λ o. Apart w (done_to w o)) (session_under session w.sessions) _ _ (λ y found.
      let id : y.id ≡ session_named session = session_at-id (session_named session) w.sessions y (session_under-at session w.sessions y found) in
      drop_session_apart owner level y.id w (λ own_level. ap (λ i. own_session owner level w (session_at w.sessions i)) id ∙ other (grind (arith, nat_tests, own_subject)) (sym (ap (λ (i : Id). i.level) id) ∙ own_level))) (apart_itself owner level w))

  pub leave_apart : {dom : ℕ → ℕ → Bool} (client : ℕ) (p : Place) (w : World) → Facts dom w → ((client_named client).level ≡ p.subject → IsStrange owner level w (client_named client)) → Apart w (done_to w (destroy_clientid client p w))
  leave_apart client p w facts strange =
      demand_any (λ o. Apart w (done_to w o)) ((client_named client).level == p.subject) _ _ (apart_itself owner level w) (λ own_subject.
      where_any (λ o. Apart w (done_to w o)) (client_at w.clients (client_named client)) _ _ (λ c found.
      demand_any (λ o. Apart w (done_to w o)) (not (is_busy c.id w)) _ _ (apart_itself owner level w) (λ idle.
      let id : c.id ≡ client_named client = client_level (client_named client) w.clients c found in
      drop_client_apart owner level c.id w facts.sessions.rise (λ own_level. ap (λ i. is_owner owner (client_at w.clients i)) id ∙ strange (grind (arith, nat_tests, own_subject)) (sym (ap (λ (i : Id). i.level) id) ∙ own_level)))) (apart_itself owner level w))

  -- a CREATE_SESSION's answer is kept in the record of another
  pub keep_apart : (i : Id) (kept : Kept) (w : World) → IsStrange owner level w i → Apart w (apply_all (kept_of kept (client_at w.clients i)) w)
  keep_apart i kept w strange = at (client_at w.clients i) refl
    where
      at : (o : Option ClientRow) → client_at w.clients i ≡ o → Apart w (apply_all (kept_of kept o) w)
      at None e = apart_itself owner level w
      at (Some c) e =
          let id : c.id ≡ i = client_level i w.clients c e in
          let there : client_at w.clients c.id ≡ Some c = ap (client_at w.clients) id ∙ e in
          let strange_c : IsStrange owner level w c.id = (λ own_level. ap (λ j. is_owner owner (client_at w.clients j)) id ∙ strange (sym (ap (λ (j : Id). j.level) id) ∙ own_level)) in
          set_client_apart owner level (record c { sequence = next_sequence c.sequence; kept = Some kept }) w strange_c (λ own_level. sym (ap (is_owner owner) there) ∙ strange_c own_level) c there
