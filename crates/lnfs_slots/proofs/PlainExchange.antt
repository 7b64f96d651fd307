-- The law of an EXCHANGE_ID: the owner's confirmed record is told again, or a new one takes the place of one that isn't
-- confirmed. All else of the client stays.
use Rattle.std.proofs.Common.{◌≡◌, ◌⊎◌, inl, inr, ℕ, ◌+◌, ◌≤◌, Bool, true, false, cond, not, ◌&&◌, ◌||◌, List, [], ◌∷◌, ◌++◌, Option, Some, None, refl, sym, ◌∙◌, ap, subst, arith}
use Rattle.std.specs.Prelude.{◌==◌, nat_lt, slice_get}
use Rattle.std.specs.List.{AllByRecursion, find, list_any}
use Rattle.std.specs.Option.{option_map}
use Rattle.std.specs.Str.{bytes_eq}
use Rattle.std.proofs.lemmas.Bool.{and_parts}
use Rattle.std.proofs.lemmas.Bool.Decides.{nat_tests}
use Rattle.lnfs_calipso.specs.Label.{IsPreorderWithBottom}
use Rattle.lnfs_policy.specs.Policy.{Policy, dominance}
use Rattle.lnfs_world.specs.World.{Id, Client as ClientRow, Session as SessionRow, World, same_id, client_at, session_at, last_of, is_given}
use Rattle.lnfs_world.specs.Change.{AddClient, is_session_of, apply, apply_all}
use Rattle.lnfs_world.specs.Facts.{is_confirmed, has_confirmed}
use Rattle.lnfs_world.specs.Outcome.{Place, Outcome, begins_at, done_to}
use Rattle.lnfs_world.specs.Both.{Both, both}
use Rattle.lnfs_world.specs.declared.numbers.TheConstants.{LAST_NUMBER, LAST_SEQUENCE}
use Rattle.lnfs_world.proofs.ChangedNames.{applied_joined}
use Rattle.lnfs_world.proofs.Keys.{id_same, id_itself, bytes_itself, last_of-inserted}
use Rattle.lnfs_world.proofs.KeptClients.{client_at-inserted, client_at-dropped}
use Rattle.lnfs_world.proofs.Rows.{all_anyway, all_find}
use Rattle.lnfs_world.proofs.Views.{found_by_id}
use Rattle.lnfs_operations.specs.Chain.{Answer, Done}
use Rattle.lnfs_operations.specs.ExchangeId.{Arguments, Told, is_confirmed_as, is_pending, dropped, new_client, exchange_id}
use Rattle.lnfs_operations.specs.Extra.{Extra, AreLawful}
use Rattle.lnfs_operations.specs.InOrder.{sequence_before}
use Rattle.lnfs_operations.specs.SlotRule.{new_result}
use Rattle.lnfs_operations.proofs.ExchangeIdLaws.{other_client}
use Rattle.lnfs_operations.proofs.SessionLaws.{client_level, session_at-id}
use Rattle.lnfs_gss3.specs.Contexts.{has_context}
use Rattle.lnfs_gss3.specs.declared.numbers.TheConstants.{RPCSEC_GSS_CTXPROBLEM}
use Rattle.lnfs_gss3.specs.Mechanism.{Signing}
use Rattle.lnfs_site.specs.Site.{site_of}
use Rattle.lnfs_step.specs.Wrapping.{answer_text, refusal_text, caller}
use Rattle.lnfs_step.specs.Contexts.{is_there}
use Rattle.lnfs_once.specs.Client.{Assert, Exchange, Packet, Known}
use Rattle.lnfs_once.specs.Laws.{Record, Session, Gone, IsKept, IsGentle, IsPlain, Comes}
use Rattle.lnfs_slots.specs.OneClient.{Seen, When, Row, Writer, at_level, slot_row, is_owner, is_session, record_row, session_row, row_of, given_in, is_mine, mine_after, serve, context_there, IsSound, rows}
use Rattle.lnfs_slots.specs.Written.{context_of, IsExchange}
use Rattle.lnfs_slots.proofs.Alone.{exchanged, exchanged_result, ended_result}
use Rattle.lnfs_slots.proofs.ClientCreates as creates
use Rattle.lnfs_slots.proofs.Creates.{next_is}
use Rattle.lnfs_slots.proofs.Leaves.{IsExchanged, exchanged_rows, refused, again, anew}
use Rattle.lnfs_slots.proofs.Running as running
use Rattle.lnfs_slots.proofs.Running.{IsDone}
use Rattle.lnfs_slots.proofs.PlainLeave.{filter_none, owned}
use Rattle.lnfs_slots.proofs.Steps.{there_is}
use Rattle.lnfs_slots.proofs.Tidy.{IsFresh, IsTidy, IsGentleToo, tidy_kept, tidy_gentle, same_tidy, same_gentle}

-- where each fails a test, none passes it
none_of : {Y : Type 0} (P : Y → Type 0) (test : Y → Bool) → ((y : Y) → P y → test y ≡ false) → (ys : List Y) → AllByRecursion P ys → list_any test ys ≡ false
none_of P test each [] all = refl
none_of P test each (y ∷ ys) all =
    let first = each y all.0 in
    let rest = none_of P test each ys all.1 in
    grind (arith, first, rest)

-- where none is found, what another test finds fails it
not_found : {Y : Type 0} (test other : Y → Bool) (ys : List Y) (x : Y) → find test ys ≡ None → find other ys ≡ Some x → test x ≡ false
not_found test other [] x absent is = absurd (grind arith)
not_found test other (y ∷ ys) x absent is = at (test y) refl absent (other y) is (not_found test other ys x)
  where
    at : (t : Bool) → test y ≡ t → cond t (Some y) (find test ys) ≡ None → (s : Bool) → cond s (Some y) (find other ys) ≡ Some x → (find test ys ≡ None → find other ys ≡ Some x → test x ≡ false) → test x ≡ false
    at true e f s h rest = absurd cc
    at false e f true h rest = let same : y ≡ x = cc in ap test (sym same) ∙ e
    at false e f false h rest = rest f h

-- a confirmed record is there
confirmed_there : (o : Option ClientRow) → is_confirmed o ≡ true → (c : ClientRow) × (o ≡ Some c) × (c.confirmed ≡ true)
confirmed_there None is = absurd (grind arith)
confirmed_there (Some c) is = (c, refl, is)

module _ (X : Extra) (owed : AreLawful X) (m : Signing) (p : Policy) (lattice : IsPreorderWithBottom (dominance p)) {A : Type 0} (w : Writer A) (v : Seen X) (when : When) (q : Packet A) (kind : q.kind ≡ Exchange) (written : IsExchange X m p w q) (came : Comes (rows X m p w) v q) where
  abbrev b : Both X.Row
  b = v.state

  abbrev args : Arguments
  args = record { verifier = w.verifier; owner = w.owner; flags = written.flags }

  abbrev place : Place
  place = begins_at w.level when.moment

  abbrev o : Outcome (Answer Told)
  o = exchange_id args place b.world

  abbrev u : World
  u = done_to b.world o

  abbrev then : Seen X
  then = record { state = both u b.own; mine = v.mine }

  sound : IsSound X m p w v
  sound = came.good

  same_mine : (i k : ℕ) → mine_after q.kind i k v.mine ≡ v.mine
  same_mine i k = ap (λ l. mine_after l i k v.mine) kind

  abbrev IsDoneTo : Seen X → Type 0
  IsDoneTo t = IsDone X m p w v when q same_mine written.compound written.request t

  abbrev here : Bool
  here = is_there b.world.contexts w.level (context_of w.parent q.place.context)

  done : here ≡ true → IsDoneTo then
  done e =
      let leaves = exchanged X (site_of p) (running.sent X m p w v when q same_mine written.compound written.request) written.compound w.level when.moment b written.minor written.count w.verifier w.owner written.flags written.implementation written.only in
      running.done X m p w v when q same_mine written.compound written.request e (both u b.own) leaves.state leaves.keeps

  abbrev reply_with : Answer Told → Option (List ℕ)
  reply_with answer = Some (answer_text m (w.wrapping q) q.xid (new_result written.compound (ended_result w.level w.verifier w.owner written.flags written.implementation answer ∷ [])))

  reply : here ≡ true → (serve X m p w v when q).reply ≡ reply_with o.answer
  reply e =
      running.reply_is X m p w v when q same_mine written.compound written.request e
      ∙ ap (λ r. Some (answer_text m (w.wrapping q) q.xid r)) (exchanged_result X (site_of p) (running.sent X m p w v when q same_mine written.compound written.request) written.compound w.level when.moment b written.minor written.count w.verifier w.owner written.flags written.implementation written.only)

  -- ---- the law, by the state afterwards and what is told

  abbrev Tells : Seen X → Option (List ℕ) → Type 0
  Tells t r = (id next : ℕ) → w.reads q r ≡ Known id next → given_in w.owner w.level t.state.world Record id × ((x : Row) → row_of w.owner w.level t.state.world Record id ≡ Some x → next ≡ x.last + 1)

  abbrev Plain : Type 0
  Plain = IsPlain (rows X m p w) v q (serve X m p w v when q)

  by_state : (t : Seen X) (r : Option (List ℕ)) → IsDoneTo t → (serve X m p w v when q).reply ≡ r → IsTidy X m p w v t → IsGentleToo X m p w v t → Tells t r → Plain
  by_state t r is same tidied gently tells = record {
    kept = subst (IsKept (rows X m p w) v) (sym is.state) (tidy_kept X m p w v t sound tidied);
    gentle = λ before. subst (IsGentle (rows X m p w) v) (sym is.state) (tidy_gentle X m p w v t sound tidied gently);
    acts = is.acts;
    gone = subst (λ k. Gone (rows X m p w) (serve X m p w v when q).state k q.place) (sym kind) tt;
    known = λ id next exchange told. subst (λ (s : Seen X). given_in w.owner w.level s.state.world Record id × ((x : Row) → row_of w.owner w.level s.state.world Record id ≡ Some x → next ≡ x.last + 1)) (sym is.state) (tells id next (ap (w.reads q) (sym same) ∙ told));
    granted = λ context assert told. let no : Exchange ≡ Assert = sym kind ∙ assert in absurd cc;
  }

  -- ---- the confirmed record is told again

  told_again : (c : ClientRow) → find (is_confirmed_as w.level w.owner w.verifier) b.world.clients ≡ Some c → Tells v (reply_with (Done (record { number = c.id.number; sequence = c.sequence; confirmed = c.confirmed })))
  told_again c found id next told =
      let is_so : is_confirmed_as w.level w.owner w.verifier c ≡ true = (all_find (λ d. Unit {0}) (is_confirmed_as w.level w.owner w.verifier) b.world.clients c (all_anyway _ (λ d. tt) b.world.clients) found).1 in
      let parts = and_parts (c.id.level == w.level) (bytes_eq c.owner w.owner && (bytes_eq c.verifier w.verifier && c.confirmed)) is_so in
      let own : bytes_eq c.owner w.owner ≡ true = (and_parts (bytes_eq c.owner w.owner) (bytes_eq c.verifier w.verifier && c.confirmed) parts.1).0 in
      let level : c.id.level ≡ w.level = grind (arith, nat_tests, parts.0) in
      let c_id : c.id ≡ at_level w.level c.id.number = (λ k. record { level = level k; number = c.id.number }) in
      let there : client_at b.world.clients (at_level w.level c.id.number) ≡ Some c = ap (client_at b.world.clients) (sym c_id) ∙ found_by_id (λ d. d.id) (is_confirmed_as w.level w.owner w.verifier) b.world.clients c sound.holds.facts.clients.rise found in
      let given : is_given b.world.lasts.clients c.id ≡ true = (all_find (λ d. is_given b.world.lasts.clients d.id ≡ true) (is_confirmed_as w.level w.owner w.verifier) b.world.clients c sound.holds.facts.clients.given found).0 in
      let given_here : is_given b.world.lasts.clients (at_level w.level c.id.number) ≡ true = subst (λ i. is_given b.world.lasts.clients i ≡ true) c_id given in
      let below : c.id.number ≤ last_of w.level b.world.lasts.clients = grind (arith, nat_tests, given_here) in
      let bound : c.id.number ≤ LAST_NUMBER = let numbers = sound.numbers in omega arith in
      let shows : row_of w.owner w.level b.world Record c.id.number ≡ Some (record { last = sequence_before c.sequence; kept = c.kept }) =
      ap (record_row w.owner) there ∙ ap (λ (t : Bool). cond t (Some (record { last = sequence_before c.sequence; kept = c.kept })) None) own in
      let soon : sequence_before c.sequence + 1 ≤ LAST_SEQUENCE = came.early.1 Record c.id.number (record { last = sequence_before c.sequence; kept = c.kept }) shows in
      let sequence : c.sequence ≡ sequence_before c.sequence + 1 = next_is c.sequence soon in
      let read = written.told (record { number = c.id.number; sequence = c.sequence; confirmed = c.confirmed }) bound (omega (arith, sequence, soon)) id next told in (
        (
          omega (arith, read.0, below),
          λ d d_there. let same : Some d ≡ Some c = sym d_there ∙ ap (λ n. client_at b.world.clients (at_level w.level n)) read.0 ∙ there in let it : d ≡ c = cc in ap (λ (r : ClientRow). bytes_eq r.owner w.owner) it ∙ own,
        ),
        λ x is.
            let same : Some x ≡ Some (record { last = sequence_before c.sequence; kept = c.kept }) = sym is ∙ ap (λ n. row_of w.owner w.level b.world Record n) read.0 ∙ shows in
            let it : x ≡ record { last = sequence_before c.sequence; kept = c.kept } = cc in
            read.1 ∙ sequence ∙ ap (λ (r : Row). r.last + 1) (sym it),
      )

  -- ---- a new record

  abbrev last : ℕ
  last = last_of w.level b.world.lasts.clients

  abbrev new : ClientRow
  new = new_client (record { level = w.level; number = last + 1 }) args

  abbrev pending : Option ClientRow
  pending = find (is_pending w.level w.owner) b.world.clients

  -- whether a record gives way to it
  abbrev goes : Option ClientRow → Id → Bool
  goes None i = false
  goes (Some d) i = same_id i d.id

  -- the one that does
  record IsPending (d : ClientRow) : Type 0 where
    there : client_at b.world.clients d.id ≡ Some d
    id : d.id ≡ at_level w.level d.id.number
    own : bytes_eq d.owner w.owner ≡ true
    confirmed : d.confirmed ≡ false

  is_pending_one : (d : ClientRow) → pending ≡ Some d → IsPending d
  is_pending_one d found =
      let is_so : is_pending w.level w.owner d ≡ true = (all_find (λ c. Unit {0}) (is_pending w.level w.owner) b.world.clients d (all_anyway _ (λ c. tt) b.world.clients) found).1 in
      let parts = and_parts (d.id.level == w.level) (bytes_eq d.owner w.owner && not d.confirmed) is_so in
      let owners = and_parts (bytes_eq d.owner w.owner) (not d.confirmed) parts.1 in
      let level : d.id.level ≡ w.level = grind (arith, nat_tests, parts.0) in
      record {
        there = found_by_id (λ c. c.id) (is_pending w.level w.owner) b.world.clients d sound.holds.facts.clients.rise found;
        id = λ k. record { level = level k; number = d.id.number };
        own = owners.0;
        confirmed = grind (arith, owners.1);
      }

  -- the client of a session is confirmed: it doesn't give way, and is not the new one
  record IsBehind (y : SessionRow) : Type 0 where
    client : ClientRow
    there : client_at b.world.clients (at_level w.level y.client) ≡ Some client
    confirmed : client.confirmed ≡ true
    below : y.client ≤ last

  behind : (n : ℕ) (y : SessionRow) → session_at b.world.sessions (at_level w.level n) ≡ Some y → IsBehind y
  behind n y there =
      let level : y.id.level ≡ w.level = ap (λ (i : Id). i.level) (session_at-id (at_level w.level n) b.world.sessions y there) in
      let has : has_confirmed b.world.clients y.id.level y.client ≡ true = (all_find (λ s. has_confirmed b.world.clients s.id.level s.client ≡ true) (λ s. same_id (at_level w.level n) s.id) b.world.sessions y sound.holds.facts.sessions.behind there).0 in
      let has_here : is_confirmed (client_at b.world.clients (at_level w.level y.client)) ≡ true = subst (λ l. has_confirmed b.world.clients l y.client ≡ true) level has in
      let it = confirmed_there (client_at b.world.clients (at_level w.level y.client)) has_here in
      let given : is_given b.world.lasts.clients it.0.id ≡ true = (all_find (λ d. is_given b.world.lasts.clients d.id ≡ true) (λ c. same_id (at_level w.level y.client) c.id) b.world.clients it.0 sound.holds.facts.clients.given it.1).0 in
      let given_here : is_given b.world.lasts.clients (at_level w.level y.client) ≡ true = subst (λ i. is_given b.world.lasts.clients i ≡ true) (client_level (at_level w.level y.client) b.world.clients it.0 it.1) given in
      record { client = it.0; there = it.1; confirmed = it.2; below = grind (arith, nat_tests, given_here) }

  stays_behind : (y : SessionRow) → IsBehind y → goes pending (at_level w.level y.client) ≡ false
  stays_behind y is = at pending refl
    where
      of : (d : ClientRow) → IsPending d → (t : Bool) → same_id (at_level w.level y.client) d.id ≡ t → same_id (at_level w.level y.client) d.id ≡ false
      of d one false e = e
      of d one true e =
          let same : Some is.client ≡ Some d = sym is.there ∙ ap (client_at b.world.clients) (id_same (at_level w.level y.client) d.id e) ∙ one.there in
          let it : is.client ≡ d = cc in
          let both : true ≡ false = sym is.confirmed ∙ ap (λ (c : ClientRow). c.confirmed) it ∙ one.confirmed in
          absurd cc

      at : (found : Option ClientRow) → pending ≡ found → goes found (at_level w.level y.client) ≡ false
      at None e = refl
      at (Some d) e = of d (is_pending_one d e) (same_id (at_level w.level y.client) d.id) refl

  -- without the one that gives way
  abbrev rest : World
  rest = apply_all (dropped pending) b.world

  abbrev IsRestBy : Option ClientRow → Type 0
  IsRestBy found =
      ((i : Id) → client_at (apply_all (dropped found) b.world).clients i ≡ cond (goes found i) None (client_at b.world.clients i))
      × ((apply_all (dropped found) b.world).sessions ≡ b.world.sessions)
      × ((apply_all (dropped found) b.world).contexts ≡ b.world.contexts)
      × ((apply_all (dropped found) b.world).lasts ≡ b.world.lasts)

  rest_by : (found : Option ClientRow) → pending ≡ found → IsRestBy found
  rest_by None e = (λ i. refl, refl, refl, refl)
  rest_by (Some d) e =
      let one = is_pending_one d e in
      let idle : list_any (is_session_of d.id) b.world.sessions ≡ false = none_of (λ s. has_confirmed b.world.clients s.id.level s.client ≡ true) (is_session_of d.id) (λ s has. other_client b.world.clients d one.there one.confirmed s.id.level s.client has) b.world.sessions sound.holds.facts.sessions.behind in
      (λ i. client_at-dropped d.id b.world.clients i, filter_none (is_session_of d.id) b.world.sessions idle, refl, refl)

  is_rest : IsRestBy pending
  is_rest = rest_by pending refl

  module _ (room : nat_lt last LAST_NUMBER ≡ true) (never : find (is_confirmed_as w.level w.owner w.verifier) b.world.clients ≡ None) (world : u ≡ apply_all (dropped pending ++ AddClient new ∷ []) b.world) where
    is_world : u ≡ apply (AddClient new) rest
    is_world = world ∙ applied_joined (dropped pending) (AddClient new ∷ []) b.world

    clients_now : (i : Id) → client_at u.clients i ≡ cond (same_id i new.id) (Some new) (cond (goes pending i) None (client_at b.world.clients i))
    clients_now i =
        ap (λ (z : World). client_at z.clients i) is_world
        ∙ client_at-inserted new rest.clients i
        ∙ ap (λ c. cond (same_id i new.id) (Some new) c) (is_rest.0 i)

    sessions_now : u.sessions ≡ b.world.sessions
    sessions_now = ap (λ (z : World). z.sessions) is_world ∙ is_rest.1

    contexts_now : u.contexts ≡ b.world.contexts
    contexts_now = ap (λ (z : World). z.contexts) is_world ∙ is_rest.2

    last_now : last_of w.level u.lasts.clients ≡ last + 1
    last_now =
        ap (λ (z : World). last_of w.level z.lasts.clients) is_world
        ∙ last_of-inserted new.id rest.lasts.clients w.level
        ∙ (let is : (w.level == w.level) ≡ true = grind (arith, nat_tests) in ap (λ t. cond t (last + 1) (last_of w.level rest.lasts.clients)) is)

    -- the owner's record that was there gives way
    gives_way : (k : ℕ) (d : ClientRow) → client_at b.world.clients (at_level w.level k) ≡ Some d → bytes_eq d.owner w.owner ≡ true → (d.confirmed ≡ false) × (goes pending (at_level w.level k) ≡ true)
    gives_way k d there own = (unconfirmed, at pending refl)
      where
        level : (d.id.level == w.level) ≡ true
        level = let same : d.id.level ≡ w.level = ap (λ (i : Id). i.level) (client_level (at_level w.level k) b.world.clients d there) in grind (arith, nat_tests, same)

        unconfirmed : d.confirmed ≡ false
        unconfirmed =
            let fails : is_confirmed_as w.level w.owner w.verifier d ≡ false = not_found (is_confirmed_as w.level w.owner w.verifier) (λ c. same_id (at_level w.level k) c.id) b.world.clients d never there in
            let same = sound.verifier k d there own in
            grind (arith, fails, level, own, same)

        at : (found : Option ClientRow) → pending ≡ found → goes found (at_level w.level k) ≡ true
        at None e =
            let fails : is_pending w.level w.owner d ≡ false = not_found (is_pending w.level w.owner) (λ c. same_id (at_level w.level k) c.id) b.world.clients d e there in
            absurd (grind (arith, fails, level, own, unconfirmed))
        at (Some other) e =
            let one = is_pending_one other e in
            let number : k ≡ other.id.number = sound.one k other.id.number d other there (ap (client_at b.world.clients) (sym one.id) ∙ one.there) own one.own in
            let same : at_level w.level k ≡ other.id = ap (at_level w.level) number ∙ sym one.id in
            ap (λ i. same_id i other.id) same ∙ id_itself other.id

    was : (n : ℕ) (y : SessionRow) → session_at u.sessions (at_level w.level n) ≡ Some y → session_at b.world.sessions (at_level w.level n) ≡ Some y
    was n y there = ap (λ ss. session_at ss (at_level w.level n)) (sym sessions_now) ∙ there

    not_new : (k : ℕ) → k ≤ last → same_id (at_level w.level k) new.id ≡ false
    not_new k below = at (same_id (at_level w.level k) new.id) refl
      where
        at : (t : Bool) → same_id (at_level w.level k) new.id ≡ t → same_id (at_level w.level k) new.id ≡ false
        at false e = e
        at true e = let same : k ≡ last + 1 = ap (λ (i : Id). i.number) (id_same (at_level w.level k) new.id e) in absurd (omega (arith, same, below))

    owners_now : (n : ℕ) (y : SessionRow) → session_at b.world.sessions (at_level w.level n) ≡ Some y → is_session w.owner w.level u y ≡ is_session w.owner w.level b.world y
    owners_now n y there =
        let is = behind n y there in
        ap (is_owner w.owner) (clients_now (at_level w.level y.client)
        ∙ ap (λ t. cond t (Some new) (cond (goes pending (at_level w.level y.client)) None (client_at b.world.clients (at_level w.level y.client)))) (not_new y.client is.below)
        ∙ ap (λ t. cond t None (client_at b.world.clients (at_level w.level y.client))) (stays_behind y is))

    row_same : (n : ℕ) → row_of w.owner w.level u Session n ≡ row_of w.owner w.level b.world Session n
    row_same n = ap (λ ss. session_row w.owner w.level u (session_at ss (at_level w.level n))) sessions_now ∙ at (session_at b.world.sessions (at_level w.level n)) refl
      where
        at : (s : Option SessionRow) → session_at b.world.sessions (at_level w.level n) ≡ s → session_row w.owner w.level u s ≡ session_row w.owner w.level b.world s
        at None e = refl
        at (Some y) e = ap (λ (t : Bool). cond t (option_map slot_row (slice_get y.slots 0)) None) (owners_now n y e)

    -- the owner has the new record alone
    alone : (k : ℕ) (d : ClientRow) → client_at u.clients (at_level w.level k) ≡ Some d → bytes_eq d.owner w.owner ≡ true → k ≡ last + 1
    alone k d there own = at (same_id (at_level w.level k) new.id) refl (goes pending (at_level w.level k)) refl (sym (clients_now (at_level w.level k)) ∙ there)
      where
        at : (t : Bool) → same_id (at_level w.level k) new.id ≡ t → (g : Bool) → goes pending (at_level w.level k) ≡ g → cond t (Some new) (cond g None (client_at b.world.clients (at_level w.level k))) ≡ Some d → k ≡ last + 1
        at true e g h f = ap (λ (i : Id). i.number) (id_same (at_level w.level k) new.id e)
        at false e true h f = absurd cc
        at false e false h f = let both : true ≡ false = sym (gives_way k d f own).1 ∙ h in absurd cc

    record_now : (n : ℕ) (c : ClientRow) → client_at u.clients (at_level w.level n) ≡ Some c → (client_at b.world.clients (at_level w.level n) ≡ Some c) ⊎ IsFresh X m p w v then n c
    record_now n c there = at (same_id (at_level w.level n) new.id) refl (goes pending (at_level w.level n)) (sym (clients_now (at_level w.level n)) ∙ there)
      where
        fresh : n ≡ last + 1 → c ≡ new → IsFresh X m p w v then n c
        fresh number it = record {
          number = number;
          sequence = ap (λ (r : ClientRow). r.sequence) it;
          owner = ap (λ (r : ClientRow). bytes_eq r.owner w.owner) it ∙ bytes_itself w.owner;
          verifier = ap (λ (r : ClientRow). bytes_eq r.verifier w.verifier) it ∙ bytes_itself w.verifier;
          alone = λ k d d_there own. alone k d d_there own ∙ sym number;
        }

        at : (t : Bool) → same_id (at_level w.level n) new.id ≡ t → (g : Bool) → cond t (Some new) (cond g None (client_at b.world.clients (at_level w.level n))) ≡ Some c → (client_at b.world.clients (at_level w.level n) ≡ Some c) ⊎ IsFresh X m p w v then n c
        at true e g f = inr (fresh (ap (λ (i : Id). i.number) (id_same (at_level w.level n) new.id e)) cc)
        at false e true f = absurd cc
        at false e false f = inl f

    there_now : (c : ℕ) → context_there X m p w then c ≡ context_there X m p w v c
    there_now c = ap (λ cs. c == 0 || (is_mine v.mine c && has_context cs w.level w.parent c)) contexts_now

    tidy : IsDoneTo then → IsTidy X m p w v then
    tidy is =
        let before = same_tidy X m p w v sound in
        let sessions : last_of w.level u.lasts.sessions ≡ last_of w.level b.world.lasts.sessions = ap (λ (z : World). last_of w.level z.lasts.sessions) is_world ∙ ap (λ l. last_of w.level l.sessions) is_rest.3 in
        let contexts : last_of w.level u.lasts.contexts ≡ last_of w.level b.world.lasts.contexts = ap (λ (z : World). last_of w.level z.lasts.contexts) is_world ∙ ap (λ l. last_of w.level l.contexts) is_rest.3 in
        let clients = last_now in
        let bound : last + 1 ≤ LAST_NUMBER = grind (arith, nat_tests, room) in
        record {
          holds = running.holds_then X m p w v when q same_mine written.compound written.request owed lattice sound.holds then is;
          numbers = omega arith;
          records = record_now;
          sessions = was;
          owners = λ n y there. owners_now n y (was n y there);
          last_clients = omega arith;
          last_sessions = omega arith;
          last_contexts = omega arith;
          mine = λ c own. own;
          given = λ c own. ((before.given c own).0, subst (λ n. c ≤ n) (sym contexts) (before.given c own).1);
          ends = λ c met gone. there_now c ∙ gone;
        }

    -- the owner of a record that gives way has no session
    none_left : (n : ℕ) (x : Row) → row_of w.owner w.level b.world Record n ≡ Some x → (k : ℕ) → row_of w.owner w.level b.world Session k ≡ None
    none_left n x is k = at (session_at b.world.sessions (at_level w.level k)) refl
      where
        shows : creates.Shows w.owner (client_at b.world.clients (at_level w.level n)) x
        shows = creates.shown w.owner (client_at b.world.clients (at_level w.level n)) x is

        mine : (y : SessionRow) → session_at b.world.sessions (at_level w.level k) ≡ Some y → (t : Bool) → is_session w.owner w.level b.world y ≡ t → cond t (option_map slot_row (slice_get y.slots 0)) None ≡ None
        mine y e false f = refl
        mine y e true f =
            let owner = owned w.owner (client_at b.world.clients (at_level w.level y.client)) f in
            let one = behind k y e in
            let same : Some owner.client ≡ Some one.client = sym owner.there ∙ one.there in
            let it : owner.client ≡ one.client = cc in
            let both : true ≡ false = sym one.confirmed ∙ ap (λ (c : ClientRow). c.confirmed) (sym it) ∙ (gives_way y.client owner.client owner.there owner.own).0 in
            absurd cc

        at : (s : Option SessionRow) → session_at b.world.sessions (at_level w.level k) ≡ s → session_row w.owner w.level b.world s ≡ None
        at None e = refl
        at (Some y) e = mine y e (is_session w.owner w.level b.world y) refl

    gentle : IsGentleToo X m p w v then
    gentle = record {
      sessions = λ n gone. sym (row_same n) ∙ gone;
      contexts = λ c met there. there_now c ∙ there;
      records = λ n x is gone. none_left n x is;
    }

    new_there : client_at u.clients (at_level w.level (last + 1)) ≡ Some new
    new_there = clients_now (at_level w.level (last + 1)) ∙ ap (λ t. cond t (Some new) (cond (goes pending (at_level w.level (last + 1))) None (client_at b.world.clients (at_level w.level (last + 1))))) (id_itself new.id)

    told_anew : Tells then (reply_with (Done (record { number = last + 1; sequence = 1; confirmed = false })))
    told_anew id next told =
        let bound : last + 1 ≤ LAST_NUMBER = grind (arith, nat_tests, room) in
        let read = written.told (record { number = last + 1; sequence = 1; confirmed = false }) bound (omega arith) id next told in
        let shows : row_of w.owner w.level u Record (last + 1) ≡ Some (record { last = 0; kept = None }) =
        ap (record_row w.owner) new_there ∙ ap (λ (t : Bool). cond t (Some (record { last = 0; kept = None })) None) (bytes_itself w.owner) in (
          (
            omega (arith, read.0, last_now),
            λ d d_there. let same : Some d ≡ Some new = sym d_there ∙ ap (λ n. client_at u.clients (at_level w.level n)) read.0 ∙ new_there in let it : d ≡ new = cc in ap (λ (r : ClientRow). bytes_eq r.owner w.owner) it ∙ bytes_itself w.owner,
          ),
          λ x is.
              let same : Some x ≡ Some (record { last = 0; kept = None }) = sym is ∙ ap (λ n. row_of w.owner w.level u Record n) read.0 ∙ shows in
              let it : x ≡ record { last = 0; kept = None } = cc in
              read.1 ∙ ap (λ (r : Row). r.last + 1) (sym it),
        )

  -- ---- the law

  as_before : u ≡ b.world → IsDoneTo then → IsDoneTo v
  as_before e is = subst IsDoneTo (λ k. record { state = both (e k) b.own; mine = v.mine }) is

  by_rows : here ≡ true → IsExchanged args place b.world o → Plain
  by_rows e (refused status some is) =
      by_state v (reply_with o.answer) (as_before (ap (λ (a : Outcome (Answer Told)). done_to b.world a) is) (done e)) (reply e) (same_tidy X m p w v sound) (same_gentle X m p w v)
      (λ id next told. absurd (written.turned_down status some id next (ap (λ (a : Outcome (Answer Told)). w.reads q (reply_with a.answer)) (sym is) ∙ told)))
  by_rows e (again c found is) =
      by_state v (reply_with o.answer) (as_before (ap (λ (a : Outcome (Answer Told)). done_to b.world a) is) (done e)) (reply e) (same_tidy X m p w v sound) (same_gentle X m p w v)
      (λ id next told. told_again c found id next (ap (λ (a : Outcome (Answer Told)). w.reads q (reply_with a.answer)) (sym is) ∙ told))
  by_rows e (anew room never is) =
      let world : u ≡ apply_all (dropped pending ++ AddClient new ∷ []) b.world = ap (λ (a : Outcome (Answer Told)). done_to b.world a) is in
      by_state then (reply_with o.answer) (done e) (reply e) (tidy room never world (done e)) (gentle room never world)
      (λ id next told. told_anew room never world id next (ap (λ (a : Outcome (Answer Told)). w.reads q (reply_with a.answer)) (sym is) ∙ told))

  pub plain_exchange : Plain
  plain_exchange = at (context_there X m p w v q.place.context) refl
    where
      same_there : here ≡ context_there X m p w v q.place.context
      same_there = there_is X m p w v q.place.context came.knows.1

      at : (t : Bool) → context_there X m p w v q.place.context ≡ t → Plain
      at false e =
          by_state v (Some (refusal_text m (w.wrapping q) q.xid (caller RPCSEC_GSS_CTXPROBLEM))) (running.away X m p w v when q same_mine written.compound written.request (same_there ∙ e))
          (running.away_reply X m p w v when q same_mine written.compound written.request (same_there ∙ e)) (same_tidy X m p w v sound) (same_gentle X m p w v)
          (λ id next told. absurd (written.lost id next told))
      at true e = by_rows (same_there ∙ e) (exchanged_rows args place b.world)
