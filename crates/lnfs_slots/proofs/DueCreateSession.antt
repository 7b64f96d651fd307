-- The law of a new CREATE_SESSION: under the next sequence of its record it acts. The record keeps its reply, a session that it
-- makes is new and unused, and all else of the client stays.
use Rattle.std.proofs.Common.{◌≡◌, ◌⊎◌, inl, inr, ℕ, zero, suc, ◌+◌, ◌≤◌, Bool, true, false, cond, not, ◌&&◌, ◌||◌, List, Option, Some, None, refl, sym, ◌∙◌, ap, subst, arith}
use Rattle.std.specs.Prelude.{◌==◌, slice_get, replicate}
use Rattle.std.specs.List.{find}
use Rattle.std.specs.Option.{option_map}
use Rattle.std.specs.Str.{bytes_eq}
use Rattle.std.proofs.lemmas.Bool.{and_parts}
use Rattle.std.proofs.lemmas.Bool.Decides.{nat_tests}
use Rattle.lnfs_calipso.specs.Label.{IsPreorderWithBottom}
use Rattle.lnfs_policy.specs.Policy.{Policy, dominance}
use Rattle.lnfs_arguments.specs.declared.channel.Channel.{Channel as Asked}
use Rattle.lnfs_world.specs.World.{Id, Client as ClientRow, Slot as SlotRow, Session as SessionRow, World, same_id, client_at, session_at, last_of}
use Rattle.lnfs_world.specs.Outcome.{begins_at}
use Rattle.lnfs_world.specs.Lawful.{Turn}
use Rattle.lnfs_world.specs.Both.{Both}
use Rattle.lnfs_world.specs.declared.numbers.TheConstants.{LAST_NUMBER, LAST_SEQUENCE}
use Rattle.lnfs_world.proofs.Keys.{id_same, id_itself, bytes_same}
use Rattle.lnfs_world.proofs.Rows.{all_anyway, all_find}
use Rattle.lnfs_world.proofs.Views.{found_by_id}
use Rattle.lnfs_operations.specs.CreateSession.{fresh_slot, granted_of, is_large_enough, is_replaced}
use Rattle.lnfs_operations.specs.Extra.{Extra, AreLawful}
use Rattle.lnfs_operations.specs.Identifiers.{client_named}
use Rattle.lnfs_operations.specs.InOrder.{sequence_before}
use Rattle.lnfs_operations.specs.Keeping.{next_sequence}
use Rattle.lnfs_operations.specs.Sequence.{Sent}
use Rattle.lnfs_operations.specs.Served.{operation}
use Rattle.lnfs_operations.specs.SlotRule.{Answer, run_all}
use Rattle.lnfs_operations.proofs.SessionLaws.{client_level}
use Rattle.lnfs_gss3.specs.Contexts.{has_context}
use Rattle.lnfs_gss3.specs.Mechanism.{Signing}
use Rattle.lnfs_site.specs.Site.{site_of}
use Rattle.lnfs_step.specs.Contexts.{is_there}
use Rattle.lnfs_step.specs.Journal.{Holds}
use Rattle.lnfs_step.specs.Step.{Step, sent_of, step_with}
use Rattle.lnfs_step.specs.Wrapping.{answer_text}
use Rattle.lnfs_step.proofs.SlotSteps.{serving}
use Rattle.lnfs_step.proofs.Steps.{keeps}
use Rattle.lnfs_once.specs.Client.{Create, Packet, Made}
use Rattle.lnfs_once.specs.Server.{Served}
use Rattle.lnfs_once.specs.Laws.{Holder, Record, Session, holder_of, IsNew}
use Rattle.lnfs_slots.specs.OneClient.{longest_request, most_operations, Seen, When, Row, Writer, at_level, slot_row, is_owner, is_session, record_row, session_row, row_of, given_in, is_mine, is_keeping, event_of, serve, context_met, IsSound, rows}
use Rattle.lnfs_slots.specs.Written.{context_of, call_of, IsCreate}
use Rattle.lnfs_slots.proofs.Running as running
use Rattle.lnfs_slots.proofs.ClientCreates as creates
use Rattle.lnfs_slots.proofs.Cores.{session_same}
use Rattle.lnfs_slots.proofs.Creates.{next_is}
use Rattle.lnfs_slots.proofs.DueCreate as due
use Rattle.lnfs_slots.proofs.DueCreate.{Left, SessionCame, none, one}

before_next : (n : ℕ) → sequence_before (next_sequence n) ≡ n
before_next n = grind (arith, nat_tests)

-- the first of as many equal rows
first_of_many : (n : ℕ) (row : SlotRow) → 1 ≤ n → slice_get (replicate n row) 0 ≡ Some row
first_of_many zero row some = absurd (omega arith)
first_of_many (suc n) row some = refl

-- a session that is made has a slot
first_slot : (fore : Asked) → is_large_enough fore ≡ true → slice_get (replicate (granted_of fore).max_requests fresh_slot) 0 ≡ Some fresh_slot
first_slot fore large = first_of_many (granted_of fore).max_requests fresh_slot (
    let asked : 1 ≤ fore.requests = grind (arith, nat_tests, large) in
    omega arith)

module _ (X : Extra) (owed : AreLawful X) (m : Signing) (p : Policy) (lattice : IsPreorderWithBottom (dominance p)) {A : Type 0} (w : Writer A) (v : Seen X) (when : When) (q : Packet A) (kind : q.kind ≡ Create) (written : IsCreate X m p w q) (sound : IsSound X m p w v) (x : Row) (is : row_of w.owner w.level v.state.world Record q.place.number ≡ Some x) (here : is_there v.state.world.contexts w.level (context_of w.parent q.place.context) ≡ true) (next : q.sequence ≡ x.last + 1) (early : x.last + 1 ≤ LAST_SEQUENCE) where
  abbrev b : Both X.Row
  b = v.state

  abbrev i : Id
  i = at_level w.level q.place.number

  abbrev sent : Sent
  sent = sent_of (event_of X m p w when q) (w.arguments q) written.compound

  abbrev now : Turn Answer (Both X.Row)
  now = serving X p (event_of X m p w when q) (call_of X m p w q) (w.arguments q) written.compound b

  abbrev after : World
  after = now.state.world

  abbrev then : Seen X
  then = record { state = now.state; mine = v.mine }

  abbrev client : ClientRow
  client = (creates.shows X m p w v when q kind written x is).client

  mine : bytes_eq client.owner w.owner ≡ true
  mine = (creates.shows X m p w v when q kind written x is).own

  there : client_at b.world.clients i ≡ Some client
  there = (creates.shows X m p w v when q kind written x is).there

  id : client.id ≡ i
  id = client_level i b.world.clients client there

  own : (client_named written.args.client).level ≡ w.level
  own = creates.own X m p w v when q kind written

  found : client_at b.world.clients (client_named written.args.client) ≡ Some client
  found = creates.there X m p w v when q kind written x is

  in_turn : written.args.sequence ≡ client.sequence
  in_turn =
      let last : x.last ≡ sequence_before client.sequence = creates.last X m p w v when q kind written x is in
      let soon : sequence_before client.sequence + 1 ≤ LAST_SEQUENCE = subst (λ n. n + 1 ≤ LAST_SEQUENCE) last early in
      written.sequence ∙ next ∙ ap (λ n. n + 1) last ∙ sym (next_is client.sequence soon)

  -- ---- what the step leaves

  -- the owner has no other record
  alone : find (is_replaced client) b.world.clients ≡ None
  alone = at (find (is_replaced client) b.world.clients) refl
    where
      never : (d : ClientRow) → find (is_replaced client) b.world.clients ≡ Some d → ⊥
      never d e =
          let is_so : is_replaced client d ≡ true = (all_find (λ c. Unit {0}) (is_replaced client) b.world.clients d (all_anyway _ (λ c. tt) b.world.clients) e).1 in
          let d_there : client_at b.world.clients d.id ≡ Some d = found_by_id (λ c. c.id) (is_replaced client) b.world.clients d sound.holds.facts.clients.rise e in
          let parts = and_parts (d.id.level == client.id.level) (bytes_eq d.owner client.owner && (d.confirmed && not (same_id client.id d.id))) is_so in
          let owners = and_parts (bytes_eq d.owner client.owner) (d.confirmed && not (same_id client.id d.id)) parts.1 in
          let other = and_parts d.confirmed (not (same_id client.id d.id)) owners.1 in
          let level : d.id.level ≡ client.id.level = grind (arith, nat_tests, parts.0) in
          let d_id : d.id ≡ at_level w.level d.id.number = (λ k. record { level = (level ∙ ap (λ (j : Id). j.level) id) k; number = d.id.number }) in
          let d_own : bytes_eq d.owner w.owner ≡ true = ap (λ o. bytes_eq o w.owner) (bytes_same d.owner client.owner owners.0) ∙ mine in
          let number : d.id.number ≡ q.place.number = sound.one d.id.number q.place.number d client (ap (client_at b.world.clients) (sym d_id) ∙ d_there) there d_own mine in
          let same : client.id ≡ d.id = id ∙ sym (d_id ∙ ap (at_level w.level) number) in
          let tested : same_id client.id d.id ≡ true = ap (same_id client.id) (sym same) ∙ id_itself client.id in
          absurd (grind (arith, other.1, tested))

      at : (o : Option ClientRow) → find (is_replaced client) b.world.clients ≡ o → find (is_replaced client) b.world.clients ≡ None
      at None e = e
      at (Some d) e = absurd (never d e)

  left : Left X (site_of p) sent written.compound written.args w.level when.moment b written.minor written.count written.only own client found in_turn now
  left = due.create_left X (site_of p) sent written.compound written.args w.level when.moment b written.minor written.count written.only own client found in_turn alone

  abbrev opened : SessionRow
  opened = due.opened_session X (site_of p) sent written.compound written.args w.level when.moment b written.minor written.count written.only own client found in_turn

  abbrev last : ℕ
  last = last_of w.level b.world.lasts.sessions

  acts : is_keeping (run_all (operation X (site_of p) sent written.compound) written.compound (begins_at w.level when.moment) b).keeper ≡ true
  acts = due.acts X (site_of p) sent written.compound written.args w.level when.moment b written.minor written.count written.only own client found in_turn

  clients_now : (j : Id) → client_at after.clients j ≡ cond (same_id j i) (Some left.row) (client_at b.world.clients j)
  clients_now j = left.clients j ∙ ap (λ k. cond (same_id j k) (Some left.row) (client_at b.world.clients j)) id

  -- ---- the client's rows

  -- a record that is there was there, of the same owner
  record WasThere (j : Id) (c : ClientRow) : Type 0 where
    before : ClientRow
    found_there : client_at b.world.clients j ≡ Some before
    owner : c.owner ≡ before.owner
    verifier : c.verifier ≡ before.verifier

  was : (j : Id) (c : ClientRow) → client_at after.clients j ≡ Some c → WasThere j c
  was j c is = at (same_id j i) refl (sym (clients_now j) ∙ is)
    where
      at : (t : Bool) → same_id j i ≡ t → cond t (Some left.row) (client_at b.world.clients j) ≡ Some c → WasThere j c
      at true e f =
          let same : c ≡ left.row = cc in
          record { before = client; found_there = ap (client_at b.world.clients) (id_same j i e) ∙ there; owner = ap (λ (r : ClientRow). r.owner) same ∙ left.owner; verifier = ap (λ (r : ClientRow). r.verifier) same ∙ left.verifier }
      at false e f = record { before = c; found_there = f; owner = refl; verifier = refl }

  owner_now : (j : Id) → is_owner w.owner (client_at after.clients j) ≡ is_owner w.owner (client_at b.world.clients j)
  owner_now j = ap (is_owner w.owner) (clients_now j) ∙ at (same_id j i) refl
    where
      at : (t : Bool) → same_id j i ≡ t → is_owner w.owner (cond t (Some left.row) (client_at b.world.clients j)) ≡ is_owner w.owner (client_at b.world.clients j)
      at true e = ap (λ o. bytes_eq o w.owner) left.owner ∙ sym (ap (is_owner w.owner) (ap (client_at b.world.clients) (id_same j i e) ∙ there))
      at false e = refl

  same_owner : (y : SessionRow) → is_session w.owner w.level after y ≡ is_session w.owner w.level b.world y
  same_owner y = owner_now (at_level w.level y.client)

  opened_own : is_session w.owner w.level after opened ≡ true
  opened_own = same_owner opened ∙ ap (λ (j : Id). is_owner w.owner (client_at b.world.clients (at_level w.level j.number))) id ∙ ap (is_owner w.owner) there ∙ mine

  abbrev used_row : Row
  used_row = record { last = q.sequence; kept = Some (record { arguments = w.arguments q; reply = now.answer.result }) }

  used_shown : record_row w.owner (Some left.row) ≡ Some used_row
  used_shown =
      let spent : sequence_before left.row.sequence ≡ q.sequence = ap sequence_before left.sequence ∙ before_next client.sequence ∙ sym in_turn ∙ written.sequence in
      ap (λ (t : Bool). cond t (Some (record { last = sequence_before left.row.sequence; kept = left.row.kept })) None) (ap (λ o. bytes_eq o w.owner) left.owner ∙ mine)
      ∙ (λ k. Some (record { last = spent k; kept = left.kept k }))

  record_now : (n : ℕ) → row_of w.owner w.level after Record n ≡ cond (same_id (at_level w.level n) i) (Some used_row) (row_of w.owner w.level b.world Record n)
  record_now n = ap (record_row w.owner) (clients_now (at_level w.level n)) ∙ at (same_id (at_level w.level n) i)
    where
      at : (t : Bool) → record_row w.owner (cond t (Some left.row) (client_at b.world.clients (at_level w.level n))) ≡ cond t (Some used_row) (row_of w.owner w.level b.world Record n)
      at true = used_shown
      at false = refl

  -- a session that is there is new, or was there
  record IsOpened (n : ℕ) (y : SessionRow) : Type 0 where
    is_it : y ≡ opened
    number : n ≡ last + 1
    slot : slice_get opened.slots 0 ≡ Some fresh_slot

  came_or_was : (n : ℕ) (y : SessionRow) → session_at after.sessions (at_level w.level n) ≡ Some y → IsOpened n y ⊎ (session_at b.world.sessions (at_level w.level n) ≡ Some y)
  came_or_was n y is = by left.came
    where
      at : (t : Bool) → same_id (at_level w.level n) opened.id ≡ t → is_large_enough written.args.fore ≡ true → cond t (Some opened) (session_at b.world.sessions (at_level w.level n)) ≡ Some y → IsOpened n y ⊎ (session_at b.world.sessions (at_level w.level n) ≡ Some y)
      at true e large f = inl (record { is_it = cc; number = ap (λ (j : Id). j.number) (id_same (at_level w.level n) opened.id e); slot = first_slot written.args.fore large })
      at false e large f = inr f

      by : SessionCame X (site_of p) sent written.compound written.args w.level when.moment b written.minor written.count written.only own client found in_turn now → IsOpened n y ⊎ (session_at b.world.sessions (at_level w.level n) ≡ Some y)
      by (none status some result same lasts) = inr (ap (λ xs. session_at xs (at_level w.level n)) (sym same) ∙ is)
      by (one large room result session_now lasts) = at (same_id (at_level w.level n) opened.id) refl large (sym (session_now (at_level w.level n)) ∙ is)

  last_rises : last ≤ last_of w.level after.lasts.sessions
  last_rises = by left.came
    where
      by : SessionCame X (site_of p) sent written.compound written.args w.level when.moment b written.minor written.count written.only own client found in_turn now → last ≤ last_of w.level after.lasts.sessions
      by (none status some result same lasts) = let e : last_of w.level after.lasts.sessions ≡ last = ap (last_of w.level) lasts in omega arith
      by (one large room result session_now lasts) = omega arith

  -- so is what it shows
  row_came_or_was : (n : ℕ) (z : Row) → row_of w.owner w.level after Session n ≡ Some z → ((n ≡ last + 1) × (z.last ≡ 0)) ⊎ (row_of w.owner w.level b.world Session n ≡ Some z)
  row_came_or_was n z is = at (session_at after.sessions (at_level w.level n)) refl is
    where
      at : (o : Option SessionRow) → session_at after.sessions (at_level w.level n) ≡ o → session_row w.owner w.level after o ≡ Some z → ((n ≡ last + 1) × (z.last ≡ 0)) ⊎ (row_of w.owner w.level b.world Session n ≡ Some z)
      at None e f = absurd cc
      at (Some y) e f = elim (came_or_was n y e) [
        | inl new ↦ inl (new.number, unused y new f)
        | inr old ↦ inr (ap (session_row w.owner w.level b.world) old ∙ sym (session_same w.owner w.level after b.world same_owner (Some y)) ∙ f)
      ]
        where
          unused : (y : SessionRow) → IsOpened n y → session_row w.owner w.level after (Some y) ≡ Some z → z.last ≡ 0
          unused y new f =
              let shows : session_row w.owner w.level after (Some y) ≡ Some (slot_row fresh_slot) =
              ap (λ s. session_row w.owner w.level after (Some s)) new.is_it
              ∙ ap (λ (t : Bool). cond t (option_map slot_row (slice_get opened.slots 0)) None) opened_own
              ∙ ap (option_map slot_row) new.slot in
              let same : Some z ≡ Some (slot_row fresh_slot) = sym f ∙ shows in
              let is_it : z ≡ slot_row fresh_slot = cc in
              ap (λ (r : Row). r.last) is_it

  -- ---- what is sound stays so

  step_state : (step_with X m p b (event_of X m p w when q)).state ≡ now.state
  step_state = ap (λ (s : Step (Both X.Row)). s.state) (running.step_is X m p w v when q (creates.same_mine X m p w v when q kind written) written.compound written.request here)

  no_zero : client_at after.clients (at_level w.level 0) ≡ None
  no_zero = clients_now (at_level w.level 0) ∙ at (same_id (at_level w.level 0) i) refl
    where
      at : (t : Bool) → same_id (at_level w.level 0) i ≡ t → cond t (Some left.row) (client_at b.world.clients (at_level w.level 0)) ≡ None
      at true e =
          let no : Some client ≡ None = sym there ∙ ap (client_at b.world.clients) (sym (id_same (at_level w.level 0) i e)) ∙ sound.no_client in
          absurd cc
      at false e = sound.no_client

  no_zero_session : session_at after.sessions (at_level w.level 0) ≡ None
  no_zero_session = at (session_at after.sessions (at_level w.level 0)) refl
    where
      at : (o : Option SessionRow) → session_at after.sessions (at_level w.level 0) ≡ o → session_at after.sessions (at_level w.level 0) ≡ None
      at None e = e
      at (Some y) e = elim (came_or_was 0 y e) [
        | inl new ↦ absurd (omega (arith, new.number))
        | inr old ↦ let no : Some y ≡ None = sym old ∙ sound.no_session in absurd cc
      ]

  good : IsSound X m p w then
  good = record {
    holds = subst (Holds X p) step_state (keeps X owed m p lattice (event_of X m p w when q) b sound.holds);
    numbers = subst (λ l. last_of w.level l ≤ LAST_NUMBER) (sym left.last_clients) sound.numbers;
    no_client = no_zero;
    no_session = no_zero_session;
    no_context = sound.no_context;
    one = λ j k c d c_there d_there c_own d_own.
        let before = was (at_level w.level j) c c_there in
        let other = was (at_level w.level k) d d_there in
        sound.one j k before.before other.before before.found_there other.found_there (sym (ap (λ o. bytes_eq o w.owner) before.owner) ∙ c_own) (sym (ap (λ o. bytes_eq o w.owner) other.owner) ∙ d_own);
    verifier = λ j c c_there c_own.
        let before = was (at_level w.level j) c c_there in
        ap (λ o. bytes_eq o w.verifier) before.verifier ∙ sound.verifier j before.before before.found_there (sym (ap (λ o. bytes_eq o w.owner) before.owner) ∙ c_own);
    given = λ c is_mine. subst (λ l. c ≤ last_of w.level l) (sym left.last_contexts) (sound.given c is_mine);
    slotted = λ n y is is_own. elim (came_or_was n y is) [
      | inl new ↦ (fresh_slot, ap (λ (s : SessionRow). slice_get s.slots 0) new.is_it ∙ new.slot)
      | inr old ↦ sound.slotted n y old (sym (same_owner y) ∙ is_own)
    ];
    grants = λ n y is is_own. elim (came_or_was n y is) [
      | inl new ↦ subst (λ (s : SessionRow). (longest_request ≤ s.channel.max_request) × (most_operations ≤ s.channel.max_operations)) (sym new.is_it) (large_enough written.fore.0 written.fore.1)
      | inr old ↦ sound.grants n y old (sym (same_owner y) ∙ is_own)
    ];
  }
    where
      large_enough : longest_request ≤ written.args.fore.maxrequest → most_operations ≤ written.args.fore.operations → (longest_request ≤ opened.channel.max_request) × (most_operations ≤ opened.channel.max_operations)
      large_enough bytes count = (omega arith, omega arith)

  -- ---- the law

  given_now : (h : Holder) (n : ℕ) → given_in w.owner w.level b.world h n → given_in w.owner w.level after h n
  given_now Record n given = (
    subst (λ l. n ≤ last_of w.level l) (sym left.last_clients) given.0,
    λ c is. let before = was (at_level w.level n) c is in ap (λ o. bytes_eq o w.owner) before.owner ∙ given.1 before.before before.found_there,
  )
  given_now Session n given = (
    let rises = last_rises in let below = given.0 in omega arith,
    λ y is. elim (came_or_was n y is) [
      | inl new ↦ ap (is_session w.owner w.level after) new.is_it ∙ opened_own
      | inr old ↦ same_owner y ∙ given.1 y old
    ],
  )

  met_now : (c : ℕ) → context_met X m p w v c → context_met X m p w then c
  met_now c met = elim met [
    | inl e ↦ inl e
    | inr e ↦ inr (e.0, subst (λ l. c ≤ last_of w.level l) (sym left.last_contexts) e.1)
  ]

  record_elsewhere : (n : ℕ) (z : Row) → row_of w.owner w.level after Record n ≡ Some z → (row_of w.owner w.level b.world Record n ≡ Some z) ⊎ ((n ≡ q.place.number) × (z ≡ used_row))
  record_elsewhere n z is = at (same_id (at_level w.level n) i) refl (sym (record_now n) ∙ is)
    where
      at : (t : Bool) → same_id (at_level w.level n) i ≡ t → cond t (Some used_row) (row_of w.owner w.level b.world Record n) ≡ Some z → (row_of w.owner w.level b.world Record n ≡ Some z) ⊎ ((n ≡ q.place.number) × (z ≡ used_row))
      at true e f = inr (ap (λ (k : Id). k.number) (id_same (at_level w.level n) i e), cc)
      at false e f = inl f

  elsewhere_now : (h : Holder) (n : ℕ) (z : Row) → given_in w.owner w.level b.world h n → row_of w.owner w.level after h n ≡ Some z → (row_of w.owner w.level b.world h n ≡ Some z) ⊎ ((h ≡ holder_of q.kind) × (n ≡ q.place.number))
  elsewhere_now Record n z given is = elim (record_elsewhere n z is) [
    | inl e ↦ inl e
    | inr e ↦ inr (sym (ap holder_of kind), e.0)
  ]
  elsewhere_now Session n z given is = elim (row_came_or_was n z is) [
    | inl new ↦ absurd (omega (arith, new.0, given.0))
    | inr old ↦ inl old
  ]

  new_now : (h : Holder) (n : ℕ) (z : Row) → row_of w.owner w.level after h n ≡ Some z → (row_of w.owner w.level b.world h n ≡ Some z) ⊎ (z.last ≡ 0) ⊎ (z ≡ used_row)
  new_now Record n z is = elim (record_elsewhere n z is) [
    | inl e ↦ inl e
    | inr e ↦ inr (inr e.1)
  ]
  new_now Session n z is = elim (row_came_or_was n z is) [
    | inl new ↦ inr (inl new.1)
    | inr old ↦ inl old
  ]

  abbrev reply : Option (List ℕ)
  reply = Some (answer_text m (w.wrapping q) q.xid now.answer.result)

  -- the session that is told is the new one
  made_now : (n : ℕ) → w.reads q reply ≡ Made n → given_in w.owner w.level after Session n × ((z : Row) × (row_of w.owner w.level after Session n ≡ Some z) × (z.last ≡ 0))
  made_now n told = by left.came
    where
      by : SessionCame X (site_of p) sent written.compound written.args w.level when.moment b written.minor written.count written.only own client found in_turn now → given_in w.owner w.level after Session n × ((z : Row) × (row_of w.owner w.level after Session n ≡ Some z) × (z.last ≡ 0))
      by (none status some result same lasts) = absurd (written.turned_down status some n (ap (λ r. w.reads q (Some (answer_text m (w.wrapping q) q.xid r))) (sym result) ∙ told))
      by (one large room result session_now lasts) =
          let bound : last + 1 ≤ LAST_NUMBER = grind (arith, nat_tests, room) in
          let number : n ≡ last + 1 = written.told (last + 1) bound n (ap (λ r. w.reads q (Some (answer_text m (w.wrapping q) q.xid r))) (sym result) ∙ told) in
          let same : at_level w.level n ≡ opened.id = ap (at_level w.level) number in
          let there_now : session_at after.sessions (at_level w.level n) ≡ Some opened =
          session_now (at_level w.level n) ∙ ap (λ t. cond t (Some opened) (session_at b.world.sessions (at_level w.level n))) (ap (λ j. same_id j opened.id) same ∙ id_itself opened.id) in
          let shows : row_of w.owner w.level after Session n ≡ Some (slot_row fresh_slot) =
          ap (session_row w.owner w.level after) there_now
          ∙ ap (λ (t : Bool). cond t (option_map slot_row (slice_get opened.slots 0)) None) opened_own
          ∙ ap (option_map slot_row) (first_slot written.args.fore large) in
          ((omega (arith, number, lasts), λ y is. let it : Some y ≡ Some opened = sym is ∙ there_now in let same : y ≡ opened = cc in ap (is_session w.owner w.level after) same ∙ opened_own), (slot_row fresh_slot, shows, refl))

  abbrev turn : Served (Seen X) (Option (List ℕ))
  turn = record { state = then; reply = reply; acts = true }

  new : IsNew (rows X m p w) v q turn
  new = record {
    acts = refl;
    good = good;
    grows = given_now;
    grows_contexts = met_now;
    contexts = λ c. ap (λ cs. c == 0 || (is_mine v.mine c && has_context cs w.level w.parent c)) left.contexts;
    used = used_row;
    at = subst (λ k. row_of w.owner w.level after (holder_of k) q.place.number ≡ Some used_row) (sym kind) (record_now q.place.number ∙ ap (λ t. cond t (Some used_row) (row_of w.owner w.level b.world Record q.place.number)) (id_itself i));
    moved = refl;
    keeps = (now.answer.result, refl, refl);
    elsewhere = elsewhere_now;
    new = new_now;
    made = λ number create told. made_now number told;
  }

  served : serve X m p w v when q ≡ turn
  served = λ k. record {
    state = record { state = step_state k; mine = creates.same_mine X m p w v when q kind written (last_of w.level v.state.world.lasts.contexts) (last_of w.level (step_with X m p v.state (event_of X m p w when q)).state.world.lasts.contexts) k };
    reply = running.reply_is X m p w v when q (creates.same_mine X m p w v when q kind written) written.compound written.request here k;
    acts = (running.acts_is X m p w v when q (creates.same_mine X m p w v when q kind written) written.compound written.request ∙ ap (λ t. t && is_keeping (run_all (operation X (site_of p) sent written.compound) written.compound (begins_at w.level when.moment) b).keeper) here ∙ acts) k;
  }

  pub due_create : IsNew (rows X m p w) v q (serve X m p w v when q)
  due_create = subst (IsNew (rows X m p w) v q) (sym served) new
