-- The law `due` of a COMPOUND: under the next sequence of its slot it acts, and leaves all else of the client as it was.
use Rattle.std.proofs.Common.{◌≡◌, ◌⊎◌, inl, inr, ℕ, ◌+◌, ◌≤◌, Bool, true, false, cond, ◌&&◌, ◌||◌, List, Option, Some, None, refl, sym, ◌∙◌, ap, subst, arith}
use Rattle.std.specs.Prelude.{◌==◌, slice_get}
use Rattle.std.specs.Option.{option_map}
use Rattle.std.specs.Str.{bytes_eq}
use Rattle.std.proofs.lemmas.Bool.Decides.{nat_tests}
use Rattle.lnfs_calipso.specs.Label.{IsPreorderWithBottom}
use Rattle.lnfs_policy.specs.Policy.{Policy, dominance}
use Rattle.lnfs_world.specs.World.{Id, Client as ClientRow, Slot as SlotRow, Session as SessionRow, World, same_id, client_at, session_at, last_of}
use Rattle.lnfs_world.specs.Outcome.{begins_at}
use Rattle.lnfs_world.specs.Lawful.{Turn}
use Rattle.lnfs_world.specs.Both.{Both, BothStand}
use Rattle.lnfs_world.specs.declared.numbers.TheConstants.{LAST_NUMBER, LAST_SEQUENCE}
use Rattle.lnfs_world.proofs.Keys.{id_same, id_itself}
use Rattle.lnfs_operations.specs.Extra.{Extra, AreLawful}
use Rattle.lnfs_operations.specs.Keeping.{next_sequence}
use Rattle.lnfs_operations.specs.Sequence.{Sent}
use Rattle.lnfs_operations.specs.Served.{operation}
use Rattle.lnfs_operations.specs.SlotRule.{Answer, run_all}
use Rattle.lnfs_operations.proofs.SessionLaws.{session_at-id}
use Rattle.lnfs_gss3.specs.Contexts.{has_context}
use Rattle.lnfs_gss3.specs.Mechanism.{Signing}
use Rattle.lnfs_site.specs.Site.{site_of}
use Rattle.lnfs_step.specs.Contexts.{is_there}
use Rattle.lnfs_step.specs.Journal.{Holds}
use Rattle.lnfs_step.specs.Step.{Step, sent_of, step_with}
use Rattle.lnfs_step.specs.Wrapping.{answer_text}
use Rattle.lnfs_step.proofs.SlotSteps.{serving}
use Rattle.lnfs_step.proofs.Steps.{begins, keeps}
use Rattle.lnfs_once.specs.Client.{Compound, Create, Packet}
use Rattle.lnfs_once.specs.Server.{Served}
use Rattle.lnfs_once.specs.Laws.{Holder, Record, Session, holder_of, IsNew}
use Rattle.lnfs_slots.specs.OneClient.{longest_request, most_operations, Seen, When, Row, Writer, at_level, slot_row, is_session, session_row, row_of, given_in, is_mine, is_keeping, event_of, serve, context_met, IsSound, rows}
use Rattle.lnfs_slots.specs.Written.{context_of, call_of, IsCompound}
use Rattle.lnfs_slots.proofs.Behind.{core}
use Rattle.lnfs_slots.proofs.Running as running
use Rattle.lnfs_slots.proofs.Compounds as compounds
use Rattle.lnfs_slots.proofs.Cores.{owner_same, record_same, session_same, was_there, none_there}
use Rattle.lnfs_slots.proofs.Due as due
use Rattle.lnfs_slots.proofs.Due.{LeavesRecords}

-- a number that was given stays so, where the last one stays
last_same : (level n : ℕ) (a b : List Id) → a ≡ b → n ≤ last_of level b → n ≤ last_of level a
last_same level n a b e below = subst (λ l. n ≤ last_of level l) (sym e) below

module _ (X : Extra) (owed : AreLawful X) (m : Signing) (p : Policy) (lattice : IsPreorderWithBottom (dominance p)) {A : Type 0} (w : Writer A) (v : Seen X) (when : When) (q : Packet A) (kind : q.kind ≡ Compound) (written : IsCompound X m p w q) (sound : IsSound X m p w v) (x : Row) (is : row_of w.owner w.level v.state.world Session q.place.number ≡ Some x) (here : is_there v.state.world.contexts w.level (context_of w.parent q.place.context) ≡ true) (next : q.sequence ≡ x.last + 1) (early : x.last + 1 ≤ LAST_SEQUENCE) where
  abbrev b : Both X.Row
  b = v.state

  abbrev i : Id
  i = at_level w.level q.place.number

  abbrev sent : Sent
  sent = sent_of (event_of X m p w when q) (w.arguments q) written.compound

  abbrev now : Turn Answer (Both X.Row)
  now = serving X p (event_of X m p w when q) (call_of X m p w q) (w.arguments q) written.compound b

  abbrev after : World
  after = now.state.world

  abbrev then : Seen X
  then = record { state = now.state; mine = v.mine }

  abbrev session : SessionRow
  session = (compounds.shows X m p w v when q kind written sound x is).session

  abbrev slot : SlotRow
  slot = (compounds.shows X m p w v when q kind written sound x is).slot

  there : session_at b.world.sessions i ≡ Some session
  there = (compounds.shows X m p w v when q kind written sound x is).there

  own : is_session w.owner w.level b.world session ≡ true
  own = (compounds.shows X m p w v when q kind written sound x is).own

  id : session.id ≡ i
  id = session_at-id i b.world.sessions session there

  -- ---- what the step leaves

  stands : BothStand X.Fact (site_of p).dom (begins_at w.level when.moment) b
  stands = begins X owed m p lattice w.level when.moment b sound.holds

  in_turn : written.args.sequence ≡ next_sequence slot.sequence
  in_turn =
      let last : x.last ≡ slot.sequence = ap (λ (r : Row). r.last) (compounds.shows X m p w v when q kind written sound x is).row in
      let as_sent = written.sequence in
      grind (arith, nat_tests, last, as_sent, next, early)

  abbrev used : SessionRow
  used = due.used X owed (site_of p) lattice sent written.compound w.level when.moment b written.args written.rest session slot stands written.minor written.first (compounds.names X m p w v when q kind written sound x is) (compounds.few X m p w v when q kind written sound x is) in_turn

  left : LeavesRecords b.world after
  left = due.records_now X owed (site_of p) lattice sent written.compound w.level when.moment b written.args written.rest session slot stands written.minor written.first (compounds.names X m p w v when q kind written sound x is) (compounds.few X m p w v when q kind written sound x is) in_turn

  session_now : (j : Id) → session_at after.sessions j ≡ cond (same_id j i) (Some used) (session_at b.world.sessions j)
  session_now j =
      due.session_now X owed (site_of p) lattice sent written.compound w.level when.moment b written.args written.rest session slot stands written.minor written.first (compounds.names X m p w v when q kind written sound x is) (compounds.few X m p w v when q kind written sound x is) in_turn j
      ∙ ap (λ k. cond (same_id j k) (Some used) (session_at b.world.sessions j)) id

  slot_now : slice_get used.slots 0 ≡ Some (record { sequence = written.args.sequence; kept = Some (record { arguments = w.arguments q; reply = now.answer.result }) })
  slot_now =
      ap (slice_get used.slots) (sym written.slot)
      ∙ due.slot_now X owed (site_of p) lattice sent written.compound w.level when.moment b written.args written.rest session slot stands written.minor written.first (compounds.names X m p w v when q kind written sound x is) (compounds.few X m p w v when q kind written sound x is) in_turn

  acts : is_keeping (run_all (operation X (site_of p) sent written.compound) written.compound (begins_at w.level when.moment) b).keeper ≡ true
  acts = due.acts X owed (site_of p) lattice sent written.compound w.level when.moment b written.args written.rest session slot stands written.minor written.first (compounds.names X m p w v when q kind written sound x is) (compounds.few X m p w v when q kind written sound x is) in_turn

  -- ---- the client's rows

  same_owner : (y : SessionRow) → is_session w.owner w.level after y ≡ is_session w.owner w.level b.world y
  same_owner y = owner_same w.owner (client_at after.clients (at_level w.level y.client)) (client_at b.world.clients (at_level w.level y.client)) (left.clients (at_level w.level y.client))

  record_now : (n : ℕ) → row_of w.owner w.level after Record n ≡ row_of w.owner w.level b.world Record n
  record_now n = record_same w.owner (client_at after.clients (at_level w.level n)) (client_at b.world.clients (at_level w.level n)) (left.clients (at_level w.level n))

  abbrev used_row : Row
  used_row = record { last = q.sequence; kept = Some (record { arguments = w.arguments q; reply = now.answer.result }) }

  used_shown : session_row w.owner w.level b.world (Some used) ≡ Some used_row
  used_shown =
      ap (λ (t : Bool). cond t (option_map slot_row (slice_get used.slots 0)) None) own
      ∙ ap (option_map slot_row) slot_now
      ∙ ap (λ n. Some (record { last = n; kept = Some (record { arguments = w.arguments q; reply = now.answer.result }) })) written.sequence

  row_now : (n : ℕ) → row_of w.owner w.level after Session n ≡ cond (same_id (at_level w.level n) i) (Some used_row) (row_of w.owner w.level b.world Session n)
  row_now n =
      session_same w.owner w.level after b.world same_owner (session_at after.sessions (at_level w.level n))
      ∙ ap (session_row w.owner w.level b.world) (session_now (at_level w.level n))
      ∙ at (same_id (at_level w.level n) i)
    where
      at : (t : Bool) → session_row w.owner w.level b.world (cond t (Some used) (session_at b.world.sessions (at_level w.level n))) ≡ cond t (Some used_row) (row_of w.owner w.level b.world Session n)
      at true = used_shown
      at false = refl

  -- a session that is there is the one that keeps, or was there
  is_or_was : (n : ℕ) (y : SessionRow) → session_at after.sessions (at_level w.level n) ≡ Some y → (y ≡ used) ⊎ (session_at b.world.sessions (at_level w.level n) ≡ Some y)
  is_or_was n y found = at (same_id (at_level w.level n) i) (sym (session_now (at_level w.level n)) ∙ found)
    where
      at : (t : Bool) → cond t (Some used) (session_at b.world.sessions (at_level w.level n)) ≡ Some y → (y ≡ used) ⊎ (session_at b.world.sessions (at_level w.level n) ≡ Some y)
      at true e = inl cc
      at false e = inr e

  -- ---- what is sound stays so

  step_state : (step_with X m p b (event_of X m p w when q)).state ≡ now.state
  step_state = ap (λ (s : Step (Both X.Row)). s.state) (running.step_is X m p w v when q (compounds.same_mine X m p w v when q kind written) written.compound written.request here)

  no_zero : session_at after.sessions (at_level w.level 0) ≡ None
  no_zero = session_now (at_level w.level 0) ∙ at (same_id (at_level w.level 0) i) refl
    where
      at : (t : Bool) → same_id (at_level w.level 0) i ≡ t → cond t (Some used) (session_at b.world.sessions (at_level w.level 0)) ≡ None
      at true e =
          let here : Some session ≡ None = sym there ∙ ap (session_at b.world.sessions) (sym (id_same (at_level w.level 0) i e)) ∙ sound.no_session in
          absurd cc
      at false e = sound.no_session

  owner_was : (n : ℕ) (c : ClientRow) → client_at after.clients (at_level w.level n) ≡ Some c → (d : ClientRow) × (client_at b.world.clients (at_level w.level n) ≡ Some d) × (core c ≡ core d)
  owner_was n c found =
      let was = was_there (client_at after.clients (at_level w.level n)) (client_at b.world.clients (at_level w.level n)) (left.clients (at_level w.level n)) c found in
      (was.before, was.there, was.same)

  good : IsSound X m p w then
  good = record {
    holds = subst (Holds X p) step_state (keeps X owed m p lattice (event_of X m p w when q) b sound.holds);
    numbers = subst (λ l. last_of w.level l ≤ LAST_NUMBER) (sym left.steady.last_clients) sound.numbers;
    no_client = none_there (client_at after.clients (at_level w.level 0)) (client_at b.world.clients (at_level w.level 0)) (left.clients (at_level w.level 0)) sound.no_client;
    no_session = no_zero;
    no_context = sound.no_context;
    one = λ j k c d c_there d_there c_own d_own.
        let before = owner_was j c c_there in
        let other = owner_was k d d_there in
        sound.one j k before.0 other.0 before.1 other.1 (sym (ap (λ (r : ClientRow). bytes_eq r.owner w.owner) before.2) ∙ c_own) (sym (ap (λ (r : ClientRow). bytes_eq r.owner w.owner) other.2) ∙ d_own);
    verifier = λ j c c_there c_own.
        let before = owner_was j c c_there in
        ap (λ (r : ClientRow). bytes_eq r.verifier w.verifier) before.2 ∙ sound.verifier j before.0 before.1 (sym (ap (λ (r : ClientRow). bytes_eq r.owner w.owner) before.2) ∙ c_own);
    given = λ c mine. last_same w.level c after.lasts.contexts b.world.lasts.contexts left.steady.last_contexts (sound.given c mine);
    slotted = λ n y found is_own. elim (is_or_was n y found) [
      | inl e ↦ (record { sequence = written.args.sequence; kept = Some (record { arguments = w.arguments q; reply = now.answer.result }) }, ap (λ (z : SessionRow). slice_get z.slots 0) e ∙ slot_now)
      | inr e ↦ sound.slotted n y e (sym (same_owner y) ∙ is_own)
    ];
    grants = λ n y found is_own. elim (is_or_was n y found) [
      | inl e ↦ subst (λ (z : SessionRow). (longest_request ≤ z.channel.max_request) × (most_operations ≤ z.channel.max_operations)) (sym e) (sound.grants q.place.number session there own)
      | inr e ↦ sound.grants n y e (sym (same_owner y) ∙ is_own)
    ];
  }

  -- ---- the law

  given_now : (h : Holder) (n : ℕ) → given_in w.owner w.level b.world h n → given_in w.owner w.level after h n
  given_now Record n given = (
    last_same w.level n after.lasts.clients b.world.lasts.clients left.steady.last_clients given.0,
    λ c found. let was = owner_was n c found in ap (λ (r : ClientRow). bytes_eq r.owner w.owner) was.2 ∙ given.1 was.0 was.1,
  )
  given_now Session n given = (
    last_same w.level n after.lasts.sessions b.world.lasts.sessions left.steady.last_sessions given.0,
    λ y found. same_owner y ∙ elim (is_or_was n y found) [
      | inl e ↦ ap (is_session w.owner w.level b.world) e ∙ own
      | inr e ↦ given.1 y e
    ],
  )

  met_now : (c : ℕ) → context_met X m p w v c → context_met X m p w then c
  met_now c met = elim met [
    | inl e ↦ inl e
    | inr e ↦ inr (e.0, last_same w.level c after.lasts.contexts b.world.lasts.contexts left.steady.last_contexts e.1)
  ]

  elsewhere_now : (h : Holder) (n : ℕ) (z : Row) → row_of w.owner w.level after h n ≡ Some z → (row_of w.owner w.level b.world h n ≡ Some z) ⊎ ((h ≡ holder_of q.kind) × (n ≡ q.place.number) × (z ≡ used_row))
  elsewhere_now Record n z found = inl (sym (record_now n) ∙ found)
  elsewhere_now Session n z found = at (same_id (at_level w.level n) i) refl (sym (row_now n) ∙ found)
    where
      at : (t : Bool) → same_id (at_level w.level n) i ≡ t → cond t (Some used_row) (row_of w.owner w.level b.world Session n) ≡ Some z → (row_of w.owner w.level b.world Session n ≡ Some z) ⊎ ((Session ≡ holder_of q.kind) × (n ≡ q.place.number) × (z ≡ used_row))
      at true e found = inr (sym (ap holder_of kind), ap (λ (k : Id). k.number) (id_same (at_level w.level n) i e), cc)
      at false e found = inl found

  abbrev turn : Served (Seen X) (Option (List ℕ))
  turn = record { state = then; reply = Some (answer_text m (w.wrapping q) q.xid now.answer.result); acts = true }

  new : IsNew (rows X m p w) v q turn
  new = record {
    acts = refl;
    good = good;
    grows = given_now;
    grows_contexts = met_now;
    contexts = λ c. ap (λ cs. c == 0 || (is_mine v.mine c && has_context cs w.level w.parent c)) left.steady.contexts;
    used = used_row;
    at = subst (λ k. row_of w.owner w.level after (holder_of k) q.place.number ≡ Some used_row) (sym kind) (row_now q.place.number ∙ ap (λ t. cond t (Some used_row) (row_of w.owner w.level b.world Session q.place.number)) (id_itself i));
    moved = refl;
    keeps = (now.answer.result, refl, refl);
    elsewhere = λ h n z given found. elim (elsewhere_now h n z found) [
      | inl e ↦ inl e
      | inr e ↦ inr (e.0, e.1)
    ];
    new = λ h n z found. elim (elsewhere_now h n z found) [
      | inl e ↦ inl e
      | inr e ↦ inr (inr e.2)
    ];
    made = λ number create told. let no : Compound ≡ Create = sym kind ∙ create in absurd cc;
  }

  served : serve X m p w v when q ≡ turn
  served = λ k. record {
    state = record { state = step_state k; mine = compounds.same_mine X m p w v when q kind written (last_of w.level v.state.world.lasts.contexts) (last_of w.level (step_with X m p v.state (event_of X m p w when q)).state.world.lasts.contexts) k };
    reply = running.reply_is X m p w v when q (compounds.same_mine X m p w v when q kind written) written.compound written.request here k;
    acts = (running.acts_is X m p w v when q (compounds.same_mine X m p w v when q kind written) written.compound written.request ∙ ap (λ t. t && is_keeping (run_all (operation X (site_of p) sent written.compound) written.compound (begins_at w.level when.moment) b).keeper) here ∙ acts) k;
  }

  pub due_compound : IsNew (rows X m p w) v q (serve X m p w v when q)
  due_compound = subst (IsNew (rows X m p w) v q) (sym served) new
