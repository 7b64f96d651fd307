-- The law of events of others: one that names nothing of the client's leaves its rows and contexts, and makes nothing more of it.
use Rattle.std.proofs.Common.{◌≡◌, ◌⊎◌, inl, inr, ℕ, ◌+◌, ◌≤◌, Bool, true, false, cond, not, ◌&&◌, ◌||◌, List, ◌∷◌, Option, Some, None, refl, sym, ap, ◌∙◌, subst, arith}
use Rattle.std.specs.Prelude.{◌==◌, slice_get}
use Rattle.std.specs.List.{list_any}
use Rattle.std.specs.Option.{option_map}
use Rattle.std.specs.Str.{bytes_eq}
use Rattle.std.proofs.lemmas.Bool.Decides.{nat_tests}
use Rattle.lnfs_calipso.specs.Label.{IsPreorderWithBottom}
use Rattle.lnfs_types.specs.declared.event.Event.{Event}
use Rattle.lnfs_arguments.specs.declared.types.Op.{Op}
use Rattle.lnfs_arguments.specs.declared.types.Op.TheVariants as ops
use Rattle.lnfs_arguments.specs.declared.types.Compound.{Compound}
use Rattle.lnfs_policy.specs.Policy.{Policy, dominance}
use Rattle.lnfs_world.specs.World.{Id, Client as ClientRow, Session as SessionRow, World, same_id, client_at, session_at, last_of}
use Rattle.lnfs_world.specs.Change.{AddContext, DropContext, apply}
use Rattle.lnfs_world.specs.Outcome.{begins_at, done_to}
use Rattle.lnfs_world.specs.Both.{Both}
use Rattle.lnfs_world.specs.declared.numbers.TheConstants.{LAST_NUMBER}
use Rattle.lnfs_world.proofs.Keys.{id_same}
use Rattle.lnfs_operations.specs.Extra.{Extra, AreLawful}
use Rattle.lnfs_operations.specs.Identifiers.{client_named, session_named}
use Rattle.lnfs_gss3.specs.Contexts.{lists_of, new_context, is_under, context_at, has_context}
use Rattle.lnfs_gss3.specs.Grammar.{Assertion}
use Rattle.lnfs_gss3.specs.Mechanism.{Signing}
use Rattle.lnfs_site.specs.Site.{site_of}
use Rattle.lnfs_step.specs.Request.{Call, Task, Garbled, Run, MakeContext, EndContext, Request, Silent, Refused, Nothing, Asked, request_with}
use Rattle.lnfs_step.specs.Contexts.{is_there, make_context}
use Rattle.lnfs_step.specs.Step.{Step, done_for, step_of, step_with, sent_of}
use Rattle.lnfs_step.proofs.StepBounds.{step_tame}
use Rattle.lnfs_step.proofs.Steps.{chosen_any, begins, keeps}
use Rattle.lnfs_once.specs.Laws.{Holder, Record, Session, IsKept, IsGentle}
use Rattle.lnfs_slots.specs.OneClient.{Seen, Row, Writer, at_level, slot_row, is_owner, is_session, is_absent, row_of, session_row, given_in, is_mine, names_client, names_session, names_in, comes_in, names_as, others, context_there, context_met, IsSound, rows}
use Rattle.lnfs_slots.specs.SlotLaws.{AreOthersApart}
use Rattle.lnfs_slots.proofs.Apart.{own, own_session, IsApart, IsStrange, owner_as, record_as, session_as}
use Rattle.lnfs_slots.proofs.Behind.{core}
use Rattle.lnfs_slots.proofs.Contexts.{context_at-dropped, context_at-inserted, made_world, made_state}
use Rattle.lnfs_slots.proofs.Others.{Spares, served_apart}
use Rattle.lnfs_slots.proofs.Tidy.{same_tidy, same_gentle, tidy_gentle}

-- where none passes a test, the first fails it
first_fails : {Y : Type 0} (test : Y → Bool) (y : Y) (ys : List Y) → list_any test (y ∷ ys) ≡ false → test y ≡ false
first_fails test y ys e = grind (arith, e)

absent_row : (r : Option Row) → not (is_absent r) ≡ false → r ≡ None
absent_row None e = refl
absent_row (Some r) e = absurd (grind arith)

module _ (owner : List ℕ) (level : ℕ) where
  pub record WasOwn (c : ClientRow) (o : Option ClientRow) : Type 0 where
    pub before : ClientRow
    pub there : o ≡ Some before
    pub own_too : bytes_eq before.owner owner ≡ true
    pub same : core c ≡ core before

  -- an owner's record that is there was there
  own_was : (a o : Option ClientRow) → own owner level a ≡ own owner level o → (c : ClientRow) → a ≡ Some c → bytes_eq c.owner owner ≡ true → WasOwn c o
  own_was a o e c is mine = at o refl
    where
      shows : Some (core c) ≡ own owner level o
      shows = sym (ap (own owner level) is ∙ ap (λ t. cond t (Some (core c)) None) mine) ∙ e

      of : (d : ClientRow) → o ≡ Some d → (t : Bool) → bytes_eq d.owner owner ≡ t → WasOwn c o
      of d there true f =
          let both : Some (core c) ≡ Some (core d) = shows ∙ ap (own owner level) there ∙ ap (λ t. cond t (Some (core d)) None) f in
          record { before = d; there = there; own_too = f; same = cc }
      of d there false f =
          let both : Some (core c) ≡ None = shows ∙ ap (own owner level) there ∙ ap (λ t. cond t (Some (core d)) None) f in
          absurd cc

      at : (x : Option ClientRow) → o ≡ x → WasOwn c o
      at None there = let both : Some (core c) ≡ None = shows ∙ ap (own owner level) there in absurd cc
      at (Some d) there = of d there (bytes_eq d.owner owner) refl

  -- so was an owner's session
  session_was : (u w : World) (o : Option SessionRow) (y : SessionRow) → own_session owner level u (Some y) ≡ own_session owner level w o → is_session owner level u y ≡ true → (o ≡ Some y) × (is_session owner level w y ≡ true)
  session_was u w o y e mine = at o refl
    where
      shows : Some y ≡ own_session owner level w o
      shows = sym (ap (λ t. cond t (Some y) None) mine) ∙ e

      of : (z : SessionRow) → o ≡ Some z → (t : Bool) → is_session owner level w z ≡ t → (o ≡ Some y) × (is_session owner level w y ≡ true)
      of z there true f =
          let both : Some y ≡ Some z = shows ∙ ap (own_session owner level w) there ∙ ap (λ t. cond t (Some z) None) f in
          let same : z ≡ y = cc in
          (there ∙ ap Some same, ap (is_session owner level w) (sym same) ∙ f)
      of z there false f =
          let both : Some y ≡ None = shows ∙ ap (own_session owner level w) there ∙ ap (λ t. cond t (Some z) None) f in
          absurd cc

      at : (x : Option SessionRow) → o ≡ x → (o ≡ Some y) × (is_session owner level w y ≡ true)
      at None there = let both : Some y ≡ None = shows ∙ ap (own_session owner level w) there in absurd cc
      at (Some z) there = of z there (is_session owner level w z) refl

  -- a session that takes the place of an owner's is the owner's
  session_stays : (u w : World) (y z : SessionRow) → own_session owner level u (Some y) ≡ own_session owner level w (Some z) → is_session owner level w z ≡ true → is_session owner level u y ≡ true
  session_stays u w y z e mine = at (is_session owner level u y) refl
    where
      at : (t : Bool) → is_session owner level u y ≡ t → is_session owner level u y ≡ true
      at true f = f
      at false f =
          let both : None ≡ Some z = sym (ap (λ t. cond t (Some y) None) f) ∙ e ∙ ap (λ t. cond t (Some z) None) mine in
          absurd cc

module _ (X : Extra) (owed : AreLawful X) (m : Signing) (p : Policy) (lattice : IsPreorderWithBottom (dominance p)) {A : Type 0} (w : Writer A) (v : Seen X) (e : Event) (sound : IsSound X m p w v) where
  abbrev b : Both X.Row
  b = v.state

  -- what an event leaves
  record IsBeside (u : World) : Type 0 where
    records : (n : ℕ) → own w.owner w.level (client_at u.clients (at_level w.level n)) ≡ own w.owner w.level (client_at b.world.clients (at_level w.level n))
    sessions : (n : ℕ) → own_session w.owner w.level u (session_at u.sessions (at_level w.level n)) ≡ own_session w.owner w.level b.world (session_at b.world.sessions (at_level w.level n))
    contexts : (c : ℕ) → is_mine v.mine c ≡ true → has_context u.contexts w.level w.parent c ≡ has_context b.world.contexts w.level w.parent c
    absent : (n : ℕ) → n ≤ last_of w.level b.world.lasts.clients → client_at b.world.clients (at_level w.level n) ≡ None → client_at u.clients (at_level w.level n) ≡ None
    absent_session : (n : ℕ) → n ≤ last_of w.level b.world.lasts.sessions → session_at b.world.sessions (at_level w.level n) ≡ None → session_at u.sessions (at_level w.level n) ≡ None
    numbers : last_of w.level u.lasts.clients ≤ LAST_NUMBER

  same_beside : IsBeside b.world
  same_beside = record { records = λ n. refl; sessions = λ n. refl; contexts = λ c mine. refl; absent = λ n below gone. gone; absent_session = λ n below gone. gone; numbers = sound.numbers }

  of_apart : (u : World) → IsApart w.owner w.level b.world u → IsBeside u
  of_apart u apart = record {
    records = apart.records;
    sessions = apart.sessions;
    contexts = λ c mine. ap (λ cs. has_context cs w.level w.parent c) apart.contexts;
    absent = apart.absent;
    absent_session = apart.absent_session;
    numbers = apart.numbers sound.numbers;
  }

  -- where contexts alone change
  of_contexts : (u : World) → u.clients ≡ b.world.clients → u.sessions ≡ b.world.sessions → u.lasts.clients ≡ b.world.lasts.clients → ((c : ℕ) → is_mine v.mine c ≡ true → has_context u.contexts w.level w.parent c ≡ has_context b.world.contexts w.level w.parent c) → IsBeside u
  of_contexts u clients sessions lasts contexts = record {
    records = λ n. ap (λ cs. own w.owner w.level (client_at cs (at_level w.level n))) clients;
    sessions = λ n. sessions_as n;
    contexts = contexts;
    absent = λ n below gone. ap (λ cs. client_at cs (at_level w.level n)) clients ∙ gone;
    absent_session = λ n below gone. ap (λ ss. session_at ss (at_level w.level n)) sessions ∙ gone;
    numbers = subst (λ l. last_of w.level l ≤ LAST_NUMBER) (sym lasts) sound.numbers;
  }
    where
      of_client : (o : Option SessionRow) → own_session w.owner w.level u o ≡ own_session w.owner w.level b.world o
      of_client None = refl
      of_client (Some y) = ap (λ cs. cond (is_owner w.owner (client_at cs (at_level w.level y.client))) (Some y) None) clients

      sessions_as : (n : ℕ) → own_session w.owner w.level u (session_at u.sessions (at_level w.level n)) ≡ own_session w.owner w.level b.world (session_at b.world.sessions (at_level w.level n))
      sessions_as n = ap (λ ss. own_session w.owner w.level u (session_at ss (at_level w.level n))) sessions ∙ of_client (session_at b.world.sessions (at_level w.level n))

  -- ---- what a COMPOUND names

  -- a session that shows no row isn't the owner's
  unshown : (n : ℕ) → row_of w.owner w.level b.world Session n ≡ None → own_session w.owner w.level b.world (session_at b.world.sessions (at_level w.level n)) ≡ None
  unshown n none = at (session_at b.world.sessions (at_level w.level n)) refl
    where
      of : (y : SessionRow) → session_at b.world.sessions (at_level w.level n) ≡ Some y → (t : Bool) → is_session w.owner w.level b.world y ≡ t → own_session w.owner w.level b.world (Some y) ≡ None
      of y there false f = ap (λ t. cond t (Some y) None) f
      of y there true f =
          let slot = sound.slotted n y there f in
          let shows : row_of w.owner w.level b.world Session n ≡ Some (slot_row slot.0) =
          ap (session_row w.owner w.level b.world) there
          ∙ ap (λ (t : Bool). cond t (option_map slot_row (slice_get y.slots 0)) None) f
          ∙ ap (option_map slot_row) slot.1 in
          let both : Some (slot_row slot.0) ≡ None = sym shows ∙ none in
          absurd cc

      at : (o : Option SessionRow) → session_at b.world.sessions (at_level w.level n) ≡ o → own_session w.owner w.level b.world (session_at b.world.sessions (at_level w.level n)) ≡ None
      at None f = ap (own_session w.owner w.level b.world) f
      at (Some y) f = ap (own_session w.owner w.level b.world) f ∙ of y f (is_session w.owner w.level b.world y) refl

  strange_client : (i : Id) → names_client X m p w b.world i ≡ false → IsStrange w.owner w.level b.world i
  strange_client i named own_level =
      let tested : (i.level == w.level) ≡ true = grind (arith, nat_tests, own_level) in
      sym (ap (λ t. t && is_owner w.owner (client_at b.world.clients i)) tested) ∙ named

  strange_session : (i : Id) → names_session X m p w b.world i ≡ false → i.level ≡ w.level → own_session w.owner w.level b.world (session_at b.world.sessions i) ≡ None
  strange_session i named own_level =
      let tested : (i.level == w.level) ≡ true = grind (arith, nat_tests, own_level) in
      let absent = absent_row (row_of w.owner w.level b.world Session i.number) (sym (ap (λ t. t && not (is_absent (row_of w.owner w.level b.world Session i.number))) tested) ∙ named) in
      let same : i ≡ at_level w.level i.number = (λ k. record { level = own_level k; number = i.number }) in
      ap (λ j. own_session w.owner w.level b.world (session_at b.world.sessions j)) same ∙ unshown i.number absent

  spares : (subject : ℕ) (op : Op) → (subject ≡ w.level → names_in X m p w b.world op ≡ false) → Spares w.owner w.level subject b.world op
  spares subject (ops.ExchangeId verifier name flags implementation) named = named
  spares subject (ops.CreateSession args) named = λ of_subject own_level. strange_client (client_named args.client) (named (sym of_subject ∙ own_level)) own_level
  spares subject (ops.DestroyClientId client) named = λ of_subject own_level. strange_client (client_named client) (named (sym of_subject ∙ own_level)) own_level
  spares subject (ops.DestroySession session) named = λ of_subject own_level. strange_session (session_named session) (named (sym of_subject ∙ own_level)) own_level
  spares subject (ops.Sequence args) named = λ of_subject own_level. strange_session (session_named args.session) (named (sym of_subject ∙ own_level)) own_level
  spares subject op named = tt

  -- ---- the step

  none_named : (call : Call) (c : Compound) → (call.level == w.level && (comes_in X m p w v.mine call.context || list_any (names_in X m p w b.world) c.ops)) ≡ false → call.level ≡ w.level → list_any (names_in X m p w b.world) c.ops ≡ false
  none_named call c named own_level =
      let tested : (call.level == w.level) ≡ true = grind (arith, nat_tests, own_level) in
      grind (arith, named, tested)

  run_beside : (call : Call) (arguments : List ℕ) (c : Compound) → (call.level == w.level && (comes_in X m p w v.mine call.context || list_any (names_in X m p w b.world) c.ops)) ≡ false → IsBeside (done_for X m p b e call (Run arguments c)).state.world
  run_beside call arguments c named = of_apart _
      (served_apart X owed (site_of p) lattice (sent_of e arguments c) c w.owner w.level call.level e.moment b (begins X owed m p lattice call.level e.moment b sound.holds) (λ op rest is.
      spares call.level op (λ own_level. first_fails (names_in X m p w b.world) op rest (sym (ap (list_any (names_in X m p w b.world)) is) ∙ none_named call c named own_level))))

  make_beside : (call : Call) (parent : ℕ) (assertion : Assertion) → IsBeside (done_for X m p b e call (MakeContext parent assertion)).state.world
  make_beside call parent assertion =
      subst (λ (a : Both X.Row). IsBeside a.world) (sym (made_state X m p b e call parent assertion)) (at (made_world parent (begins_at call.level e.moment) b.world))
    where
      new_apart : (c : ℕ) → c ≤ last_of w.level b.world.lasts.contexts → (t : Bool) → same_id (at_level w.level c) (new_context (lists_of b.world) call.level parent).id ≡ t → same_id (at_level w.level c) (new_context (lists_of b.world) call.level parent).id ≡ false
      new_apart c below false f = f
      new_apart c below true f =
          let same : at_level w.level c ≡ (new_context (lists_of b.world) call.level parent).id = id_same (at_level w.level c) (new_context (lists_of b.world) call.level parent).id f in
          let number : c ≡ last_of call.level b.world.lasts.contexts + 1 = ap (λ (i : Id). i.number) same in
          let own : last_of call.level b.world.lasts.contexts ≡ last_of w.level b.world.lasts.contexts = ap (λ l. last_of l b.world.lasts.contexts) (sym (ap (λ (i : Id). i.level) same)) in
          absurd (omega (arith, number, own, below))

      contexts_as : (c : ℕ) → is_mine v.mine c ≡ true → has_context (apply (AddContext (new_context (lists_of b.world) call.level parent)) b.world).contexts w.level w.parent c ≡ has_context b.world.contexts w.level w.parent c
      contexts_as c mine =
          ap (is_under w.parent) (context_at-inserted (new_context (lists_of b.world) call.level parent) b.world.contexts (at_level w.level c)
          ∙ ap (λ t. cond t (Some (new_context (lists_of b.world) call.level parent)) (context_at b.world.contexts (at_level w.level c))) (new_apart c (sound.given c mine) (same_id (at_level w.level c) (new_context (lists_of b.world) call.level parent).id) refl))

      at : (done_to b.world (make_context parent (begins_at call.level e.moment) b.world) ≡ b.world) ⊎ (done_to b.world (make_context parent (begins_at call.level e.moment) b.world) ≡ apply (AddContext (new_context (lists_of b.world) call.level parent)) b.world) → IsBeside (done_to b.world (make_context parent (begins_at call.level e.moment) b.world))
      at (inl same) = subst IsBeside (sym same) same_beside
      at (inr more) = subst IsBeside (sym more) (of_contexts (apply (AddContext (new_context (lists_of b.world) call.level parent)) b.world) refl refl refl contexts_as)

  end_beside : (call : Call) (number : ℕ) → (call.level == w.level && is_mine v.mine number) ≡ false → IsBeside (done_for X m p b e call (EndContext number)).state.world
  end_beside call number named = of_contexts (apply (DropContext (record { level = call.level; number = number })) b.world) refl refl refl contexts_as
    where
      apart : (c : ℕ) → is_mine v.mine c ≡ true → (t : Bool) → same_id (at_level w.level c) (record { level = call.level; number = number }) ≡ t → same_id (at_level w.level c) (record { level = call.level; number = number }) ≡ false
      apart c mine false f = f
      apart c mine true f =
          let same : at_level w.level c ≡ record { level = call.level; number = number } = id_same (at_level w.level c) (record { level = call.level; number = number }) f in
          let level : (call.level == w.level) ≡ true = let l : w.level ≡ call.level = ap (λ (i : Id). i.level) same in grind (arith, nat_tests, l) in
          let mine_too : is_mine v.mine number ≡ true = ap (is_mine v.mine) (sym (ap (λ (i : Id). i.number) same)) ∙ mine in
          absurd (grind (arith, named, level, mine_too))

      contexts_as : (c : ℕ) → is_mine v.mine c ≡ true → has_context (apply (DropContext (record { level = call.level; number = number })) b.world).contexts w.level w.parent c ≡ has_context b.world.contexts w.level w.parent c
      contexts_as c mine =
          ap (is_under w.parent) (context_at-dropped (record { level = call.level; number = number }) b.world.contexts (at_level w.level c)
          ∙ ap (λ t. cond t None (context_at b.world.contexts (at_level w.level c))) (apart c mine (same_id (at_level w.level c) (record { level = call.level; number = number })) refl))

  task_beside : (call : Call) (task : Task) → names_as X m p w v (Asked call task) ≡ false → IsBeside (done_for X m p b e call task).state.world
  task_beside call Garbled named = same_beside
  task_beside call (Run arguments c) named = run_beside call arguments c named
  task_beside call (MakeContext parent assertion) named = make_beside call parent assertion
  task_beside call (EndContext number) named = end_beside call number named

  request_beside : (r : Request) → names_as X m p w v r ≡ false → IsBeside (step_of X m p b e r).state.world
  request_beside Silent named = same_beside
  request_beside (Refused xid wrapping cause) named = same_beside
  request_beside (Nothing xid) named = same_beside
  request_beside (Asked call task) named = chosen_any (λ (s : Step (Both X.Row)). IsBeside s.state.world) (is_there b.world.contexts call.level call.context) _ _ (task_beside call task named) same_beside

  event_beside : names_as X m p w v (request_with X.grammar m p e.class e.message) ≡ false → IsBeside (step_with X m p b e).state.world
  unfolding step_with
  event_beside named = request_beside (request_with X.grammar m p e.class e.message) named

  -- ---- the law

  abbrev then : Seen X
  then = record { state = (step_with X m p b e).state; mine = v.mine }

  abbrev u : World
  u = (step_with X m p b e).state.world

  module _ (beside : IsBeside u) where
    clients_rise : last_of w.level b.world.lasts.clients ≤ last_of w.level u.lasts.clients
    clients_rise = ((step_tame X owed m p lattice e b sound.holds).lasts w.level).clients

    sessions_rise : last_of w.level b.world.lasts.sessions ≤ last_of w.level u.lasts.sessions
    sessions_rise = ((step_tame X owed m p lattice e b sound.holds).lasts w.level).sessions

    contexts_rise : last_of w.level b.world.lasts.contexts ≤ last_of w.level u.lasts.contexts
    contexts_rise = ((step_tame X owed m p lattice e b sound.holds).lasts w.level).contexts

    was : (n : ℕ) (c : ClientRow) → client_at u.clients (at_level w.level n) ≡ Some c → bytes_eq c.owner w.owner ≡ true → WasOwn w.owner w.level c (client_at b.world.clients (at_level w.level n))
    was n c there mine = own_was w.owner w.level (client_at u.clients (at_level w.level n)) (client_at b.world.clients (at_level w.level n)) (beside.records n) c there mine

    session_before : (n : ℕ) (y : SessionRow) → session_at u.sessions (at_level w.level n) ≡ Some y → is_session w.owner w.level u y ≡ true → (session_at b.world.sessions (at_level w.level n) ≡ Some y) × (is_session w.owner w.level b.world y ≡ true)
    session_before n y there mine = session_was w.owner w.level u b.world (session_at b.world.sessions (at_level w.level n)) y (ap (own_session w.owner w.level u) (sym there) ∙ beside.sessions n) mine

    row_same : (h : Holder) (n : ℕ) → row_of w.owner w.level u h n ≡ row_of w.owner w.level b.world h n
    row_same Record n = record_as w.owner w.level (client_at u.clients (at_level w.level n)) (client_at b.world.clients (at_level w.level n)) (beside.records n)
    row_same Session n = session_as w.owner w.level u b.world (session_at u.sessions (at_level w.level n)) (session_at b.world.sessions (at_level w.level n)) (beside.sessions n)

    there_same : (c : ℕ) → context_met X m p w v c → context_there X m p w then c ≡ context_there X m p w v c
    there_same c met = elim met [
      | inl zero ↦ (let is : (c == 0) ≡ true = grind (arith, nat_tests, zero) in ap (λ t. t || (is_mine v.mine c && has_context u.contexts w.level w.parent c)) is ∙ sym (ap (λ t. t || (is_mine v.mine c && has_context b.world.contexts w.level w.parent c)) is))
      | inr mine ↦ ap (λ t. c == 0 || (is_mine v.mine c && t)) (beside.contexts c mine.0)
    ]

    good : IsSound X m p w then
    good = record {
      holds = keeps X owed m p lattice e b sound.holds;
      numbers = beside.numbers;
      no_client = beside.absent 0 (omega arith) sound.no_client;
      no_session = beside.absent_session 0 (omega arith) sound.no_session;
      no_context = sound.no_context;
      one = λ j k c d c_there d_there c_own d_own.
          let before = was j c c_there c_own in
          let other = was k d d_there d_own in
          sound.one j k before.before other.before before.there other.there before.own_too other.own_too;
      verifier = λ n c there mine.
          let before = was n c there mine in
          ap (λ (r : ClientRow). bytes_eq r.verifier w.verifier) before.same ∙ sound.verifier n before.before before.there before.own_too;
      given = λ c mine. let below = sound.given c mine in let rises = contexts_rise in omega arith;
      slotted = λ n y there mine. let before = session_before n y there mine in sound.slotted n y before.0 before.1;
      grants = λ n y there mine. let before = session_before n y there mine in sound.grants n y before.0 before.1;
    }

    grows_now : (h : Holder) (n : ℕ) → given_in w.owner w.level b.world h n → given_in w.owner w.level u h n
    grows_now Record n given = (
      let below = given.0 in let rises = clients_rise in omega arith,
      λ c there. at (client_at b.world.clients (at_level w.level n)) refl c there,
    )
      where
        at : (o : Option ClientRow) → client_at b.world.clients (at_level w.level n) ≡ o → (c : ClientRow) → client_at u.clients (at_level w.level n) ≡ Some c → bytes_eq c.owner w.owner ≡ true
        at None f c there = let both : Some c ≡ None = sym there ∙ beside.absent n given.0 f in absurd cc
        at (Some d) f c there =
            ap (is_owner w.owner) (sym there)
            ∙ owner_as w.owner w.level (client_at u.clients (at_level w.level n)) (client_at b.world.clients (at_level w.level n)) (beside.records n)
            ∙ ap (is_owner w.owner) f ∙ given.1 d f
    grows_now Session n given = (
      let below = given.0 in let rises = sessions_rise in omega arith,
      λ y there. at (session_at b.world.sessions (at_level w.level n)) refl y there,
    )
      where
        at : (o : Option SessionRow) → session_at b.world.sessions (at_level w.level n) ≡ o → (y : SessionRow) → session_at u.sessions (at_level w.level n) ≡ Some y → is_session w.owner w.level u y ≡ true
        at None f y there = let both : Some y ≡ None = sym there ∙ beside.absent_session n given.0 f in absurd cc
        at (Some z) f y there = session_stays w.owner w.level u b.world y z (ap (own_session w.owner w.level u) (sym there) ∙ beside.sessions n ∙ ap (own_session w.owner w.level b.world) f) (given.1 z f)

    met_now : (c : ℕ) → context_met X m p w v c → context_met X m p w then c
    met_now c met = elim met [
      | inl zero ↦ inl zero
      | inr mine ↦ inr (mine.0, let below = mine.1 in let rises = contexts_rise in omega arith)
    ]

    kept : IsKept (rows X m p w) v then
    kept = record {
      good = good;
      grows = grows_now;
      grows_contexts = met_now;
      stays = λ h n x given is. sym (row_same h n) ∙ is;
      new = λ h n x is. inl (sym (row_same h n) ∙ is);
      ends = λ c met gone. there_same c met ∙ gone;
    }

    gentle : IsGentle (rows X m p w) v then
    gentle = record {
      kept = kept;
      sessions = λ n given gone. sym (row_same Session n) ∙ gone;
      contexts = λ c met there. there_same c met ∙ there;
      records = λ q x r session create is keeps told gone. let both : Some x ≡ None = sym is ∙ sym (row_same Record q.place.number) ∙ gone in absurd cc;
    }

  abbrev Law : Seen X → Type 0
  Law t = IsGentle (rows X m p w) v t × ((h : Holder) (n : ℕ) (x : Row) → row_of w.owner w.level t.state.world h n ≡ Some x → row_of w.owner w.level b.world h n ≡ Some x)

  others_law : Law (others X m p w v e)
  others_law = at (names_as X m p w v (request_with X.grammar m p e.class e.message)) refl
    where
      at : (t : Bool) → names_as X m p w v (request_with X.grammar m p e.class e.message) ≡ t → Law (cond t v (record v { state = (step_with X m p b e).state }))
      at true named = (tidy_gentle X m p w v v sound (same_tidy X m p w v sound) (same_gentle X m p w v), λ h n x is. is)
      at false named = (gentle (event_beside named), λ h n x is. sym (row_same (event_beside named) h n) ∙ is)

pub others_apart : (X : Extra) → AreLawful X → (m : Signing) (p : Policy) → IsPreorderWithBottom (dominance p) → {A : Type 0} (w : Writer A) → AreOthersApart X m p w
others_apart X owed m p lattice w v e sound = others_law X owed m p lattice w v e sound
