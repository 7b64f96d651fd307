-- Over every schedule nothing of such a client acts.
use Rattle.std.proofs.Common.{◌≡◌, ◌⊎◌, inl, inr, ℕ, ◌+◌, ◌≤◌, ◌<◌, ◌^◌, ◌==◌, Bool, true, false, cond, ◌&&◌, ◌||◌, List, [], ◌∷◌, replicate, Option, Some, None, refl, sym, ap, ◌∙◌, subst, arith}
use Rattle.std.specs.Prelude.{IfSome, nat_lt, is_none, not}
use Rattle.std.proofs.lemmas.Bool.{and_parts, ltb-true, eqb-true}
use Rattle.lnfs_arguments.specs.declared.types.Op.{Op}
use Rattle.lnfs_policy.specs.Policy.{Policy}
use Rattle.lnfs_gss3.specs.Mechanism.{Signing}
use Rattle.lnfs_answers.specs.declared.request.Heard.{Heard}
use Rattle.lnfs_answers.specs.declared.request.Heard.TheVariants as heards
use Rattle.lnfs_answers.specs.Replies.{heard}
use Rattle.lnfs_rpc.specs.Replies as rpc
use Rattle.lnfs_script.specs.declared.action.Action.{Action}
use Rattle.lnfs_script.specs.declared.action.Action.TheVariants as actions
use Rattle.lnfs_asking.specs.declared.sent.Sent.{Sent}
use Rattle.lnfs_client.specs.declared.known.Known.{Known}
use Rattle.lnfs_client.specs.declared.known.Running.{Running}
use Rattle.lnfs_client.specs.declared.stage.Stage.{Stage}
use Rattle.lnfs_client.specs.Stages.{first_stage}
use Rattle.lnfs_client.specs.Machine.{begun, is_mount, awaited, may_ask_in, may_ask, request_in, asked, next, turn_by, turn, heard_in, heard_by, asked_of, spent}
use Rattle.lnfs_client.specs.Runs.{may_begin, most_requests}
use Rattle.lnfs_operations.specs.Extra.{Extra}
use Rattle.lnfs_step.specs.Wrapping.{Plain, caller, refusal_text}
use Rattle.lnfs_step.specs.Request.{Request, Refused, request_with}
use Rattle.lnfs_step.specs.Step.{step_of, step_with}
use Rattle.lnfs_once.specs.Client.{Kind, Assert, Exchange, Packet, Tells}
use Rattle.lnfs_once.specs.Schedule.{Reply, nth, posted as sends, noted, count, is_owed_at, is_result, ActsOnce}
use Rattle.lnfs_once.proofs.Told.{newest_or}
use Rattle.lnfs_slots.specs.OneClient.{Seen, When, Writer, event_of, keeps_in, serve}
use Rattle.lnfs_retries.specs.Packets.{Setting, client_writer}
use Rattle.lnfs_retries.specs.Schedule.{packet_in, packet_for, Deed, ClientState, ClientTurn, Begin, Next, Resend, Arrive, Return, Others, server_of, asks, arrives, returns, client_after, is_taken, client_happens, client_run, client_start, seen_state}
use Rattle.lnfs_retries.proofs.Heard.{denies}
use Rattle.lnfs_retries.proofs.Openings.{SaidFits}
use Rattle.lnfs_retries.proofs.Shapes.{other_heard}

-- asks for a context, or for a client id
abbrev pub IsFirst : Kind → Type 0
IsFirst k = (k ≡ Assert) ⊎ (k ≡ Exchange)

module _ (X : Extra) (m : Signing) (p : Policy) (s : Setting) (level : ℕ) (kind : Kind) (first : IsFirst kind) (stage : Stage) where
  -- the only request that such a client makes
  abbrev pub only : ℕ → Packet (List Op)
  only xid = record { xid = xid; kind = kind; place = record { context = 0; number = 0 }; sequence = 0; payload = [] }

  abbrev w : Writer (List Op)
  w = client_writer X m p s level

  abbrev At : Type 0
  At = ClientState X m p s level

  abbrev Given : Type 0
  Given = Reply (List Op) (Option (List ℕ))

  module _ (stat : ℕ) (stat_fits : stat < 2 ^ 32) (refused : (xid : ℕ) → xid < 2 ^ 32 → request_with X.grammar m p s.class (w.text (only xid)) ≡ Refused xid Plain (caller stat)) (made : (k : Known) (r : Running) → r.stage ≡ stage → k.context ≡ replicate 16 0 → packet_for p k r ≡ only (k.sent + 1)) (begins : (k : Known) → k.identity ≡ s.who → first_stage k.identity actions.Mount ≡ stage) (spends : (k : Known) → spent stage k ≡ k) where
    -- ---- the client

    abbrev InFirst : Option Running → Type 0
    InFirst None = Unit {0}
    InFirst (Some r) = r.stage ≡ stage

    pub record Waiting (k : Known) : Type 0 where
      pub identity : k.identity ≡ s.who
      pub context : k.context ≡ replicate 16 0
      pub mounted : k.mounted ≡ false
      pub running : InFirst k.running
      pub few : k.sent ≤ most_requests

    -- a request of such a client
    abbrev IsIts : (sent : ℕ) → Packet (List Op) → Type 0
    IsIts sent q = (q ≡ only q.xid) × (q.xid ≤ sent)

    pub record Alone (t : At) : Type 0 where
      pub client : Waiting t.client
      pub waits : IfSome t.waits_for (IsIts t.client.sent)
      pub sent : (j : ℕ) (q : Packet (List Op)) → nth t.sent j ≡ Some q → IsIts t.client.sent q
      pub given : (j : ℕ) (g : Given) → nth t.given j ≡ Some g → (g.packet.xid < 2 ^ 32) × (g.outcome ≡ Some (refusal_text m Plain g.packet.xid (caller stat)))
      pub acts : t.acts ≡ []
      pub taken : (j : ℕ) (g : Given) → nth t.taken j ≡ Some g → g.packet.kind ≡ kind

    mount_alone : (k : Known) (action : Action) → k.mounted ≡ false → (is_mount action || k.mounted) ≡ true → action ≡ actions.Mount
    mount_alone k actions.Mount none may = refl
    mount_alone k (actions.List path) none may = absurd (let no : false ≡ true = sym none ∙ may in cc)
    mount_alone k (actions.Read path offset count) none may = absurd (let no : false ≡ true = sym none ∙ may in cc)
    mount_alone k (actions.Write path offset content) none may = absurd (let no : false ≡ true = sym none ∙ may in cc)
    mount_alone k (actions.Make path) none may = absurd (let no : false ≡ true = sym none ∙ may in cc)
    mount_alone k (actions.Mkdir path level) none may = absurd (let no : false ≡ true = sym none ∙ may in cc)
    mount_alone k (actions.Remove path) none may = absurd (let no : false ≡ true = sym none ∙ may in cc)
    mount_alone k (actions.Raise path level) none may = absurd (let no : false ≡ true = sym none ∙ may in cc)
    mount_alone k actions.Leave none may = absurd (let no : false ≡ true = sym none ∙ may in cc)

    nothing : (b : Bool) → (b && false) ≡ false
    nothing true = refl
    nothing false = refl

    begin_alone : (t : At) → Alone t → (deed : Deed p) → Alone (client_happens X m p s level t (Begin deed))
    begin_alone t alone deed = at (may_begin t.client deed.action) refl
      where
        at : (b : Bool) → may_begin t.client deed.action ≡ b → Alone (cond b (record t { client = begun deed.action t.client }) t)
        at false e = alone
        at true e =
            let begin = and_parts (is_none t.client.running) (is_mount deed.action || t.client.mounted) e in
            let is : deed.action ≡ actions.Mount = mount_alone t.client deed.action alone.client.mounted begin.1 in
            record {
              client = record {
                identity = alone.client.identity;
                context = alone.client.context;
                mounted = ap (λ (b : Bool). not (is_mount deed.action) && b) alone.client.mounted ∙ nothing (not (is_mount deed.action));
                running = ap (first_stage t.client.identity) is ∙ begins t.client alone.client.identity;
                few = alone.client.few;
              };
              waits = alone.waits;
              sent = alone.sent;
              given = alone.given;
              acts = alone.acts;
              taken = alone.taken;
            }

    -- ---- a request

    more : (n : ℕ) (q : Packet (List Op)) → IsIts n q → IsIts (n + 1) q
    more n q its = (its.0, let le = its.1 in omega (arith, le))

    more_waits : (n : ℕ) (o : Option (Packet (List Op))) → IfSome o (IsIts n) → IfSome o (IsIts (n + 1))
    more_waits n None its = tt
    more_waits n (Some q) its = more n q its

    -- with the client as it is written out
    abbrev resting : Running → Running
    resting r = record r { stage = stage; awaited = None }

    abbrev rested : Known → Running → Known
    rested k r = record k { running = Some (resting r) }

    asked_waits : (k : Known) (r : Running) → Waiting (rested k r) → k.sent < most_requests → Waiting (asked m p (rested k r)) × ((asked m p (rested k r)).sent ≡ k.sent + 1)
    unfolding asked request_in
    asked_waits k r waits room =
        let same : spent stage (rested k r) ≡ rested k r = spends (rested k r) in (
          record {
            identity = ap (λ (k : Known). k.identity) same ∙ waits.identity;
            context = ap (λ (k : Known). k.context) same ∙ waits.context;
            mounted = ap (λ (k : Known). k.mounted) same ∙ waits.mounted;
            running = refl;
            few = omega (arith, room);
          },
          refl,
        )

    next_at : (t : At) (r : Running) → Alone (record t { client = rested t.client r }) → t.client.sent < most_requests → Alone (record t { client = asked m p (rested t.client r); waits_for = Some (packet_for p (rested t.client r) (resting r)); sent = packet_for p (rested t.client r) (resting r) ∷ t.sent })
    next_at t r alone room =
        let two = asked_waits t.client r alone.client room in
        let counts = two.1 in
        let q : Packet (List Op) = packet_for p (rested t.client r) (resting r) in
        let is : q ≡ only (t.client.sent + 1) = made (rested t.client r) (resting r) refl alone.client.context in
        let its : IsIts (t.client.sent + 1) q = (is, omega arith) in
        let back : (q : Packet (List Op)) → IsIts (t.client.sent + 1) q → IsIts (asked m p (rested t.client r)).sent q = λ q its. subst (λ (n : ℕ). IsIts n q) (sym counts) its in
        record {
          client = two.0;
          waits = back q its;
          sent = newest_or (IsIts (asked m p (rested t.client r)).sent) q t.sent (back q its) (λ j x there. back x (more t.client.sent x (alone.sent j x there)));
          given = alone.given;
          acts = alone.acts;
          taken = alone.taken;
        }

    abbrev asked_state : At → Known → At
    asked_state t k = record t { client = asked m p k; waits_for = packet_in p k k.running; sent = sends (packet_in p k k.running) t.sent }

    next_alone : (t : At) → Alone t → Alone (asks X m p s level t)
    next_alone t alone = at (nat_lt t.client.sent most_requests && may_ask t.client) refl
      where
        resting_at : (r : Running) (sent : Option Sent) → r.awaited ≡ sent → is_none sent ≡ true → t.client.running ≡ Some r → t.client.sent < most_requests → Alone (asked_state t t.client)
        resting_at r (Some sent) is e running room = absurd cc
        resting_at r None is e running room =
            let staged : r.stage ≡ stage = subst InFirst running alone.client.running in
            let same_r : r ≡ resting r = λ i. record r { stage = staged i; awaited = is i } in
            let same : t.client ≡ rested t.client r = ap (λ (o : Option Running). record t.client { running = o }) (running ∙ ap (λ r. Some r) same_r) in
            subst (λ (k : Known). Alone (asked_state t k)) (sym same) (next_at t r (subst (λ (k : Known). Alone (record t { client = k })) same alone) room)

        running_at : (o : Option Running) → t.client.running ≡ o → may_ask_in o ≡ true → t.client.sent < most_requests → Alone (asked_state t t.client)
        running_at None is e room = absurd cc
        running_at (Some r) is e room = resting_at r r.awaited refl e is room

        at : (b : Bool) → (nat_lt t.client.sent most_requests && may_ask t.client) ≡ b → Alone (cond b (asked_state t t.client) t)
        at false e = alone
        at true e = let both = and_parts (nat_lt t.client.sent most_requests) (may_ask t.client) e in running_at t.client.running refl both.1 (ltb-true _ _ both.0)

    resend_alone : (t : At) → Alone t → Alone (client_happens X m p s level t Resend)
    resend_alone t alone = at t.waits_for alone.waits
      where
        at : (o : Option (Packet (List Op))) → IfSome o (IsIts t.client.sent) → Alone (record t { sent = sends o t.sent })
        at None its = alone
        at (Some q) its = record { client = alone.client; waits = alone.waits; sent = newest_or (IsIts t.client.sent) q t.sent its alone.sent; given = alone.given; acts = alone.acts; taken = alone.taken }

    -- ---- a packet that comes is refused

    arrive_alone : (t : At) → Alone t → (j : ℕ) (when : When) → Alone (client_happens X m p s level t (Arrive j when))
    unfolding step_with
    arrive_alone t alone j when = at (nth t.sent j) refl
      where
        at : (o : Option (Packet (List Op))) → nth t.sent j ≡ o → Alone (arrives X m p s level t when o)
        at None e = alone
        at (Some q) e =
            let its = alone.sent j q e in
            let le = its.1 in
            let few = alone.client.few in
            let lt : q.xid < 2 ^ 32 = omega (arith, le, few) in
            let asks : request_with X.grammar m p s.class (w.text q) ≡ Refused q.xid Plain (caller stat) = ap (λ (x : Packet (List Op)). request_with X.grammar m p s.class (w.text x)) its.0 ∙ refused q.xid lt in
            let reply : (serve X m p w t.server when q).reply ≡ Some (refusal_text m Plain q.xid (caller stat)) = ap (λ (r : Request). (step_of X m p t.server.state (event_of X m p w when q) r).reply) asks in
            let none : (serve X m p w t.server when q).acts ≡ false = ap (keeps_in X p t.server.state (event_of X m p w when q)) asks in
            record {
              client = alone.client;
              waits = alone.waits;
              sent = alone.sent;
              given = newest_or (λ (g : Given). (g.packet.xid < 2 ^ 32) × (g.outcome ≡ Some (refusal_text m Plain g.packet.xid (caller stat)))) (record { packet = q; outcome = (serve X m p w t.server when q).reply }) t.given (lt, reply) alone.given;
              acts = ap (λ (b : Bool). cond b (record { packet = q; outcome = (serve X m p w t.server when q).reply } ∷ t.acts) t.acts) none ∙ alone.acts;
              taken = alone.taken;
            }

    -- ---- a refusal comes

    -- a refusal ends the action, and what is another's leaves it
    stays_at : (k : Known) (h : Heard) → ((h ≡ heards.Other) ⊎ (h ≡ heards.Denied stat)) → (o : Option Running) → k.running ≡ o → InFirst o → (n : Option Running) × ((turn_by p k h o).client ≡ record k { running = n }) × InFirst n
    unfolding next
    stays_at k h which None e first = (None, ap (λ (o : Option Running). record k { running = o }) e, tt)
    stays_at k h (inl is) (Some r) e first = (Some r, ap (λ (h : Heard). (turn_by p k h (Some r)).client) is, first)
    stays_at k h (inr is) (Some r) e first = (None, ap (λ (h : Heard). (turn_by p k h (Some r)).client) is, tt)

    which_is : (k : Known) (xid : ℕ) → xid < 2 ^ 32 → (o : Option Sent) → ((heard_in m p k (refusal_text m Plain xid (caller stat)) o ≡ heards.Other) ⊎ (heard_in m p k (refusal_text m Plain xid (caller stat)) o ≡ heards.Denied stat))
    which_is k xid lt None = inl refl
    which_is k xid lt (Some sent) = at (xid == sent.xid) refl
      where
        at : (b : Bool) → (xid == sent.xid) ≡ b → ((heard m (asked_of p k sent) (refusal_text m Plain xid (caller stat)) ≡ heards.Other) ⊎ (heard m (asked_of p k sent) (refusal_text m Plain xid (caller stat)) ≡ heards.Denied stat))
        at false e = inl (other_heard SaidFits m (asked_of p k sent) xid (rpc.auth_error stat) [] lt e)
        at true e =
            let is : xid ≡ sent.xid = eqb-true _ _ e in
            inr (ap (λ (n : ℕ). heard m (asked_of p k sent) (refusal_text m Plain n (caller stat))) is ∙ denies m (asked_of p k sent) stat (subst (λ (n : ℕ). n < 2 ^ 32) is lt) stat_fits)

    turn_stays : (k : Known) (xid : ℕ) → xid < 2 ^ 32 → InFirst k.running → (n : Option Running) × ((turn m p k (refusal_text m Plain xid (caller stat))).client ≡ record k { running = n }) × InFirst n
    unfolding turn heard_by
    turn_stays k xid lt first = stays_at k (heard_in m p k (refusal_text m Plain xid (caller stat)) (awaited k)) (which_is k xid lt (awaited k)) k.running refl first

    return_alone : (t : At) → Alone t → (j : ℕ) → Alone (client_happens X m p s level t (Return j))
    return_alone t alone j = at (nth t.given j) refl
      where
        -- what is taken
        took : (g : Given) (n : Known) (b : Bool) (o : Option (Packet (List Op))) → Waiting n → n.sent ≡ t.client.sent → IfSome o (IsIts t.client.sent) → Alone (record t { waits_for = o }) → Alone (record t { client = n; waits_for = cond b None o; taken = cond b (noted (server_of X m p s level) o g.outcome t.taken) t.taken })
        took g n false o waiting same its alone = record { client = waiting; waits = subst (λ (k : ℕ). IfSome o (IsIts k)) (sym same) its; sent = λ j q there. subst (λ (k : ℕ). IsIts k q) (sym same) (alone.sent j q there); given = alone.given; acts = alone.acts; taken = alone.taken }
        took g n true None waiting same its alone = record { client = waiting; waits = tt; sent = λ j q there. subst (λ (k : ℕ). IsIts k q) (sym same) (alone.sent j q there); given = alone.given; acts = alone.acts; taken = alone.taken }
        took g n true (Some q) waiting same its alone = record {
          client = waiting;
          waits = tt;
          sent = λ j q there. subst (λ (k : ℕ). IsIts k q) (sym same) (alone.sent j q there);
          given = alone.given;
          acts = alone.acts;
          taken = newest_or (λ (g : Given). g.packet.kind ≡ kind) (record { packet = q; outcome = g.outcome }) t.taken (ap (λ (x : Packet (List Op)). x.kind) its.0) alone.taken;
        }

        at : (o : Option Given) → nth t.given j ≡ o → Alone (returns X m p s level t o)
        at None e = alone
        at (Some g) e =
            let refusal = alone.given j g e in
            let stays = turn_stays t.client g.packet.xid refusal.0 alone.client.running in
            let after : client_after X m p s level t.client g.outcome ≡ record t.client { running = stays.0 } = ap (client_after X m p s level t.client) refusal.1 ∙ stays.1 in
            let waiting : Waiting (client_after X m p s level t.client g.outcome) = subst (λ (k : Known). Waiting k) (sym after) (record { identity = alone.client.identity; context = alone.client.context; mounted = alone.client.mounted; running = stays.2; few = alone.client.few }) in
            took g (client_after X m p s level t.client g.outcome) (is_taken X m p s level t.client (client_after X m p s level t.client g.outcome)) t.waits_for waiting (ap (λ (k : Known). k.sent) after) alone.waits alone

    -- ---- schedules

    happens_alone : (t : At) → Alone t → (x : ClientTurn X m p s level) → Alone (client_happens X m p s level t x)
    happens_alone t alone (Begin deed) = begin_alone t alone deed
    happens_alone t alone Next = next_alone t alone
    happens_alone t alone Resend = resend_alone t alone
    happens_alone t alone (Arrive j when) = arrive_alone t alone j when
    happens_alone t alone (Return j) = return_alone t alone j
    happens_alone t alone (Others event) = record { client = alone.client; waits = alone.waits; sent = alone.sent; given = alone.given; acts = alone.acts; taken = alone.taken }

    run_alone : (turns : List (ClientTurn X m p s level)) (t : At) → Alone t → Alone (client_run X m p s level turns t)
    run_alone [] t alone = alone
    run_alone (x ∷ turns) t alone = run_alone turns (client_happens X m p s level t x) (happens_alone t alone x)

    start_alone : (v : Seen X) → Alone (client_start X m p s level v)
    start_alone v = record {
      client = record { identity = refl; context = refl; mounted = refl; running = tt; few = omega arith };
      waits = tt;
      sent = λ j q there. absurd cc;
      given = λ j g there. absurd cc;
      acts = refl;
      taken = λ j g there. absurd cc;
    }

    -- nothing acts
    pub never_acts : (v : Seen X) (turns : List (ClientTurn X m p s level)) → (client_run X m p s level turns (client_start X m p s level v)).acts ≡ []
    never_acts v turns = (run_alone turns (client_start X m p s level v) (start_alone v)).acts

    -- and so requests act at most once
    pub never_once : (v : Seen X) (turns : List (ClientTurn X m p s level)) → ActsOnce (server_of X m p s level) (seen_state X m p s level (client_run X m p s level turns (client_start X m p s level v)))
    never_once v turns =
        let t : At = client_run X m p s level turns (client_start X m p s level v) in
        let alone : Alone t = run_alone turns (client_start X m p s level v) (start_alone v) in
        record {
          same = λ j k x y there also e. (alone.sent j x there).0 ∙ ap only e ∙ sym (alone.sent k y also).0;
          once = λ xid. subst (λ (acts : List Given). count xid acts ≤ 1) (sym alone.acts) (omega arith);
          at_first = λ k r there. absurd (none_there k r (subst (λ (acts : List Given). nth acts k ≡ Some r) alone.acts there));
          taken = λ k r there owed. absurd (not_owed first r.packet t.acts (subst (λ (x : Kind). is_owed_at (server_of X m p s level) x r.packet t.acts ≡ true) (alone.taken k r there) owed));
          own = λ k r there result. absurd (no_result first ((server_of X m p s level).tells r.packet r.outcome) (subst (λ (x : Kind). is_result x ((server_of X m p s level).tells r.packet r.outcome) ≡ true) (alone.taken k r there) result));
        }
      where
        none_there : (k : ℕ) (r : Given) → nth [] k ≡ Some r → ⊥
        none_there k r there = cc

        not_owed : IsFirst kind → (q : Packet (List Op)) (acts : List Given) → is_owed_at (server_of X m p s level) kind q acts ≡ true → ⊥
        not_owed (inl is) q acts owed = let no : false ≡ true = subst (λ (x : Kind). is_owed_at (server_of X m p s level) x q acts ≡ true) is owed in cc
        not_owed (inr is) q acts owed = let no : false ≡ true = subst (λ (x : Kind). is_owed_at (server_of X m p s level) x q acts ≡ true) is owed in cc

        no_result : IsFirst kind → (tells : Tells) → is_result kind tells ≡ true → ⊥
        no_result (inl is) tells result = let no : false ≡ true = subst (λ (x : Kind). is_result x tells ≡ true) is result in cc
        no_result (inr is) tells result = let no : false ≡ true = subst (λ (x : Kind). is_result x tells ≡ true) is result in cc
