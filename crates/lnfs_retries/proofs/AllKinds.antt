-- Each kind of request is read as what it says, and its reply as what it tells.
use Rattle.std.proofs.Common.{◌≡◌, ℕ, ◌+◌, ◌/◌, ◌%◌, ◌≤◌, ◌<◌, ◌^◌, ◌==◌, Bool, true, false, cond, not, ◌&&◌, ◌||◌, List, [], ◌∷◌, ◌++◌, length, map, replicate, drop, Option, Some, None, Ok, Err, refl, sym, ap, ◌∙◌, subst, arith}
use Rattle.std.specs.Prelude.{Result, nat_lt, if◌then◌else◌}
use Rattle.std.specs.Str.{bytes_eq}
use Rattle.std.proofs.lemmas.Bool.{and_parts, ltb-true, leb-true, eqb-true}
use Rattle.std.proofs.lemmas.Bool.Decides.{nat_tests}
use Rattle.std.proofs.lemmas.List.{length-append}
use Rattle.std.proofs.lemmas.List.Elements.{All-nil, All-cons}
use Rattle.std.proofs.lemmas.Slice.Eq.{bytes_eq-Decides}
use Rattle.lnfs_types.specs.declared.limits.TheConstants.{RECORD_LIMIT}
use Rattle.lnfs_xdr.specs.Canon.{word, padded, opaque}
use Rattle.lnfs_xdr.specs.Message.{parse}
use Rattle.lnfs_xdr.proofs.Sizes.{length-word, length-long, length-padded, length-opaque}
use Rattle.lnfs_arguments.specs.declared.numbers.TheConstants.{OWNER_LIMIT}
use Rattle.lnfs_arguments.specs.declared.statuses.TheConstants.{NFS4ERR_BADSESSION, NFS4ERR_STALE_CLIENTID, NFS4ERR_MINOR_VERS_MISMATCH}
use Rattle.lnfs_arguments.specs.declared.channel.Channel.{Channel}
use Rattle.lnfs_arguments.specs.declared.types.Compound.{Compound}
use Rattle.lnfs_arguments.specs.declared.types.CreateSession.{CreateSession}
use Rattle.lnfs_arguments.specs.declared.types.Op.{Op}
use Rattle.lnfs_arguments.specs.declared.types.Op.TheVariants as ops
use Rattle.lnfs_arguments.specs.declared.types.Sequence.{Sequence}
use Rattle.lnfs_arguments.specs.Further.{IsLawful}
use Rattle.lnfs_arguments.specs.Identifiers.{client_id, session_id}
use Rattle.lnfs_arguments.specs.Numbers.{op_exchange_id, op_create_session, op_sequence}
use Rattle.lnfs_arguments.specs.SharedTexts.{channel_text, optional_word, ChannelFits}
use Rattle.lnfs_arguments.specs.Whole.{compound}
use Rattle.lnfs_requests.specs.Texts.{op_text, compound_text, implementation_text, create_session_text}
use Rattle.lnfs_requests.specs.Fits.{OpFits, CompoundFits}
use Rattle.lnfs_results.specs.declared.types.OpResult.{OpResult}
use Rattle.lnfs_results.specs.declared.types.OpResult.TheVariants as results
use Rattle.lnfs_results.specs.Texts.{fields_text, results_text}
use Rattle.lnfs_policy.specs.declared.rows.Parent.{Parent}
use Rattle.lnfs_policy.specs.Policy.{Policy}
use Rattle.lnfs_gss3.specs.declared.numbers.TheConstants.{RPCSEC_GSS_CTXPROBLEM}
use Rattle.lnfs_gss3.specs.Mechanism.{Signing}
use Rattle.lnfs_answers.specs.Asking.{awaits_of}
use Rattle.lnfs_answers.specs.declared.types.Told.TheVariants as told
use Rattle.lnfs_answers.specs.declared.request.Heard.{Heard}
use Rattle.lnfs_answers.specs.declared.request.Heard.TheVariants as heards
use Rattle.lnfs_answers.specs.Replies as replies
use Rattle.lnfs_answers.specs.Replies.{content, heard}
use Rattle.lnfs_asking.specs.Sending.{compound_of}
use Rattle.lnfs_client.specs.Requests.{channel}
use Rattle.lnfs_client.proofs.Fitting.{session_fits}
use Rattle.lnfs_world.specs.declared.numbers.TheConstants.{LAST_NUMBER, LAST_SEQUENCE}
use Rattle.lnfs_world.specs.World.{Id}
use Rattle.lnfs_operations.specs.CreateSession.{granted_of}
use Rattle.lnfs_operations.specs.ExchangeId.{Told}
use Rattle.lnfs_operations.specs.Extra.{Extra}
use Rattle.lnfs_operations.specs.Identifiers.{session_named}
use Rattle.lnfs_operations.specs.Results.{failed, flags_of, server_name, told_result}
use Rattle.lnfs_operations.specs.Served.{sizes_of}
use Rattle.lnfs_operations.specs.SlotRule.{new_result}
use Rattle.lnfs_step.specs.Wrapping.{caller, answer_text, refusal_text}
use Rattle.lnfs_step.specs.Request.{Run, Asked, request_with}
use Rattle.lnfs_once.specs.Client.{Kind, Exchange, Create, Compound as ACompound, Destroy, Leave, Packet, Tells, Known, Made, Nothing}
use Rattle.lnfs_slots.specs.OneClient.{longest_request, Writer, rows}
use Rattle.lnfs_slots.specs.Written.{created_result, IsCompound, IsCreate, IsDestroy, IsLeave, IsExchange}
use Rattle.lnfs_slots.proofs.Naming.{session_named_is, session_whole, client_named_is}
use Rattle.lnfs_retries.specs.Packets.{Setting, number_of_parent, creating, ops_as, known_by, made_number, made_by, told_by, is_assert, is_end, is_sequence, is_asked, suits_context, sent_as, asked_as, suits_at, suits, reads, writer_under}
use Rattle.lnfs_retries.proofs.Arguments.{compound_parsed}
use Rattle.lnfs_retries.proofs.Heard.{Hears}
use Rattle.lnfs_retries.proofs.Results.{word-mod, one_text, failed_text, reads_failed, reads_done, reads_none, exchange_none, create_none, exchange_spelled, create_spelled, exchange_text, create_text}
use Rattle.lnfs_retries.proofs.Speaking.{sent_for, call_for, Speaks}

-- ---- sizes

padded_short : (v : List ℕ) (most : ℕ) → length v ≤ most → length (padded v) ≤ most + 3
padded_short v most short = omega (arith, length-padded v)

opaque_short : (v : List ℕ) (most : ℕ) → length v ≤ most → length (opaque v) ≤ most + 7
opaque_short v most short = omega (arith, length-opaque v)

optional_short : (n : Option ℕ) → length (optional_word n) ≤ 8
optional_short None = omega (arith, length-word 0)
optional_short (Some n) = simp (length-append, length-word) (omega arith)

channel_short : (c : Channel) → length (channel_text c) ≤ 32
unfolding channel_text
channel_short c = simp (length-append, length-word) (omega (arith, optional_short c.ird))

abbrev IsShortAlone : Op → Type 0
IsShortAlone op = length (compound_text (compound_of (op ∷ []))) + 4 ≤ RECORD_LIMIT

alone_short : (op : Op) → length (op_text op) ≤ 4000 → IsShortAlone op
unfolding compound_text
alone_short op short = simp (length-append, length-word) (omega (arith, opaque_short [] 0 (omega arith), short))

exchange_short : (owner : List ℕ) → length owner ≤ OWNER_LIMIT → IsShortAlone (ops.ExchangeId (replicate 8 0) owner 0 None)
unfolding op_text implementation_text
exchange_short owner short = alone_short (ops.ExchangeId (replicate 8 0) owner 0 None) (simp (length-append, length-word) (omega (arith, padded_short (replicate 8 0) 8 (omega arith), opaque_short owner 1024 short)))

create_short : (level number sequence : ℕ) → IsShortAlone (ops.CreateSession (creating level number sequence))
unfolding op_text create_session_text
create_short level number sequence = alone_short (ops.CreateSession (creating level number sequence)) (simp (length-append, length-word, length-long) (omega (arith, channel_short channel)))

session_sized : (level number : ℕ) → length (session_id level number) ≡ 16
session_sized level number = simp (length-append, length-word, length-long) refl

destroy_short : (level number : ℕ) → IsShortAlone (ops.DestroySession (session_id level number))
unfolding op_text
destroy_short level number = alone_short (ops.DestroySession (session_id level number)) (simp (length-append, length-word) (omega (arith, padded_short (session_id level number) 16 (omega (arith, session_sized level number)))))

leave_short : (client : ℕ) → IsShortAlone (ops.DestroyClientId client)
unfolding op_text
leave_short client = alone_short (ops.DestroyClientId client) (simp (length-append, length-word, length-long) (omega arith))

failed_short : (status number : ℕ) → length (one_text status number []) + 4 ≤ RECORD_LIMIT
failed_short status number = simp (length-append, length-word) (omega arith)

exchange_result_short : (client sequence flags : ℕ) → length (one_text 0 op_exchange_id (fields_text (results.ExchangeId client sequence flags 0 server_name server_name))) + 4 ≤ RECORD_LIMIT
unfolding fields_text
exchange_result_short client sequence flags = simp (length-append, length-word, length-long) (omega (arith, opaque_short server_name 12 (omega arith)))

create_result_short : (level number sequence : ℕ) (fore back : Channel) → length (one_text 0 op_create_session (fields_text (results.CreateSession (session_id level number) sequence 0 fore back))) + 4 ≤ RECORD_LIMIT
unfolding fields_text
create_result_short level number sequence fore back =
    simp (length-append, length-word) (omega (arith, padded_short (session_id level number) 16 (omega (arith, session_sized level number)), channel_short fore, channel_short back))

-- ---- tests that passed

below : (n m : ℕ) → nat_lt n m ≡ true → n < m
below n m e = ltb-true _ _ e

no_tag : (v : List ℕ) → (length v == 0) ≡ true → v ≡ []
no_tag [] e = refl
no_tag (b ∷ v) e = absurd (let no : length (b ∷ v) ≡ 0 = eqb-true _ _ e in grind arith)

-- the arguments of a SEQUENCE, and the operations behind it
pub record Begins (level number sequence : ℕ) (xs : List Op) : Type 0 where
  pub args : Sequence
  pub rest : List Op
  pub first : xs ≡ ops.Sequence args ∷ rest
  pub level_is : (session_named args.session).level ≡ level
  pub number_is : (session_named args.session).number ≡ number
  pub whole : bytes_eq (drop 12 args.session) (0 ∷ 0 ∷ 0 ∷ 0 ∷ []) ≡ true
  pub slot : args.slot ≡ 0
  pub sequence_is : args.sequence ≡ sequence

begins : (level number sequence : ℕ) (xs : List Op) → is_sequence level number sequence xs ≡ true → Begins level number sequence xs
begins level number sequence [] e = absurd cc
begins level number sequence (ops.Sequence args ∷ more) e =
    let a = and_parts _ _ e in
    let b = and_parts _ _ a.1 in
    let c = and_parts _ _ b.1 in
    let d = and_parts _ _ c.1 in
    record { args = args; rest = more; first = refl; level_is = eqb-true _ _ a.0; number_is = eqb-true _ _ b.0; whole = c.0; slot = eqb-true _ _ d.0; sequence_is = eqb-true _ _ d.1 }
begins level number sequence (op ∷ more) e = absurd cc

-- a request that neither asks for a context nor ends one
run_context : (o : Option Parent) (k : Kind) (context : ℕ) → is_assert k ≡ false → is_end k ≡ false → suits_context o k context ≡ true → suits_context o ACompound context ≡ true
run_context None k context asserts ends e =
    sym (ap (λ (b : Bool). context == 0 && not (b || is_end k)) asserts ∙ ap (λ (b : Bool). context == 0 && not (false || b)) ends) ∙ e
run_context (Some parent) k context asserts ends e =
    sym (ap (λ (b : Bool). b || (nat_lt 0 context && nat_lt context (2 ^ 64))) asserts) ∙ e

module _ (X : Extra) (lawful : IsLawful X.grammar) (m : Signing) (p : Policy) (s : Setting) (level : ℕ) (small : level < 2 ^ 32) (owner : length s.owner ≤ OWNER_LIMIT) (o : Option Parent) (speaks : Speaks X m p s level o) where
  abbrev pub w : Writer (List Op)
  w = writer_under X m p s level o

  abbrev pub as_kind : Kind → Packet (List Op) → Packet (List Op)
  as_kind k q = record q { kind = k }

  abbrev pub Suits : Packet (List Op) → Type 0
  Suits q = suits X m p s level o q ≡ true

  -- a packet of a kind
  pub of_kind : (P : Packet (List Op) → Type 0) (q : Packet (List Op)) (k : Kind) → q.kind ≡ k → P (as_kind k q) → P q
  of_kind P q k e t = subst (λ (k : Kind). P (as_kind k q)) (sym e) t

  pub suits_kind : (q : Packet (List Op)) (k : Kind) → q.kind ≡ k → Suits q → Suits (as_kind k q)
  suits_kind q k e t = subst (λ (k : Kind). Suits (as_kind k q)) e t

  -- ---- what is tested of a packet

  pub xid_fits : (q : Packet (List Op)) → Suits q → q.xid < 2 ^ 32
  xid_fits q e = below _ _ (and_parts _ _ e).0

  pub context_suits : (q : Packet (List Op)) → Suits q → suits_context o q.kind q.place.context ≡ true
  context_suits q e = (and_parts _ _ (and_parts _ _ e).1).0

  pub numbers_suit : (q : Packet (List Op)) → Suits q → suits_at X m p s level o q.kind q ≡ true
  numbers_suit q e = (and_parts _ _ (and_parts _ _ e).1).1

  -- ---- one operation alone

  alone_fits : (op : Op) → OpFits op → CompoundFits (compound_of (op ∷ []))
  alone_fits op fits = record { tag = omega arith; minor = refl; count = refl; few = omega arith; ops = All-cons OpFits op [] fits (All-nil OpFits) }

  alone_asks : (q : Packet (List Op)) (op : Op) → suits_context o ACompound q.place.context ≡ true → q.xid < 2 ^ 32 → OpFits op → IsShortAlone op
      → request_with X.grammar m p s.class (sent_for X m p s level o q.place.context q.xid (op ∷ [])).message ≡ Asked (call_for X m p s level o q.place.context q.xid (op ∷ [])) (Run (compound_text (compound_of (op ∷ []))) (compound_of (op ∷ [])))
  alone_asks q op suited lt fits short =
      speaks.asks q.place.context q.xid (op ∷ []) (compound_of (op ∷ [])) suited lt short (compound_parsed X.grammar lawful (compound_of (op ∷ [])) (alone_fits op fits))

  -- ---- what is read

  abbrev pub reply_to : (q : Packet (List Op)) → (said : List ℕ) → List ℕ
  reply_to q said = answer_text m (w.wrapping q) q.xid said

  tells : (q : Packet (List Op)) (reply : List ℕ) (h : Heard) → Suits q → heard m (asked_as X m p s level o (sent_as X m p s level o q)) reply ≡ h → reads X m p s level o q (Some reply) ≡ told_by (number_of_parent o) level q.kind h
  tells q reply h suited e =
      ap (λ (b : Bool). cond b (told_by (number_of_parent o) level q.kind (heard m (asked_as X m p s level o (sent_as X m p s level o q)) reply)) Nothing) suited
      ∙ ap (told_by (number_of_parent o) level q.kind) e

  -- what is heard of results to operations
  hears_ok : (q : Packet (List Op)) (xs : List Op) (said : List ℕ) (h : Heard) → q.xid < 2 ^ 32 → length said + 4 ≤ RECORD_LIMIT → parse (content (replies.results (map awaits_of xs))) said ≡ Ok h
      → heard m (asked_as X m p s level o (sent_for X m p s level o q.place.context q.xid xs)) (answer_text m (call_for X m p s level o q.place.context q.xid xs).wrapping q.xid said) ≡ h
  hears_ok q xs said h lt short e = subst (λ r. Hears r (heard m (asked_as X m p s level o (sent_for X m p s level o q.place.context q.xid xs)) (answer_text m (call_for X m p s level o q.place.context q.xid xs).wrapping q.xid said))) e (speaks.hears q.place.context q.xid xs said lt short)

  hears_bad : (q : Packet (List Op)) (xs : List Op) (said : List ℕ) (stuck : List ℕ) → q.xid < 2 ^ 32 → length said + 4 ≤ RECORD_LIMIT → parse (content (replies.results (map awaits_of xs))) said ≡ Err stuck
      → (at : ℕ) × (heard m (asked_as X m p s level o (sent_for X m p s level o q.place.context q.xid xs)) (answer_text m (call_for X m p s level o q.place.context q.xid xs).wrapping q.xid said) ≡ heards.Bad at)
  hears_bad q xs said stuck lt short e = subst (λ r. Hears r (heard m (asked_as X m p s level o (sent_for X m p s level o q.place.context q.xid xs)) (answer_text m (call_for X m p s level o q.place.context q.xid xs).wrapping q.xid said))) e (speaks.hears q.place.context q.xid xs said lt short)

  -- ---- EXCHANGE_ID

  module _ (q : Packet (List Op)) (suited : Suits (as_kind Exchange q)) where
    abbrev asking : Packet (List Op)
    asking = as_kind Exchange q

    abbrev exchange_op : Op
    exchange_op = ops.ExchangeId (replicate 8 0) s.owner 0 None

    lt : q.xid < 2 ^ 32
    lt = xid_fits asking suited

    told_as : (t : Told) → t.number ≤ LAST_NUMBER → t.sequence ≤ LAST_SEQUENCE → reads X m p s level o asking (Some (reply_to asking (new_result (compound_of (exchange_op ∷ [])) (told_result level t ∷ [])))) ≡ Known t.number t.sequence
    told_as t number sequence =
        let client : ℕ = client_id level t.number in
        let flags : ℕ = flags_of t.confirmed in
        let said : List ℕ = one_text 0 op_exchange_id (fields_text (results.ExchangeId client t.sequence flags 0 server_name server_name)) in
        let h : Heard = heards.Said (record { status = 0; results = told.Other (results.ExchangeId client t.sequence flags 0 server_name server_name) ∷ [] }) in
        let fits : flags < 2 ^ 32 = flags_fit t.confirmed in
        let spelled = exchange_spelled client t.sequence flags server_name (omega (arith, small, number)) (omega (arith, sequence)) fits (omega arith) in
        let read : parse (content (replies.results (map awaits_of (exchange_op ∷ [])))) said ≡ Ok h = reads_done op_exchange_id (omega arith) (results.ExchangeId client t.sequence flags 0 server_name server_name) (fields_text (results.ExchangeId client t.sequence flags 0 server_name server_name)) spelled in
        let upper : (client / 2 ^ 32 == level) ≡ true = upper_is t.number (omega (arith, number)) in
        let lower : client % 2 ^ 32 ≡ t.number = omega (arith, number) in
        ap (λ (said : List ℕ). reads X m p s level o asking (Some (reply_to asking said))) (exchange_text client t.sequence flags 0 server_name server_name)
        ∙ tells asking (reply_to asking said) h suited (hears_ok q (exchange_op ∷ []) said h lt (exchange_result_short client t.sequence flags) read)
        ∙ ap (λ (b : Bool). Known (cond (b && nat_lt t.sequence (2 ^ 32)) (client % 2 ^ 32) (LAST_NUMBER + 1)) t.sequence) upper
        ∙ ap (λ (b : Bool). Known (cond b (client % 2 ^ 32) (LAST_NUMBER + 1)) t.sequence) (is_word t.sequence sequence)
        ∙ ap (λ (n : ℕ). Known n t.sequence) lower
      where
        flags_fit : (b : Bool) → flags_of b < 2 ^ 32
        flags_fit true = omega arith
        flags_fit false = omega arith

        is_word : (n : ℕ) → n ≤ LAST_SEQUENCE → nat_lt n (2 ^ 32) ≡ true
        is_word n le = grind (arith, nat_tests, le)

        upper_is : (number : ℕ) → number < 2 ^ 32 → (client_id level number / 2 ^ 32 == level) ≡ true
        upper_is number lt = let same : client_id level number / 2 ^ 32 ≡ level = omega (arith, lt) in grind (arith, nat_tests, same)

    failed_exchange : (status : ℕ) → 1 ≤ status → reads X m p s level o asking (Some (reply_to asking (new_result (compound_of (exchange_op ∷ [])) (failed exchange_op status ∷ [])))) ≡ Nothing
    failed_exchange status some =
        ap (λ (said : List ℕ). reads X m p s level o asking (Some (reply_to asking said))) (failed_text status op_exchange_id ∙ ap (λ (b : List ℕ). b ++ (word 0 ++ (word 1 ++ (word op_exchange_id ++ (b ++ []))))) (word-mod status))
        ∙ at (status % 2 ^ 32) (omega arith) (status % 2 ^ 32 == 0) refl
      where
        at : (n : ℕ) → n < 2 ^ 32 → (b : Bool) → (n == 0) ≡ b → reads X m p s level o asking (Some (reply_to asking (one_text n op_exchange_id []))) ≡ Nothing
        at n fits true e =
            let zero_is : n ≡ 0 = eqb-true _ _ e in
            let stuck = reads_none op_exchange_id (omega arith) exchange_none in
            let bad = hears_bad q (exchange_op ∷ []) (one_text 0 op_exchange_id []) stuck.0 lt (failed_short 0 op_exchange_id) stuck.1 in
            ap (λ (n : ℕ). reads X m p s level o asking (Some (reply_to asking (one_text n op_exchange_id [])))) zero_is
            ∙ tells asking (reply_to asking (one_text 0 op_exchange_id [])) (heards.Bad bad.0) suited bad.1
        at n fits false e =
            let h : Heard = heards.Said (record { status = n; results = told.Other (results.Failed op_exchange_id n) ∷ [] }) in
            tells asking (reply_to asking (one_text n op_exchange_id [])) h suited (hears_ok q (exchange_op ∷ []) (one_text n op_exchange_id []) h lt (failed_short n op_exchange_id) (reads_failed op_exchange_id [] (omega arith) n fits e))
            ∙ ap (λ (b : Bool). cond b (known_by level (Some (told.Other (results.Failed op_exchange_id n)))) Nothing) e

    lost_exchange : reads X m p s level o asking (Some (refusal_text m (w.wrapping asking) asking.xid (caller RPCSEC_GSS_CTXPROBLEM))) ≡ Nothing
    lost_exchange = tells asking (refusal_text m (w.wrapping asking) asking.xid (caller RPCSEC_GSS_CTXPROBLEM)) (heards.Denied RPCSEC_GSS_CTXPROBLEM) suited (speaks.lost q.place.context q.xid (exchange_op ∷ []) lt)

    pub is_exchange : IsExchange X m p w asking
    is_exchange = record {
      compound = compound_of (exchange_op ∷ []);
      flags = 0;
      implementation = None;
      request = alone_asks asking exchange_op (run_context o Exchange q.place.context refl refl (context_suits asking suited)) lt (refl, owner, omega arith, tt) (exchange_short s.owner owner);
      minor = refl;
      count = refl;
      only = refl;
      told = λ t number sequence id next e. let is = told_as t number sequence in (known_id id next t is e, known_next id next t is e);
      turned_down = λ status some id next e. let no = failed_exchange status some in absurd cc;
      lost = λ id next e. let no = lost_exchange in absurd cc;
    }
      where
        known_id : {T : Tells} (id next : ℕ) (t : Told) → T ≡ Known t.number t.sequence → T ≡ Known id next → id ≡ t.number
        known_id id next t a b = cc

        known_next : {T : Tells} (id next : ℕ) (t : Told) → T ≡ Known t.number t.sequence → T ≡ Known id next → next ≡ t.sequence
        known_next id next t a b = cc

  -- ---- CREATE_SESSION

  module _ (q : Packet (List Op)) (suited : Suits (as_kind Create q)) where
    abbrev making : Packet (List Op)
    making = as_kind Create q

    abbrev args_of : CreateSession
    args_of = creating level q.place.number q.sequence

    abbrev create_op : Op
    create_op = ops.CreateSession args_of

    create_lt : q.xid < 2 ^ 32
    create_lt = xid_fits making suited

    fits : (q.place.number < 2 ^ 32) × (q.sequence < 2 ^ 32)
    fits = let both = and_parts _ _ (numbers_suit making suited) in (below _ _ both.0, below _ _ both.1)

    abbrev granted : Channel
    granted = sizes_of (granted_of channel)

    abbrev given : Channel
    given = record channel { ird = None }

    channel_fits : ChannelFits granted
    channel_fits = (omega arith, omega arith, omega arith, omega arith, omega arith, omega arith, tt)

    given_fits : ChannelFits given
    given_fits = (omega arith, omega arith, omega arith, omega arith, omega arith, omega arith, tt)

    session_same : (number : ℕ) → number ≤ LAST_NUMBER → made_number level (session_id level number) ≡ number
    session_same number le =
        let named : (session_named (session_id level number)).number ≡ number = ap (λ (i : Id). i.number) (session_named_is level number small (omega (arith, le))) in
        let same : bytes_eq (session_id level number) (session_id level number) ≡ true = grind (arith, bytes_eq-Decides) in
        let fits : nat_lt number (2 ^ 64) ≡ true = grind (arith, nat_tests, le) in
        ap (λ (n : ℕ). cond (bytes_eq (session_id level number) (session_id level n) && nat_lt n (2 ^ 64)) n 0) named
        ∙ ap (λ (b : Bool). cond (b && nat_lt number (2 ^ 64)) number 0) same
        ∙ ap (λ (b : Bool). cond b number 0) fits

    made_as : (number : ℕ) → number ≤ LAST_NUMBER → reads X m p s level o making (Some (reply_to making (created_result (compound_of (create_op ∷ [])) level args_of number))) ≡ Made number
    made_as number le =
        let r : OpResult = results.CreateSession (session_id level number) q.sequence 0 granted given in
        let said : List ℕ = one_text 0 op_create_session (fields_text r) in
        let h : Heard = heards.Said (record { status = 0; results = told.Other r ∷ [] }) in
        let read : parse (content (replies.results (map awaits_of (create_op ∷ [])))) said ≡ Ok h = reads_done op_create_session (omega arith) r (fields_text r) (create_spelled (session_id level number) q.sequence granted given (session_sized level number) fits.1 channel_fits given_fits) in
        ap (λ (said : List ℕ). reads X m p s level o making (Some (reply_to making said))) (create_text (session_id level number) q.sequence 0 granted given)
        ∙ tells making (reply_to making said) h suited (hears_ok q (create_op ∷ []) said h create_lt (create_result_short level number q.sequence granted given) read)
        ∙ ap (λ (n : ℕ). Made n) (session_same number le)

    failed_create : (status : ℕ) → 1 ≤ status → reads X m p s level o making (Some (reply_to making (new_result (compound_of (create_op ∷ [])) (failed create_op status ∷ [])))) ≡ Nothing
    failed_create status some =
        ap (λ (said : List ℕ). reads X m p s level o making (Some (reply_to making said))) (failed_text status op_create_session ∙ ap (λ (b : List ℕ). b ++ (word 0 ++ (word 1 ++ (word op_create_session ++ (b ++ []))))) (word-mod status))
        ∙ at (status % 2 ^ 32) (omega arith) (status % 2 ^ 32 == 0) refl
      where
        at : (n : ℕ) → n < 2 ^ 32 → (b : Bool) → (n == 0) ≡ b → reads X m p s level o making (Some (reply_to making (one_text n op_create_session []))) ≡ Nothing
        at n small true e =
            let zero_is : n ≡ 0 = eqb-true _ _ e in
            let stuck = reads_none op_create_session (omega arith) create_none in
            let bad = hears_bad q (create_op ∷ []) (one_text 0 op_create_session []) stuck.0 create_lt (failed_short 0 op_create_session) stuck.1 in
            ap (λ (n : ℕ). reads X m p s level o making (Some (reply_to making (one_text n op_create_session [])))) zero_is
            ∙ tells making (reply_to making (one_text 0 op_create_session [])) (heards.Bad bad.0) suited bad.1
        at n small false e =
            let h : Heard = heards.Said (record { status = n; results = told.Other (results.Failed op_create_session n) ∷ [] }) in
            tells making (reply_to making (one_text n op_create_session [])) h suited (hears_ok q (create_op ∷ []) (one_text n op_create_session []) h create_lt (failed_short n op_create_session) (reads_failed op_create_session [] (omega arith) n small e))
            ∙ ap (λ (b : Bool). cond b (made_by level (Some (told.Other (results.Failed op_create_session n)))) Nothing) e

    pub lost_create : (there : Bool) → reads X m p s level o making ((rows X m p w).refusal making there) ≡ Nothing
    lost_create true = failed_create NFS4ERR_STALE_CLIENTID (omega arith)
    lost_create false = tells making (refusal_text m (w.wrapping making) making.xid (caller RPCSEC_GSS_CTXPROBLEM)) (heards.Denied RPCSEC_GSS_CTXPROBLEM) suited (speaks.lost q.place.context q.xid (create_op ∷ []) create_lt)

    pub is_create : IsCreate X m p w making
    is_create = record {
      compound = compound_of (create_op ∷ []);
      args = args_of;
      request = alone_asks making create_op (run_context o Create q.place.context refl refl (context_suits making suited)) create_lt (session_fits (client_id level q.place.number) q.sequence [] (omega (arith, small, fits.0)) fits.1 refl) (create_short level q.place.number q.sequence);
      minor = refl;
      count = refl;
      only = refl;
      client = client_named_is level q.place.number small fits.0;
      sequence = refl;
      stale = refl;
      fore = (omega arith, omega arith);
      told = λ number le session e. let is = made_as number le in made_same session number is e;
      turned_down = λ status some session e. let no = failed_create status some in absurd cc;
    }
      where
        made_same : {T : Tells} (session number : ℕ) → T ≡ Made number → T ≡ Made session → session ≡ number
        made_same session number a b = cc

  -- ---- DESTROY_SESSION and DESTROY_CLIENTID

  pub is_destroy : (q : Packet (List Op)) → Suits (as_kind Destroy q) → IsDestroy X m p w (as_kind Destroy q)
  is_destroy q suited =
      let op : Op = ops.DestroySession (session_id level q.place.number) in
      let lt : q.place.number < 2 ^ 64 = below _ _ (numbers_suit (as_kind Destroy q) suited) in record {
        compound = compound_of (op ∷ []);
        session = session_id level q.place.number;
        request = alone_asks q op (run_context o Destroy q.place.context refl refl (context_suits (as_kind Destroy q) suited)) (xid_fits (as_kind Destroy q) suited) (session_sized level q.place.number) (destroy_short level q.place.number);
        minor = refl;
        count = refl;
        only = refl;
        named = session_named_is level q.place.number small lt;
        whole = session_whole level q.place.number small;
      }

  pub is_leave : (q : Packet (List Op)) → Suits (as_kind Leave q) → IsLeave X m p w (as_kind Leave q)
  is_leave q suited =
      let client : ℕ = client_id level q.place.number in
      let op : Op = ops.DestroyClientId client in
      let lt : q.place.number < 2 ^ 32 = below _ _ (numbers_suit (as_kind Leave q) suited) in record {
        compound = compound_of (op ∷ []);
        client = client;
        request = alone_asks q op (run_context o Leave q.place.context refl refl (context_suits (as_kind Leave q) suited)) (xid_fits (as_kind Leave q) suited) (omega (arith, small, lt)) (leave_short client);
        minor = refl;
        count = refl;
        only = refl;
        named = client_named_is level q.place.number small lt;
      }

  -- ---- COMPOUND

  module _ (q : Packet (List Op)) (suited : Suits (as_kind ACompound q)) where
    abbrev running : Packet (List Op)
    running = as_kind ACompound q

    abbrev its_ops : List Op
    its_ops = ops_as s level ACompound q

    run_lt : q.xid < 2 ^ 32
    run_lt = xid_fits running suited

    size : length (w.text running) ≤ longest_request
    size = leb-true _ _ (and_parts _ _ (numbers_suit running suited)).0

    within : length (compound_text (compound_of its_ops)) + 4 ≤ RECORD_LIMIT
    within = let short : length (compound_text (compound_of its_ops)) ≤ longest_request = leb-true _ _ (and_parts _ _ (and_parts _ _ (numbers_suit running suited)).1).0 in omega (arith, short)

    read_as : (r : Result Compound (List ℕ)) → parse (compound X.grammar) (compound_text (compound_of its_ops)) ≡ r → is_asked level q.place.number q.sequence r ≡ true → IsCompound X m p w running
    read_as (Err stuck) e asked = absurd cc
    read_as (Ok c) e asked =
        let a = and_parts _ _ asked in
        let b = and_parts _ _ a.1 in
        let d = and_parts _ _ b.1 in
        let first = begins level q.place.number q.sequence c.ops d.1 in
        let empty : c.tag ≡ [] = no_tag c.tag d.0 in record {
          compound = c;
          args = first.args;
          rest = first.rest;
          request = speaks.asks q.place.context q.xid its_ops c (context_suits running suited) run_lt within e;
          minor = eqb-true _ _ a.0;
          first = first.first;
          session = λ i. record { level = first.level_is i; number = first.number_is i };
          whole = first.whole;
          slot = first.slot;
          sequence = first.sequence_is;
          size = size;
          count = leb-true _ _ b.0;
          stale =
              ap (λ (tag : List ℕ). results_text (record { status = NFS4ERR_BADSESSION; tag = tag; results = results.Failed op_sequence NFS4ERR_BADSESSION ∷ [] })) (sym empty)
              ∙ ap (λ (b : Bool). results_text (record { status = if b then NFS4ERR_BADSESSION else NFS4ERR_MINOR_VERS_MISMATCH; tag = c.tag; results = results.Failed op_sequence NFS4ERR_BADSESSION ∷ [] })) (sym a.0);
        }

    pub is_compound : IsCompound X m p w running
    is_compound = read_as (parse (compound X.grammar) (compound_text (compound_of its_ops))) refl (and_parts _ _ (and_parts _ _ (numbers_suit running suited)).1).1

    pub lost_compound : (there : Bool) → reads X m p s level o running ((rows X m p w).refusal running there) ≡ Nothing
    lost_compound true =
        let said : List ℕ = one_text NFS4ERR_BADSESSION op_sequence [] in
        let h : Heard = heards.Said (record { status = NFS4ERR_BADSESSION; results = told.Other (results.Failed op_sequence NFS4ERR_BADSESSION) ∷ [] }) in
        ap (λ (said : List ℕ). reads X m p s level o running (Some (reply_to running said))) (failed_text NFS4ERR_BADSESSION op_sequence)
        ∙ tells running (reply_to running said) h suited (hears_ok q its_ops said h run_lt (failed_short NFS4ERR_BADSESSION op_sequence) (reads_failed op_sequence (map awaits_of q.payload) (omega arith) NFS4ERR_BADSESSION (omega arith) refl))
    lost_compound false = tells running (refusal_text m (w.wrapping running) running.xid (caller RPCSEC_GSS_CTXPROBLEM)) (heards.Denied RPCSEC_GSS_CTXPROBLEM) suited (speaks.lost q.place.context q.xid its_ops run_lt)
