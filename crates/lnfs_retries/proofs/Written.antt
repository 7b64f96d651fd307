-- Each request of the client is read as what its kind says, and its reply as what it tells.
use Rattle.std.proofs.Common.{◌≡◌, ℕ, ◌+◌, ◌≤◌, ◌<◌, ◌^◌, ◌==◌, Bool, true, false, cond, ◌&&◌, List, [], ◌++◌, length, drop, Option, Some, None, Ok, refl, sym, ap, ◌∙◌, subst, append_assoc, arith}
use Rattle.std.specs.Prelude.{nat_lt}
use Rattle.std.specs.Int.{w64, from_be_bytes}
use Rattle.std.specs.Str.{bytes_eq}
use Rattle.std.proofs.lemmas.Bool.{and_parts, ltb-true, eqb-true}
use Rattle.std.proofs.lemmas.Bool.Decides.{nat_tests}
use Rattle.std.proofs.lemmas.List.{append-nil, length-append}
use Rattle.std.proofs.lemmas.Nat.{from_be_bytes-to_be_bytes_8}
use Rattle.std.proofs.lemmas.Slice.Eq.{bytes_eq-Decides}
use Rattle.lnfs_types.specs.declared.limits.TheConstants.{RECORD_LIMIT, LABEL_LIMIT}
use Rattle.lnfs_xdr.specs.Canon.{word, long, opaque}
use Rattle.lnfs_xdr.specs.Format.{Opaque}
use Rattle.lnfs_xdr.specs.Message.{Closed, parse}
use Rattle.lnfs_xdr.proofs.Sizes.{length-word, length-long, length-opaque}
use Rattle.lnfs_xdr.proofs.Spelled.{Spelled, among_spelled, opaque_spelled, done_spelled, ◌▸◌, last}
use Rattle.lnfs_arguments.specs.declared.numbers.TheConstants.{OWNER_LIMIT}
use Rattle.lnfs_arguments.specs.declared.types.Op.{Op}
use Rattle.lnfs_arguments.specs.Further.{IsLawful}
use Rattle.lnfs_format.specs.LevelRead.{level_read}
use Rattle.lnfs_policy.specs.declared.rows.Parent.{Parent}
use Rattle.lnfs_policy.specs.Policy.{Policy}
use Rattle.lnfs_gss3.specs.declared.handle.ContextHandle.{ContextHandle}
use Rattle.lnfs_gss3.specs.declared.numbers.TheConstants.{LABEL}
use Rattle.lnfs_gss3.specs.Mechanism.{Signing, IsSized}
use Rattle.lnfs_gss3.specs.Grammar.{Assertion, handle_text, assertion_text, create_res_text, create_args_text}
use Rattle.lnfs_gss3.specs.Replies.{wrapped}
use Rattle.lnfs_gss3.specs.Who.{is_cleared}
use Rattle.lnfs_signed_calls.specs.Laws.{Accepts, IsParentOf}
use Rattle.lnfs_signed_calls.specs.SignedCalls.{create_header, destroy_header}
use Rattle.lnfs_signed_calls.proofs.Parts.{front}
use Rattle.lnfs_answers.specs.declared.numbers.TheConstants.{HANDLE_SIZE}
use Rattle.lnfs_answers.specs.declared.request.Heard.{Heard}
use Rattle.lnfs_answers.specs.declared.request.Heard.TheVariants as heards
use Rattle.lnfs_answers.specs.Replies as replies
use Rattle.lnfs_answers.specs.Replies.{assertion_start, handle_opaque, to_label, behind_handle, to_assertion, content, heard}
use Rattle.lnfs_script.specs.declared.identity.Identity.TheVariants as identities
use Rattle.lnfs_asking.specs.declared.plan.Plan.TheVariants as plans
use Rattle.lnfs_asking.specs.declared.sent.Sent.{Sent}
use Rattle.lnfs_asking.specs.Labels.{IsShort, spelled}
use Rattle.lnfs_asking.specs.Sending.{asserted, sent_of}
use Rattle.lnfs_client.specs.Machine.{speaker_under}
use Rattle.lnfs_world.specs.declared.numbers.TheConstants.{LAST_NUMBER}
use Rattle.lnfs_operations.specs.Extra.{Extra}
use Rattle.lnfs_step.specs.declared.numbers.TheConstants.{SYSTEM_ERR}
use Rattle.lnfs_step.specs.Step.{granted}
use Rattle.lnfs_step.specs.Wrapping.{Signed, called, answer_text, refusal_text}
use Rattle.lnfs_step.specs.Request.{MakeContext, EndContext, Asked, request_with}
use Rattle.lnfs_once.specs.Client.{Kind, Assert, Exchange, Create, Compound as ACompound, Destroy, Leave, End, Packet, Tells, Granted, Nothing}
use Rattle.lnfs_once.specs.Laws.{has_slot}
use Rattle.lnfs_slots.specs.OneClient.{Writer, rows}
use Rattle.lnfs_slots.specs.Written.{alone_of, IsCompound, IsCreate, IsDestroy, IsLeave, IsExchange, IsAssert, IsEnd, IsWriter}
use Rattle.lnfs_retries.specs.Packets.{Setting, number_of_parent, handle_in, granted_by, told_by, header_of, sent_as, asked_as, suits, reads, writer_under}
use Rattle.lnfs_retries.proofs.Arguments.{parse_next}
use Rattle.lnfs_retries.proofs.Heard.{Hears, parse_such, signed_hears, signed_fails}
use Rattle.lnfs_retries.proofs.Asked.{member_asserts, member_ends}
use Rattle.lnfs_retries.proofs.Speaking.{Speaks, member, handle_of, some_handle, some_inside}
use Rattle.lnfs_retries.proofs.AllKinds.{of_kind, suits_kind, is_exchange, is_create, is_destroy, is_leave, is_compound, lost_create, lost_compound}

-- ---- a context that is granted

module _ (a : Assertion) (lfs : a.lfs < 2 ^ 32) (pi : a.pi < 2 ^ 32) (short : length a.label ≤ LABEL_LIMIT) (handle : List ℕ) (sized : length handle ≡ 16) where
  handle_spelled : Spelled {E = ⊥} handle_opaque handle (opaque handle)
  unfolding opaque
  handle_spelled =
      let p = (opaque_spelled {E = ⊥} 16 handle (omega (arith, sized)) (omega (arith, sized))).is in
      let is : (length handle == HANDLE_SIZE) ≡ true = grind (arith, nat_tests, sized) in
      record { is = (is, p.1, p.2, p.3, p.4) }

  start_spelled : Spelled (assertion_start a.lfs a.pi) a.pi (word 0 ++ (word 0 ++ (word 1 ++ (word LABEL ++ (word a.lfs ++ word a.pi)))))
  unfolding assertion_start
  start_spelled =
      let first : (a.lfs == a.lfs) ≡ true = grind (arith, nat_tests) in
      let second : (a.pi == a.pi) ≡ true = grind (arith, nat_tests) in
      among_spelled (λ n. n == 0) 0 refl (omega arith) ▸ among_spelled (λ n. n == 0) 0 refl (omega arith) ▸ among_spelled (λ n. n == 1) 1 refl (omega arith) ▸ among_spelled (λ n. n == LABEL) LABEL refl (omega arith)
      ▸ among_spelled (λ n. n == a.lfs) a.lfs first lfs ▸ last (among_spelled (λ n. n == a.pi) a.pi second pi) (done_spelled a.pi)

  granted_text : create_res_text (record { handle = handle; assertion = a }) ≡ opaque handle ++ ((word 0 ++ (word 0 ++ (word 1 ++ (word LABEL ++ (word a.lfs ++ word a.pi))))) ++ (opaque a.label ++ []))
  unfolding create_res_text assertion_text
  granted_text = simp (append_assoc, append-nil) refl

  pub reads_granted : parse (content (replies.context a.lfs a.pi a.label)) (create_res_text (record { handle = handle; assertion = a })) ≡ Ok (heards.Granted handle)
  reads_granted =
      let same : bytes_eq a.label a.label ≡ true = grind (arith, bytes_eq-Decides) in
      let start : List ℕ = word 0 ++ (word 0 ++ (word 1 ++ (word LABEL ++ (word a.lfs ++ word a.pi)))) in
      ap (parse (to_assertion a.lfs a.pi a.label)) granted_text
      ∙ parse_next handle_opaque (λ handle. behind_handle a.lfs a.pi a.label handle) (λ e. absurd e) handle (opaque handle) (start ++ (opaque a.label ++ [])) handle_spelled.is
      ∙ parse_next (assertion_start a.lfs a.pi) (λ policy. to_label a.label handle) (λ e. absurd e) a.pi start (opaque a.label ++ []) start_spelled.is
      ∙ parse_such (Opaque LABEL_LIMIT) (λ label. bytes_eq label a.label) (λ label. Closed (heards.Granted handle)) a.label (opaque a.label) [] (opaque_spelled {E = ⊥} LABEL_LIMIT a.label short (omega (arith, short))).is same

-- ---- a member's contexts

module _ (X : Extra) (m : Signing) (p : Policy) (class own level number : ℕ) (owner : List ℕ) (parent : Parent) (accepts : Accepts m) (sized : IsSized m) (known : IsParentOf p parent) (small : level < 2 ^ 32) (cleared : is_cleared p parent level ≡ true) where
  abbrev s : Setting
  s = member X m p class own level number owner parent accepts sized known small cleared

  abbrev signer : Option Parent
  signer = Some parent

  abbrev w : Writer (List Op)
  w = writer_under X m p s level signer

  abbrev held : (context : ℕ) → ContextHandle
  held context = handle_of X m p class own level number owner parent accepts sized known small cleared context

  fits_held : (context : ℕ) → context < 2 ^ 64 → (parent.number < 2 ^ 32) × (level < 2 ^ 32) × (context < 2 ^ 64)
  fits_held context fits = (known.number, small, fits)

  handle_sized : (context : ℕ) → length (handle_text (held context)) ≡ 16
  unfolding handle_text
  handle_sized context = simp (length-append, length-word, length-long) refl

  -- ---- the number of a handle

  number_read : (context : ℕ) → context < 2 ^ 64 → from_be_bytes w64 (drop 8 (handle_text (held context))) ≡ context
  unfolding handle_text word long
  number_read context fits = from_be_bytes-to_be_bytes_8 context fits

  pub tells_granted : (context : ℕ) → 1 ≤ context → context ≤ LAST_NUMBER → granted_by parent.number level (handle_text (held context)) ≡ Granted context
  tells_granted context some le =
      let read : from_be_bytes w64 (drop 8 (handle_text (held context))) ≡ context = number_read context (omega (arith, le)) in
      let own_handle : handle_in parent.number level context ≡ handle_text (held context) = some_handle X m p class own level number owner parent accepts sized known small cleared context some in
      let same : bytes_eq (handle_text (held context)) (handle_text (held context)) ≡ true = grind (arith, bytes_eq-Decides) in
      let above : nat_lt 0 context ≡ true = grind (arith, nat_tests, some) in
      ap (λ (n : ℕ). cond (nat_lt 0 n && bytes_eq (handle_text (held context)) (handle_in parent.number level n)) (Granted n) Nothing) read
      ∙ ap (λ (b : List ℕ). cond (nat_lt 0 context && bytes_eq (handle_text (held context)) b) (Granted context) Nothing) own_handle
      ∙ ap (λ (b : Bool). cond (b && bytes_eq (handle_text (held context)) (handle_text (held context))) (Granted context) Nothing) above
      ∙ ap (λ (b : Bool). cond b (Granted context) Nothing) same

  none_granted : granted_by parent.number level (handle_text (held 0)) ≡ Nothing
  none_granted =
      let read : from_be_bytes w64 (drop 8 (handle_text (held 0))) ≡ 0 = number_read 0 (omega arith) in
      ap (λ (n : ℕ). cond (nat_lt 0 n && bytes_eq (handle_text (held 0)) (handle_in parent.number level n)) (Granted n) Nothing) read

  -- ---- that a context is asked for

  module _ (label : ((spelled p own).lfs < 2 ^ 32) × ((spelled p own).pi < 2 ^ 32)) (brief : IsShort (spelled p own)) (reads_level : level_read p.formats p.labels (spelled p own).lfs (spelled p own).pi (spelled p own).bytes ≡ Ok level) (q : Packet (List Op)) (suited : suits X m p s level signer (record q { kind = Assert }) ≡ true) where
    abbrev asking : Packet (List Op)
    asking = record q { kind = Assert }

    abbrev a : Assertion
    a = asserted (spelled p own)

    abbrev sent : Sent
    sent = sent_as X m p s level signer asking

    lt : q.xid < 2 ^ 32
    lt = ltb-true _ _ (and_parts _ _ suited).0

    header_is : header_of X m p s level signer sent ≡ create_header q.xid parent.number
    unfolding sent_of
    header_is = front m parent (create_header q.xid parent.number) (wrapped m parent q.xid (create_args_text a))

    pub asks : request_with X.grammar m p class (w.text asking) ≡ Asked (alone_of X m p w asking) (MakeContext parent.number a)
    unfolding sent_of
    asks =
        member_asserts X.grammar m p class parent accepts sized known q.xid lt a level (label.0, label.1, brief) reads_level (and_parts _ _ cleared).1
        ∙ ap (λ (header : List ℕ). Asked (record { level = level; xid = q.xid; wrapping = Signed parent header q.xid; context = None }) (MakeContext parent.number a)) (sym header_is)

    tells : (reply : List ℕ) (h : Heard) → heard m (asked_as X m p s level signer sent) reply ≡ h → reads X m p s level signer asking (Some reply) ≡ told_by parent.number level Assert h
    tells reply h e =
        ap (λ (b : Bool). cond b (told_by parent.number level Assert (heard m (asked_as X m p s level signer sent) reply)) Nothing) suited
        ∙ ap (told_by parent.number level Assert) e

    grant_short : (context : ℕ) → length (create_res_text (record { handle = handle_text (held context); assertion = a })) + 4 ≤ RECORD_LIMIT
    unfolding create_res_text assertion_text
    grant_short context = simp (length-append, length-word) (omega (arith, length-opaque (handle_text (held context)), handle_sized context, length-opaque (spelled p own).bytes, brief))

    pub heard_granted : (context : ℕ) → heard m (asked_as X m p s level signer sent) (answer_text m (w.wrapping asking) q.xid (granted (alone_of X m p w asking) parent.number a context)) ≡ heards.Granted (handle_text (held context))
    unfolding sent_of
    heard_granted context =
        let said : List ℕ = create_res_text (record { handle = handle_text (held context); assertion = a }) in
        let read : parse (content (replies.context a.lfs a.pi a.label)) said ≡ Ok (heards.Granted (handle_text (held context))) = reads_granted a label.0 label.1 brief (handle_text (held context)) (handle_sized context) in
        subst (λ r. Hears r (heard m (asked_as X m p s level signer sent) (answer_text m (w.wrapping asking) q.xid said))) read
        (signed_hears m sized accepts parent q.xid (header_of X m p s level signer sent) (replies.context a.lfs a.pi a.label) said tt lt (grant_short context))

    pub heard_refused : (at : ℕ) × (heard m (asked_as X m p s level signer sent) (refusal_text m (w.wrapping asking) q.xid (called SYSTEM_ERR)) ≡ heards.Bad at)
    unfolding sent_of
    heard_refused = signed_fails m sized accepts parent q.xid (header_of X m p s level signer sent) (replies.context a.lfs a.pi a.label) q.xid lt

    told_context : (context seen : ℕ) → context ≤ LAST_NUMBER → reads X m p s level signer asking (Some (answer_text m (w.wrapping asking) q.xid (granted (alone_of X m p w asking) parent.number a context))) ≡ Granted seen → seen ≡ context
    told_context context seen le e =
        let is = tells (answer_text m (w.wrapping asking) q.xid (granted (alone_of X m p w asking) parent.number a context)) (heards.Granted (handle_text (held context))) (heard_granted context) in
        at (context == 0) refl is
      where
        same_context : {T : Tells} (seen context : ℕ) → T ≡ Granted context → T ≡ Granted seen → seen ≡ context
        same_context seen context f g = cc

        at : (b : Bool) → (context == 0) ≡ b → reads X m p s level signer asking (Some (answer_text m (w.wrapping asking) q.xid (granted (alone_of X m p w asking) parent.number a context))) ≡ granted_by parent.number level (handle_text (held context)) → seen ≡ context
        at true z is =
            let zero_is : context ≡ 0 = eqb-true _ _ z in
            let none : granted_by parent.number level (handle_text (held context)) ≡ Nothing = ap (λ (n : ℕ). granted_by parent.number level (handle_text (held n))) zero_is ∙ none_granted in
            absurd (let no = is ∙ none in cc)
        at false z is = same_context seen context (is ∙ tells_granted context (grind (arith, nat_tests, z)) le) e

    pub is_assert_read : IsAssert X m p w asking
    is_assert_read = record {
      assertion = a;
      request = asks;
      told = λ context seen le e. told_context context seen le e;
      refused = λ seen e. let bad = heard_refused in let no = tells (refusal_text m (w.wrapping asking) q.xid (called SYSTEM_ERR)) (heards.Bad bad.0) bad.1 in absurd cc;
    }

  -- ---- that a context ends

  ends_at : (handle : List ℕ) (context xid : ℕ) → handle ≡ handle_text (held context) → context < 2 ^ 64 → xid < 2 ^ 32
      → request_with X.grammar m p class (sent_of m (speaker_under handle signer (identities.Full number)) xid plans.End).message ≡ Asked (record { level = level; xid = xid; wrapping = Signed parent (destroy_header xid handle) 0; context = Some (record { parent = parent.number; number = context }) }) (EndContext context)
  unfolding sent_of
  ends_at handle context xid is fits lt =
      ap (λ (handle : List ℕ). request_with X.grammar m p class (sent_of m (speaker_under handle signer (identities.Full number)) xid plans.End).message) is
      ∙ member_ends X.grammar m p class parent accepts sized known xid lt (held context) (fits_held context fits) refl cleared
      ∙ ap (λ (handle : List ℕ). Asked (record { level = level; xid = xid; wrapping = Signed parent (destroy_header xid handle) 0; context = Some (record { parent = parent.number; number = context }) }) (EndContext context)) (sym is)

  pub is_end_read : (q : Packet (List Op)) → suits X m p s level signer (record q { kind = End }) ≡ true → IsEnd X m p w (record q { kind = End })
  unfolding sent_of
  is_end_read q suited =
      let c : ℕ = q.place.context in
      let both = and_parts (nat_lt 0 c) (nat_lt c (2 ^ 64)) (and_parts _ _ (and_parts _ _ suited).1).0 in
      let some : 1 ≤ c = omega (arith, ltb-true _ _ both.0) in
      let handle : List ℕ = handle_in parent.number level c in
      let header : header_of X m p s level signer (sent_as X m p s level signer (record q { kind = End })) ≡ destroy_header q.xid handle = front m parent (destroy_header q.xid handle) [] in record {
        some = some;
        request =
            ends_at handle c q.xid (some_handle X m p class own level number owner parent accepts sized known small cleared c some) (ltb-true _ _ both.1) (ltb-true _ _ (and_parts _ _ suited).0)
            ∙ ap (λ (header : List ℕ). Asked (record { level = level; xid = q.xid; wrapping = Signed parent header 0; context = Some (record { parent = parent.number; number = c }) }) (EndContext c)) (sym header)
            ∙ ap (λ inside. Asked (record { level = level; xid = q.xid; wrapping = Signed parent (header_of X m p s level signer (sent_as X m p s level signer (record q { kind = End }))) 0; context = inside }) (EndContext c)) (sym (some_inside X m p class own level number owner parent accepts sized known small cleared c some));
      }

-- ---- all kinds

module _ (X : Extra) (lawful : IsLawful X.grammar) (m : Signing) (p : Policy) (s : Setting) (level : ℕ) (small : level < 2 ^ 32) (owner : length s.owner ≤ OWNER_LIMIT) (o : Option Parent) (speaks : Speaks X m p s level o) where
  abbrev writer : Writer (List Op)
  writer = writer_under X m p s level o

  -- what is left to show of each identity
  pub record HasContexts : Type 0 where
    pub asserts : (q : Packet (List Op)) → suits X m p s level o (record q { kind = Assert }) ≡ true → IsAssert X m p writer (record q { kind = Assert })
    pub ends : (q : Packet (List Op)) → suits X m p s level o (record q { kind = End }) ≡ true → IsEnd X m p writer (record q { kind = End })

  unsuited : (q : Packet (List Op)) (r : Option (List ℕ)) → suits X m p s level o q ≡ false → reads X m p s level o q r ≡ Nothing
  unsuited q None e = refl
  unsuited q (Some reply) e = ap (λ (b : Bool). cond b (told_by (number_of_parent o) level q.kind (heard m (asked_as X m p s level o (sent_as X m p s level o q)) reply)) Nothing) e

  lost_of : (q : Packet (List Op)) (there : Bool) (k : Kind) → q.kind ≡ k → has_slot k ≡ true → suits X m p s level o q ≡ true → reads X m p s level o q ((rows X m p writer).refusal q there) ≡ Nothing
  lost_of q there Create kind slotted suited = of_kind X lawful m p s level small owner o speaks (λ q. reads X m p s level o q ((rows X m p writer).refusal q there) ≡ Nothing) q Create kind (lost_create X lawful m p s level small owner o speaks q (suits_kind X lawful m p s level small owner o speaks q Create kind suited) there)
  lost_of q there ACompound kind slotted suited = of_kind X lawful m p s level small owner o speaks (λ q. reads X m p s level o q ((rows X m p writer).refusal q there) ≡ Nothing) q ACompound kind (lost_compound X lawful m p s level small owner o speaks q (suits_kind X lawful m p s level small owner o speaks q ACompound kind suited) there)
  lost_of q there Assert kind slotted suited = absurd cc
  lost_of q there Exchange kind slotted suited = absurd cc
  lost_of q there Destroy kind slotted suited = absurd cc
  lost_of q there Leave kind slotted suited = absurd cc
  lost_of q there End kind slotted suited = absurd cc

  pub writes : HasContexts → IsWriter X m p writer
  writes contexts = record {
    compound = λ q suited kind. of_kind X lawful m p s level small owner o speaks (IsCompound X m p writer) q ACompound kind (is_compound X lawful m p s level small owner o speaks q (suits_kind X lawful m p s level small owner o speaks q ACompound kind suited));
    create = λ q suited kind. of_kind X lawful m p s level small owner o speaks (IsCreate X m p writer) q Create kind (is_create X lawful m p s level small owner o speaks q (suits_kind X lawful m p s level small owner o speaks q Create kind suited));
    destroy = λ q suited kind. of_kind X lawful m p s level small owner o speaks (IsDestroy X m p writer) q Destroy kind (is_destroy X lawful m p s level small owner o speaks q (suits_kind X lawful m p s level small owner o speaks q Destroy kind suited));
    leave = λ q suited kind. of_kind X lawful m p s level small owner o speaks (IsLeave X m p writer) q Leave kind (is_leave X lawful m p s level small owner o speaks q (suits_kind X lawful m p s level small owner o speaks q Leave kind suited));
    exchange = λ q suited kind. of_kind X lawful m p s level small owner o speaks (IsExchange X m p writer) q Exchange kind (is_exchange X lawful m p s level small owner o speaks q (suits_kind X lawful m p s level small owner o speaks q Exchange kind suited));
    assert = λ q suited kind. of_kind X lawful m p s level small owner o speaks (IsAssert X m p writer) q Assert kind (contexts.asserts q (suits_kind X lawful m p s level small owner o speaks q Assert kind suited));
    lost = λ q there slotted. at q there slotted (suits X m p s level o q) refl;
    end_ = λ q suited kind. of_kind X lawful m p s level small owner o speaks (IsEnd X m p writer) q End kind (contexts.ends q (suits_kind X lawful m p s level small owner o speaks q End kind suited));
  }
    where
      at : (q : Packet (List Op)) (there : Bool) → has_slot q.kind ≡ true → (b : Bool) → suits X m p s level o q ≡ b → reads X m p s level o q ((rows X m p writer).refusal q there) ≡ Nothing
      at q there slotted true e = lost_of q there q.kind refl slotted e
      at q there slotted false e = unsuited q ((rows X m p writer).refusal q there) e

-- a guest has no contexts
pub guest_contexts : (X : Extra) (lawful : IsLawful X.grammar) (m : Signing) (p : Policy) (s : Setting) (level : ℕ) (small : level < 2 ^ 32) (owner : length s.owner ≤ OWNER_LIMIT) (speaks : Speaks X m p s level None) → HasContexts X lawful m p s level small owner None speaks
guest_contexts X lawful m p s level small owner speaks = record {
  asserts = λ q suited. absurd (none (q.place.context == 0) (and_parts _ _ (and_parts _ _ suited).1).0);
  ends = λ q suited. absurd (none (q.place.context == 0) (and_parts _ _ (and_parts _ _ suited).1).0);
}
  where
    none : (b : Bool) → (b && false) ≡ true → ⊥
    none true e = cc
    none false e = cc
