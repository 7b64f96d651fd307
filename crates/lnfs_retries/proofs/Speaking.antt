-- What a guest and a member ask by their records, and what they hear.
use Rattle.std.proofs.Common.{◌≡◌, ℕ, ◌+◌, ◌≤◌, ◌<◌, ◌^◌, ◌==◌, true, false, cond, List, length, take, map, Option, Some, None, Ok, refl, sym, ap, ◌∙◌, arith}
use Rattle.std.specs.Prelude.{nat_lt}
use Rattle.std.proofs.lemmas.Bool.{and_parts, ltb-true}
use Rattle.std.proofs.lemmas.Bool.Decides.{nat_tests}
use Rattle.lnfs_types.specs.declared.limits.TheConstants.{RECORD_LIMIT}
use Rattle.lnfs_xdr.specs.Message.{parse}
use Rattle.lnfs_arguments.specs.declared.types.Compound.{Compound}
use Rattle.lnfs_arguments.specs.declared.types.Op.{Op}
use Rattle.lnfs_arguments.specs.Whole.{compound}
use Rattle.lnfs_requests.specs.Texts.{compound_text}
use Rattle.lnfs_policy.specs.declared.mode.Mode.{Mode}
use Rattle.lnfs_policy.specs.declared.mode.Mode.TheVariants.{Enforcing, Limited}
use Rattle.lnfs_policy.specs.declared.rows.Parent.{Parent}
use Rattle.lnfs_policy.specs.Policy.{Policy}
use Rattle.lnfs_gss3.specs.declared.caller.Caller.TheVariants.{Guest}
use Rattle.lnfs_gss3.specs.declared.handle.ContextHandle.{ContextHandle}
use Rattle.lnfs_gss3.specs.declared.numbers.TheConstants.{RPCSEC_GSS_CTXPROBLEM}
use Rattle.lnfs_gss3.specs.Mechanism.{Signing, IsSized}
use Rattle.lnfs_gss3.specs.Grammar.{handle_text}
use Rattle.lnfs_gss3.specs.Replies.{wrapped}
use Rattle.lnfs_gss3.specs.Who.{is_cleared, guest_by, guest_in}
use Rattle.lnfs_signed_calls.specs.Laws.{Accepts, IsParentOf}
use Rattle.lnfs_signed_calls.specs.SignedCalls.{data_header}
use Rattle.lnfs_signed_calls.proofs.Parts.{front}
use Rattle.lnfs_answers.specs.Asking.{awaits_of}
use Rattle.lnfs_answers.specs.declared.request.Heard.TheVariants as heards
use Rattle.lnfs_answers.specs.Replies.{results, content, heard}
use Rattle.lnfs_script.specs.declared.identity.Identity.TheVariants as identities
use Rattle.lnfs_asking.specs.declared.plan.Plan.TheVariants as plans
use Rattle.lnfs_asking.specs.declared.sent.Sent.{Sent}
use Rattle.lnfs_asking.specs.Sending.{compound_of, sent_of}
use Rattle.lnfs_client.specs.Machine.{speaker_under}
use Rattle.lnfs_operations.specs.Extra.{Extra}
use Rattle.lnfs_step.specs.Wrapping.{Plain, Signed, caller, answer_text, refusal_text}
use Rattle.lnfs_step.specs.Request.{Call, Run, Asked, signed_under, request_with}
use Rattle.lnfs_once.specs.Client.{Compound as ACompound}
use Rattle.lnfs_slots.specs.Written.{context_of}
use Rattle.lnfs_retries.specs.Packets.{Setting, level_by, number_of_parent, handle_in, header_of, asked_as, suits_context}
use Rattle.lnfs_retries.proofs.Heard.{Hears, denies, plain_hears, signed_hears}
use Rattle.lnfs_retries.proofs.Asked.{guest_runs, member_runs}

module _ (X : Extra) (m : Signing) (p : Policy) (s : Setting) (level : ℕ) (o : Option Parent) where
  abbrev pub sent_for : (context xid : ℕ) → List Op → Sent
  sent_for context xid xs = sent_of m (speaker_under (handle_in (number_of_parent o) level context) o s.who) xid (plans.Ask xs)

  abbrev pub call_for : (context xid : ℕ) → List Op → Call
  call_for context xid xs = record { level = level; xid = xid; wrapping = signed_under o (header_of X m p s level o (sent_for context xid xs)) xid; context = context_of (number_of_parent o) context }

  -- A COMPOUND is asked as it is written, and its reply is heard.
  pub record Speaks : Type 0 where
    pub asks : (context xid : ℕ) (xs : List Op) (c : Compound) → suits_context o ACompound context ≡ true → xid < 2 ^ 32 → length (compound_text (compound_of xs)) + 4 ≤ RECORD_LIMIT → parse (compound X.grammar) (compound_text (compound_of xs)) ≡ Ok c
        → request_with X.grammar m p s.class (sent_for context xid xs).message ≡ Asked (call_for context xid xs) (Run (compound_text (compound_of xs)) c)
    pub hears : (context xid : ℕ) (xs : List Op) (said : List ℕ) → xid < 2 ^ 32 → length said + 4 ≤ RECORD_LIMIT
        → Hears (parse (content (results (map awaits_of xs))) said) (heard m (asked_as X m p s level o (sent_for context xid xs)) (answer_text m (call_for context xid xs).wrapping xid said))
    pub lost : (context xid : ℕ) (xs : List Op) → xid < 2 ^ 32 → heard m (asked_as X m p s level o (sent_for context xid xs)) (refusal_text m (call_for context xid xs).wrapping xid (caller RPCSEC_GSS_CTXPROBLEM)) ≡ heards.Denied RPCSEC_GSS_CTXPROBLEM

-- ---- a guest

module _ (X : Extra) (m : Signing) (p : Policy) (class own level uid : ℕ) (owner : List ℕ) where
  abbrev guest : Setting
  guest = record { class = class; level = own; who = identities.Guest uid; owner = owner }

  by_mode : (mode : Mode) → level_by mode p guest (identities.Guest uid) ≡ Some level → guest_in mode p class (Some uid) ≡ Guest (record { 0 = level })
  by_mode Enforcing e = ap guest_by e
  by_mode Limited e = ap guest_by e

  none_context : (context : ℕ) → suits_context None ACompound context ≡ true → context_of 0 context ≡ None
  none_context context e = ap (λ b. cond b None (Some (record { parent = 0; number = context }))) (and_parts (context == 0) true e).0

  pub guest_speaks : uid < 2 ^ 32 → level_by p.mode p guest (identities.Guest uid) ≡ Some level → Speaks X m p guest level None
  unfolding sent_of
  guest_speaks small is = record {
    asks = λ context xid xs c suits lt within read.
        guest_runs X.grammar m p class uid xid level (compound_text (compound_of xs)) c lt small (by_mode p.mode is) read
        ∙ ap (λ inside. Asked (record { level = level; xid = xid; wrapping = Plain; context = inside }) (Run (compound_text (compound_of xs)) c)) (sym (none_context context suits));
    hears = λ context xid xs said lt within. plain_hears m xid (header_of X m p guest level None (sent_for X m p guest level None context xid xs)) (results (map awaits_of xs)) said (parse (content (results (map awaits_of xs))) said) lt refl;
    lost = λ context xid xs lt. denies m (asked_as X m p guest level None (sent_for X m p guest level None context xid xs)) RPCSEC_GSS_CTXPROBLEM lt (omega arith);
  }

-- ---- a member

module _ (X : Extra) (m : Signing) (p : Policy) (class own level number : ℕ) (owner : List ℕ) (parent : Parent) (accepts : Accepts m) (sized : IsSized m) (known : IsParentOf p parent) (small : level < 2 ^ 32) (cleared : is_cleared p parent level ≡ true) where
  abbrev pub member : Setting
  member = record { class = class; level = own; who = identities.Full number; owner = owner }

  abbrev pub handle_of : (context : ℕ) → ContextHandle
  handle_of context = record { parent = parent.number; level = record { 0 = level }; number = context }

  abbrev handle_at : (context : ℕ) → List ℕ
  handle_at context = handle_in parent.number level context

  pub some_handle : (context : ℕ) → 1 ≤ context → handle_at context ≡ handle_text (handle_of context)
  some_handle context some =
      let other : (context == 0) ≡ false = grind (arith, nat_tests, some) in
      ap (λ b. cond b (handle_in parent.number level 0) (handle_text (handle_of context))) other

  pub some_inside : (context : ℕ) → 1 ≤ context → context_of parent.number context ≡ Some (record { parent = parent.number; number = context })
  some_inside context some =
      let other : (context == 0) ≡ false = grind (arith, nat_tests, some) in
      ap (λ b. cond b None (Some (record { parent = parent.number; number = context }))) other

  -- what is tested of its context
  parts : (context : ℕ) → suits_context (Some parent) ACompound context ≡ true → (1 ≤ context) × (context < 2 ^ 64)
  parts context e = let both = and_parts (nat_lt 0 context) (nat_lt context (2 ^ 64)) e in (omega (arith, ltb-true _ _ both.0), ltb-true _ _ both.1)

  abbrev sent_at : (handle : List ℕ) (xid : ℕ) → List Op → Sent
  sent_at handle xid xs = sent_of m (speaker_under handle (Some parent) (identities.Full number)) xid (plans.Ask xs)

  header_is : (handle : List ℕ) (xid : ℕ) (xs : List Op) → take (sent_at handle xid xs).header (sent_at handle xid xs).message ≡ data_header xid handle
  unfolding sent_of
  header_is handle xid xs = front m parent (data_header xid handle) (wrapped m parent xid (compound_text (compound_of xs)))

  asks_at : (handle : List ℕ) (context xid : ℕ) (xs : List Op) (c : Compound) → handle ≡ handle_text (handle_of context) → context < 2 ^ 64 → xid < 2 ^ 32 → length (compound_text (compound_of xs)) + 4 ≤ RECORD_LIMIT → parse (compound X.grammar) (compound_text (compound_of xs)) ≡ Ok c
      → request_with X.grammar m p class (sent_at handle xid xs).message ≡ Asked (record { level = level; xid = xid; wrapping = Signed parent (take (sent_at handle xid xs).header (sent_at handle xid xs).message) xid; context = Some (record { parent = parent.number; number = context }) }) (Run (compound_text (compound_of xs)) c)
  unfolding sent_of
  asks_at handle context xid xs c is fits lt within read =
      let arguments : List ℕ = compound_text (compound_of xs) in
      let message : List ℕ → List ℕ = λ handle. (sent_at handle xid xs).message in
      ap (λ (handle : List ℕ). request_with X.grammar m p class (message handle)) is
      ∙ member_runs X.grammar m p class parent accepts sized known xid lt (handle_of context) (known.number, small, fits) refl cleared arguments c within read
      ∙ ap (λ (header : List ℕ). Asked (record { level = level; xid = xid; wrapping = Signed parent header xid; context = Some (record { parent = parent.number; number = context }) }) (Run arguments c)) (ap (data_header xid) (sym is) ∙ sym (header_is handle xid xs))

  pub member_speaks : Speaks X m p member level (Some parent)
  unfolding sent_of
  member_speaks = record {
    asks = λ context xid xs c suits lt within read.
        let some = parts context suits in
        asks_at (handle_at context) context xid xs c (some_handle context some.0) some.1 lt within read
        ∙ ap (λ inside. Asked (record { level = level; xid = xid; wrapping = Signed parent (take (sent_at (handle_at context) xid xs).header (sent_at (handle_at context) xid xs).message) xid; context = inside }) (Run (compound_text (compound_of xs)) c)) (sym (some_inside context some.0));
    hears = λ context xid xs said lt within. signed_hears m sized accepts parent xid (take (sent_at (handle_at context) xid xs).header (sent_at (handle_at context) xid xs).message) (results (map awaits_of xs)) said tt lt within;
    lost = λ context xid xs lt. denies m (asked_as X m p member level (Some parent) (sent_for X m p member level (Some parent) context xid xs)) RPCSEC_GSS_CTXPROBLEM lt (omega arith);
  }
