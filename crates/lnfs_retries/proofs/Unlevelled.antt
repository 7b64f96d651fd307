-- A client that the policy gives no level: each of its requests is refused as a whole.
use Rattle.std.proofs.Common.{◌≡◌, ℕ, ◌+◌, ◌≤◌, ◌<◌, ◌^◌, Bool, true, false, cond, List, length, Option, Some, None, Ok, Err, codes, refl, sym, ap, ◌∙◌, subst, arith}
use Rattle.std.specs.Prelude.{Result, nat_lt, ◌==◌, ◌&&◌}
use Rattle.std.proofs.lemmas.Bool.Decides.{nat_tests}
use Rattle.std.proofs.lemmas.List.Quantifiers.{position-Some}
use Rattle.lnfs_types.specs.declared.limits.TheConstants.{RECORD_LIMIT}
use Rattle.lnfs_calipso.specs.Label.{Label}
use Rattle.lnfs_calipso.specs.Same as same
use Rattle.lnfs_xdr.specs.Canon.{word}
use Rattle.lnfs_xdr.specs.Format.{Word}
use Rattle.lnfs_xdr.proofs.Sizes.{length-word}
use Rattle.lnfs_xdr.proofs.Spelled.{word_spelled}
use Rattle.lnfs_rpc.specs.declared.numbers.TheConstants.{PROC_COMPOUND}
use Rattle.lnfs_rpc.specs.Calls.{CallMessage}
use Rattle.lnfs_rpc.specs.CallGrammar.{IsCall}
use Rattle.lnfs_rpc.specs.Sys.{sys_of}
use Rattle.lnfs_rpc.proofs.Credentials.{sys_told}
use Rattle.lnfs_arguments.specs.Further.{Further}
use Rattle.lnfs_format.specs.Kinds.{reads}
use Rattle.lnfs_format.specs.Entries.{entry_of}
use Rattle.lnfs_format.specs.LevelRead.{or_bad, level_in, read_in, level_read}
use Rattle.lnfs_format.specs.declared.formats.FormatEntry.{FormatEntry}
use Rattle.lnfs_format.specs.declared.formats.ReadError.{ReadError}
use Rattle.lnfs_policy.specs.declared.mode.Mode.{Mode}
use Rattle.lnfs_policy.specs.declared.mode.Mode.TheVariants.{Enforcing, Limited}
use Rattle.lnfs_policy.specs.declared.rows.Parent.{Parent}
use Rattle.lnfs_policy.specs.Policy.{Policy, dominance}
use Rattle.lnfs_gss3.specs.declared.caller.Caller.{Caller}
use Rattle.lnfs_gss3.specs.declared.caller.Caller.TheVariants.{Nobody, Garbage, Create}
use Rattle.lnfs_gss3.specs.declared.numbers.TheConstants.{PROC_NULL, AUTH_TOOWEAK, RPCSEC_GSS_CREATE, RPCSEC_GSS_LABEL_PROBLEM, INTEGRITY}
use Rattle.lnfs_gss3.specs.Mechanism.{Signing, IsSized}
use Rattle.lnfs_gss3.specs.Grammar.{whole, Credential, parent_handle, Body, body, Assertion, create_args, create_args_text, databody}
use Rattle.lnfs_gss3.specs.Laws.{AssertionFits}
use Rattle.lnfs_gss3.specs.Replies.{signed_by, wrapped}
use Rattle.lnfs_gss3.specs.Who.{demand, where_there, guest_in, guest_of, not_known, is_signed, checked, Named, named_by, named_in, named, is_cleared, asserted, asserting, by_procedure, by_gss, who}
use Rattle.lnfs_gss3.proofs.Reading.{whole_told, credential_again, args_again, body_again}
use Rattle.lnfs_calls.specs.CallTexts.{AuthFits, header_text, call_text, made_call, no_auth}
use Rattle.lnfs_calls.proofs.Called.{is_call, none_fits, user_fits, user_spelled}
use Rattle.lnfs_signed_calls.specs.Laws.{Accepts}
use Rattle.lnfs_signed_calls.specs.SignedCalls.{gss_auth, signature, create_call}
use Rattle.lnfs_signed_calls.proofs.Lengths.{credential_length, args_length}
use Rattle.lnfs_asking.specs.Sending.{guest_auth, plain_call}
use Rattle.lnfs_step.specs.Wrapping.{Plain, caller}
use Rattle.lnfs_step.specs.Request.{Refused, request_with}
use Rattle.lnfs_retries.specs.Packets.{ParentFits, cleared_level}
use Rattle.lnfs_retries.proofs.Asked.{asks_as}

-- ---- a label that is read has a level of the policy

place_is : (labels : List Label) (level : ℕ) (o : Option ℕ) → ((i : ℕ) → o ≡ Some i → i < length labels) → or_bad o ≡ Ok level → level < length labels
place_is labels level None each e = absurd cc
place_is labels level (Some i) each e = let own : i ≡ level = cc in subst (λ (n : ℕ). n < length labels) own (each i refl)

label_is : (labels : List Label) (level : ℕ) (o : Option Label) → level_in labels o ≡ Ok level → level < length labels
label_is labels level None e = absurd cc
label_is labels level (Some label) e = place_is labels level (same.level_of labels label) (λ i is. (position-Some (λ l. same.same_label l label) labels i label is).0) e

entry_is : (labels : List Label) (bytes : List ℕ) (level : ℕ) (o : Option FormatEntry) → read_in o labels bytes ≡ Ok level → level < length labels
entry_is labels bytes level None e = absurd cc
entry_is labels bytes level (Some entry) e = label_is labels level (reads entry.kind bytes) e

read_is : (entries : List FormatEntry) (labels : List Label) (lfs pi : ℕ) (bytes : List ℕ) (level : ℕ) → level_read entries labels lfs pi bytes ≡ Ok level → level < length labels
unfolding level_read
read_is entries labels lfs pi bytes level e = entry_is labels bytes level (entry_of entries lfs pi) e

module _ (g : Further) (m : Signing) (p : Policy) (class : ℕ) where
  -- ---- a guest without a line

  pub guest_refused : (uid xid : ℕ) (arguments : List ℕ) → xid < 2 ^ 32 → uid < 2 ^ 32 → guest_in p.mode p class (Some uid) ≡ Nobody AUTH_TOOWEAK
      → request_with g m p class (plain_call uid xid PROC_COMPOUND arguments).message ≡ Refused xid Plain (caller AUTH_TOOWEAK)
  unfolding call_text who
  guest_refused uid xid arguments lt small is =
      let call : CallMessage = made_call xid PROC_COMPOUND (guest_auth uid) no_auth arguments in
      let short : length (codes "client") ≤ 255 = omega arith in
      let user : sys_of (guest_auth uid).body ≡ Ok (record { uid = uid; gid = 0 }) = sys_told (guest_auth uid).body (record { uid = uid; gid = 0 }) (user_spelled (codes "client") uid short small) in
      let from : who m p class call ≡ Nobody AUTH_TOOWEAK = ap (guest_of p class PROC_COMPOUND) user ∙ is in
      asks_as g m p class call (Nobody AUTH_TOOWEAK) (plain_call uid xid PROC_COMPOUND arguments).message (is_call xid PROC_COMPOUND (guest_auth uid) no_auth arguments lt (omega arith) (user_fits (codes "client") uid short) none_fits) from

  -- ---- a member whose label isn't taken

  module _ (parent : Parent) (good : Accepts m) (sized : IsSized m) (fits : ParentFits p parent) (xid : ℕ) (lt : xid < 2 ^ 32) (a : Assertion) (a_fits : AssertionFits a) where
    abbrev handle : List ℕ
    handle = word parent.number

    abbrev content : List ℕ
    content = create_args_text a

    abbrev call : CallMessage
    call = made_call xid PROC_NULL (gss_auth RPCSEC_GSS_CREATE xid handle) (signature m parent (header_text xid PROC_NULL (gss_auth RPCSEC_GSS_CREATE xid handle))) (wrapped m parent xid content)

    short : length handle ≤ 16
    short = omega (arith, length-word parent.number)

    within : length content + 4 ≤ RECORD_LIMIT
    within = omega (arith, args_length a, a_fits.2)

    abbrev own : Credential
    own = record { procedure = RPCSEC_GSS_CREATE; sequence = xid; service = INTEGRITY; handle = handle }

    gss_fits : AuthFits (gss_auth RPCSEC_GSS_CREATE xid handle)
    gss_fits = (omega arith, omega (arith, credential_length own, short))

    is_made : IsCall call (create_call m parent xid a).message
    unfolding call_text
    is_made = is_call xid PROC_NULL (gss_auth RPCSEC_GSS_CREATE xid handle) (signature m parent (header_text xid PROC_NULL (gss_auth RPCSEC_GSS_CREATE xid handle))) (wrapped m parent xid content) lt (omega arith) gss_fits
        (omega arith, omega (arith, sized.size parent (header_text xid PROC_NULL (gss_auth RPCSEC_GSS_CREATE xid handle))))

    by_mode : who m p class call ≡ by_gss p.mode m p call
    unfolding who
    by_mode = refl

    -- where the clients enforce
    pub limited_refused : p.mode ≡ Limited → request_with g m p class (create_call m parent xid a).message ≡ Refused xid Plain (caller AUTH_TOOWEAK)
    limited_refused e = asks_as g m p class call (Nobody AUTH_TOOWEAK) (create_call m parent xid a).message is_made (by_mode ∙ ap (λ (mode : Mode). by_gss mode m p call) e)

    abbrev named_own : Named
    named_own = record { number = parent.number; parent = parent }

    is_named : named p handle ≡ Some named_own
    unfolding parent_handle
    is_named = ap (named_in p) (whole_told Word handle parent.number (word_spelled {E = ⊥} parent.number fits.1).is) ∙ ap (named_by parent.number) fits.0

    is_good : is_signed m parent call ≡ true
    is_good = good parent (header_text xid PROC_NULL (gss_auth RPCSEC_GSS_CREATE xid handle))

    abbrev inside : Body
    inside = record { signed = signed_by m parent (databody xid content); sequence = xid; content = content }

    is_checked : checked m parent (body (wrapped m parent xid content)) ≡ Some inside
    is_checked =
        ap (checked m parent) (body_again m parent xid content (lt, within, omega (arith, sized.size parent (databody xid content))))
        ∙ ap (λ b. cond b (Some inside) None) (good parent (databody xid content))

    same_number : (xid == xid) ≡ true
    same_number = grind (arith, nat_tests)

    abbrev garbage : Caller
    garbage = Garbage parent.number xid

    judged : p.mode ≡ Enforcing → who m p class call ≡ asserted p named_own xid a (level_read p.formats p.labels a.lfs a.pi a.label)
    judged mode =
        by_mode ∙ ap (λ (mode : Mode). by_gss mode m p call) mode
        ∙ ap (λ o. where_there o not_known (by_procedure m p call)) (credential_again own (omega arith, lt, omega arith, omega (arith, short)))
        ∙ ap (λ o. where_there o not_known (λ n. demand (is_signed m n.parent call) not_known (where_there (checked m n.parent (body call.arguments)) (Garbage n.number xid) (asserting p n xid)))) is_named
        ∙ ap (λ b. demand b not_known (where_there (checked m parent (body call.arguments)) garbage (asserting p named_own xid))) is_good
        ∙ ap (λ o. where_there o garbage (asserting p named_own xid)) is_checked
        ∙ ap (λ b. demand b garbage (where_there (whole create_args content) garbage (λ a. asserted p named_own xid a (level_read p.formats p.labels a.lfs a.pi a.label)))) same_number
        ∙ ap (λ o. where_there o garbage (λ a. asserted p named_own xid a (level_read p.formats p.labels a.lfs a.pi a.label))) (args_again a a_fits)

    not_asserted : (r : Result ℕ ReadError) → level_read p.formats p.labels a.lfs a.pi a.label ≡ r → cleared_level p parent r ≡ None → asserted p named_own xid a r ≡ Nobody RPCSEC_GSS_LABEL_PROBLEM
    not_asserted (Err e) is none = refl
    not_asserted (Ok level) is none = at (dominance p parent.clearance.0 level) refl
      where
        there : nat_lt level (length p.labels) ≡ true
        there = let below = read_is p.formats p.labels a.lfs a.pi a.label level is in grind (arith, nat_tests, below)

        at : (b : Bool) → dominance p parent.clearance.0 level ≡ b → demand b (Nobody RPCSEC_GSS_LABEL_PROBLEM) (Create (record { 0 = level }) parent.number xid a.lfs a.pi a.label) ≡ Nobody RPCSEC_GSS_LABEL_PROBLEM
        at false e = refl
        at true e =
            let cleared : is_cleared p parent level ≡ true = ap (λ (b : Bool). b && dominance p parent.clearance.0 level) there ∙ e in
            absurd (let some : Some level ≡ None = sym (ap (λ (b : Bool). cond b (Some level) None) cleared) ∙ none in cc)

    pub label_refused : p.mode ≡ Enforcing → cleared_level p parent (level_read p.formats p.labels a.lfs a.pi a.label) ≡ None → request_with g m p class (create_call m parent xid a).message ≡ Refused xid Plain (caller RPCSEC_GSS_LABEL_PROBLEM)
    label_refused mode none = asks_as g m p class call (Nobody RPCSEC_GSS_LABEL_PROBLEM) (create_call m parent xid a).message is_made (judged mode ∙ not_asserted (level_read p.formats p.labels a.lfs a.pi a.label) refl none)
