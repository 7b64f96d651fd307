-- What is written is from whom it is meant to be.
use Rattle.std.proofs.Common.{◌≡◌, ◌==◌, ◌&&◌, ◌+◌, ◌<◌, ◌≤◌, ◌^◌, ℕ, Bool, true, false, cond, List, [], ◌++◌, length, take, Option, Some, None, Result, Ok, refl, sym, ap, ◌∙◌, arith}
use Rattle.std.specs.Prelude.{option_map}
use Rattle.std.proofs.lemmas.Bool.Decides.{nat_tests}
use Rattle.lnfs_types.specs.declared.limits.TheConstants.{RECORD_LIMIT}
use Rattle.lnfs_xdr.specs.Canon.{word}
use Rattle.lnfs_xdr.specs.Format.{Word}
use Rattle.lnfs_xdr.proofs.Sizes.{length-word}
use Rattle.lnfs_xdr.proofs.Spelled.{word_spelled}
use Rattle.lnfs_rpc.specs.declared.numbers.TheConstants.{PROC_COMPOUND}
use Rattle.lnfs_rpc.specs.Numbers.{last_procedure}
use Rattle.lnfs_rpc.specs.Calls.{CallMessage}
use Rattle.lnfs_rpc.specs.CallGrammar.{IsCall}
use Rattle.lnfs_format.specs.LevelRead.{level_read}
use Rattle.lnfs_policy.specs.declared.rows.Parent.{Parent}
use Rattle.lnfs_policy.specs.Policy.{Policy, dominance, parent_at}
use Rattle.lnfs_gss3.specs.declared.caller.Caller.{Caller}
use Rattle.lnfs_gss3.specs.declared.caller.Caller.TheVariants.{Nobody, Garbage, Create, Data, Destroy}
use Rattle.lnfs_gss3.specs.declared.handle.ContextHandle.{ContextHandle}
use Rattle.lnfs_gss3.specs.declared.numbers.TheConstants.{PROC_NULL, RPCSEC_GSS_CREATE, RPCSEC_GSS_DATA, RPCSEC_GSS_DESTROY, RPCSEC_GSS_LABEL_PROBLEM, INTEGRITY, SIGNATURE}
use Rattle.lnfs_gss3.specs.Mechanism.{Signing, IsSized}
use Rattle.lnfs_gss3.specs.Grammar.{whole, Credential, parent_handle, Body, body, Assertion, create_args, create_args_text, databody, handle_text}
use Rattle.lnfs_gss3.specs.Replies.{signed_by, wrapped}
use Rattle.lnfs_gss3.specs.Laws.{AssertionFits, HandleFits}
use Rattle.lnfs_gss3.specs.Who.{demand, where_there, not_known, is_signed, checked, Named, named_by, named_in, named, HeldContext, is_cleared, held_by, held_in, held, asserted, asserting, create, data_in, in_context, destroy, by_procedure, by_gss, who}
use Rattle.lnfs_gss3.proofs.Reading.{whole_told, credential_again, args_again, handle_again, body_again}
use Rattle.lnfs_calls.specs.CallTexts.{AuthFits, header_text, call_text, made_call}
use Rattle.lnfs_calls.proofs.Called.{is_call}
use Rattle.lnfs_signed_calls.specs.SignedCalls.{gss_auth, signature, signed_call, create_call, data_call, destroy_call}
use Rattle.lnfs_signed_calls.specs.Laws.{Accepts, IsParentOf, IsFrom, IsAskedBy}
use Rattle.lnfs_signed_calls.proofs.Lengths.{credential_length, handle_length, args_length}

-- ---- sizes

gss_fits : (procedure sequence : ℕ) (handle : List ℕ) → length handle ≤ 16 → AuthFits (gss_auth procedure sequence handle)
gss_fits procedure sequence handle short =
    (omega arith, omega (arith, credential_length (record { procedure = procedure; sequence = sequence; service = INTEGRITY; handle = handle }), short))

-- ---- a call under a parent of the policy

module _ (m : Signing) (p : Policy) (parent : Parent) (good : Accepts m) (sized : IsSized m) (known : IsParentOf p parent) (xid : ℕ) (lt : xid < 2 ^ 32) where
  -- what is read
  abbrev made : (procedure asked : ℕ) → (handle arguments : List ℕ) → CallMessage
  made procedure asked handle arguments =
      made_call xid procedure (gss_auth asked xid handle) (signature m parent (header_text xid procedure (gss_auth asked xid handle))) arguments

  is_made : (procedure asked : ℕ) (handle arguments : List ℕ) → procedure ≤ last_procedure → length handle ≤ 16
      → IsCall (made procedure asked handle arguments) (signed_call m parent (header_text xid procedure (gss_auth asked xid handle)) arguments).message
  unfolding call_text
  is_made procedure asked handle arguments served short =
      is_call xid procedure (gss_auth asked xid handle) (signature m parent (header_text xid procedure (gss_auth asked xid handle))) arguments lt served (gss_fits asked xid handle short)
      (omega arith, omega (arith, sized.size parent (header_text xid procedure (gss_auth asked xid handle))))

  abbrev own : (asked : ℕ) → (handle : List ℕ) → Credential
  own asked handle = record { procedure = asked; sequence = xid; service = INTEGRITY; handle = handle }

  by_own : (class procedure asked : ℕ) (handle arguments : List ℕ) → asked < 2 ^ 32 → length handle ≤ 16
      → who m p class (made procedure asked handle arguments) ≡ by_procedure m p (made procedure asked handle arguments) (own asked handle)
  unfolding who
  by_own class procedure asked handle arguments small short =
      let call : CallMessage = made procedure asked handle arguments in
      ap (λ mode. by_gss mode m p call) known.mode
      ∙ ap (λ o. where_there o not_known (by_procedure m p call)) (credential_again (own asked handle) (small, lt, omega arith, omega (arith, short)))

  is_good : (procedure asked : ℕ) (handle arguments : List ℕ) → is_signed m parent (made procedure asked handle arguments) ≡ true
  is_good procedure asked handle arguments = good parent (header_text xid procedure (gss_auth asked xid handle))

  abbrev inside : (content : List ℕ) → Body
  inside content = record { signed = signed_by m parent (databody xid content); sequence = xid; content = content }

  is_inside : (content : List ℕ) → length content + 4 ≤ RECORD_LIMIT → body (wrapped m parent xid content) ≡ Some (inside content)
  is_inside content short = body_again m parent xid content (lt, short, omega (arith, sized.size parent (databody xid content)))

  is_checked : (content : List ℕ) → length content + 4 ≤ RECORD_LIMIT → checked m parent (body (wrapped m parent xid content)) ≡ Some (inside content)
  is_checked content short =
      ap (checked m parent) (is_inside content short) ∙ ap (λ b. cond b (Some (inside content)) None) (good parent (databody xid content))

  same_number : (xid == xid) ≡ true
  same_number = grind (arith, nat_tests)

  -- ---- CREATE

  abbrev named_own : Named
  named_own = record { number = parent.number; parent = parent }

  is_named : named p (word parent.number) ≡ Some named_own
  unfolding parent_handle
  is_named =
      ap (named_in p) (whole_told Word (word parent.number) parent.number (word_spelled {E = ⊥} parent.number known.number).is)
      ∙ ap (named_by parent.number) known.known

  pub created : (a : Assertion) (level : ℕ) → AssertionFits a → level_read p.formats p.labels a.lfs a.pi a.label ≡ Ok level → dominance p parent.clearance.0 level ≡ true
      → IsFrom m p (Create (record { 0 = level }) parent.number xid a.lfs a.pi a.label) (create_call m parent xid a).message
  created a level fits read cleared =
      let handle : List ℕ = word parent.number in
      let content : List ℕ = create_args_text a in
      let short : length handle ≤ 16 = omega (arith, length-word parent.number) in
      let within : length content + 4 ≤ RECORD_LIMIT = omega (arith, args_length a, fits.2) in
      let call : CallMessage = made PROC_NULL RPCSEC_GSS_CREATE handle (wrapped m parent xid content) in
      let garbage : Caller = Garbage parent.number xid in
      let label : Caller = Nobody RPCSEC_GSS_LABEL_PROBLEM in
      let granted : Caller = Create (record { 0 = level }) parent.number xid a.lfs a.pi a.label in record {
        call = call;
        call_is = is_made PROC_NULL RPCSEC_GSS_CREATE handle (wrapped m parent xid content) (omega arith) short;
        from = λ class.
            by_own class PROC_NULL RPCSEC_GSS_CREATE handle (wrapped m parent xid content) (omega arith) short
            ∙ ap (λ o. where_there o not_known (λ n. demand (is_signed m n.parent call) not_known (where_there (checked m n.parent (body call.arguments)) (Garbage n.number xid) (asserting p n xid)))) is_named
            ∙ ap (λ b. demand b not_known (where_there (checked m parent (body call.arguments)) garbage (asserting p named_own xid))) (is_good PROC_NULL RPCSEC_GSS_CREATE handle (wrapped m parent xid content))
            ∙ ap (λ o. where_there o garbage (asserting p named_own xid)) (is_checked content within)
            ∙ ap (λ b. demand b garbage (where_there (whole create_args content) garbage (λ a. asserted p named_own xid a (level_read p.formats p.labels a.lfs a.pi a.label)))) same_number
            ∙ ap (λ o. where_there o garbage (λ a. asserted p named_own xid a (level_read p.formats p.labels a.lfs a.pi a.label))) (args_again a fits)
            ∙ ap (asserted p named_own xid a) read
            ∙ ap (λ b. demand b label granted) cleared;
      }

  -- ---- in a context

  module _ (h : ContextHandle) (fits : HandleFits h) (under : h.parent ≡ parent.number) (cleared : is_cleared p parent h.level.0 ≡ true) where
    abbrev held_own : HeldContext
    held_own = record { handle = h; parent = parent }

    is_held : held p (handle_text h) ≡ Some held_own
    is_held =
        ap (held_in p) (handle_again h fits)
        ∙ ap (held_by p h) (ap (parent_at p) under ∙ known.known)
        ∙ ap (λ b. cond b (Some held_own) None) cleared

    -- ---- DATA

    pub asked_in : (arguments : List ℕ) → length arguments + 4 ≤ RECORD_LIMIT
        → IsAskedBy m p (Data h.level h.parent h.number xid true) arguments (data_call m parent xid (handle_text h) arguments).message
    asked_in arguments within =
        let handle : List ℕ = handle_text h in
        let short : length handle ≤ 16 = omega (arith, handle_length h) in
        let call : CallMessage = made PROC_COMPOUND RPCSEC_GSS_DATA handle (wrapped m parent xid arguments) in
        let c : Credential = own RPCSEC_GSS_DATA handle in
        let garbage : Caller = Garbage h.parent xid in record {
          call = call;
          call_is = is_made PROC_COMPOUND RPCSEC_GSS_DATA handle (wrapped m parent xid arguments) (omega arith) short;
          from = λ class.
              by_own class PROC_COMPOUND RPCSEC_GSS_DATA handle (wrapped m parent xid arguments) (omega arith) short
              ∙ ap (λ o. where_there o not_known (λ x. demand (is_signed m x.parent call) not_known (where_there (checked m x.parent (body call.arguments)) (Garbage x.handle.parent xid) (data_in c x)))) is_held
              ∙ ap (λ b. demand b not_known (where_there (checked m parent (body call.arguments)) garbage (data_in c held_own))) (is_good PROC_COMPOUND RPCSEC_GSS_DATA handle (wrapped m parent xid arguments))
              ∙ ap (λ o. where_there o garbage (data_in c held_own)) (is_checked arguments within)
              ∙ ap (λ b. Data h.level h.parent h.number xid b) same_number;
          asked = ap (λ o. option_map (λ (b : Body). b.content) o) (is_inside arguments within);
        }

    -- ---- DESTROY

    pub ended : IsFrom m p (Destroy h.level h.parent h.number) (destroy_call m parent xid (handle_text h)).message
    ended =
        let handle : List ℕ = handle_text h in
        let short : length handle ≤ 16 = omega (arith, handle_length h) in
        let call : CallMessage = made PROC_NULL RPCSEC_GSS_DESTROY handle [] in record {
          call = call;
          call_is = is_made PROC_NULL RPCSEC_GSS_DESTROY handle [] (omega arith) short;
          from = λ class.
              by_own class PROC_NULL RPCSEC_GSS_DESTROY handle [] (omega arith) short
              ∙ ap (λ o. where_there o not_known (λ (x : HeldContext). demand (is_signed m x.parent call) not_known (Destroy x.handle.level x.handle.parent x.handle.number))) is_held
              ∙ ap (λ b. demand b not_known (Destroy h.level h.parent h.number)) (is_good PROC_NULL RPCSEC_GSS_DESTROY handle []);
        }
