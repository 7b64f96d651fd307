-- What the client's records ask of the server.
use Rattle.std.proofs.Common.{◌≡◌, ℕ, ◌+◌, ◌≤◌, ◌<◌, ◌^◌, true, List, [], length, Option, Some, None, Ok, refl, ap, ◌∙◌, subst, arith}
use Rattle.std.specs.Prelude.{Result, codes, option_map}
use Rattle.lnfs_types.specs.declared.limits.TheConstants.{RECORD_LIMIT}
use Rattle.lnfs_xdr.specs.Message.{parse}
use Rattle.lnfs_rpc.specs.declared.calls.CallError.{CallError}
use Rattle.lnfs_rpc.specs.declared.numbers.TheConstants.{PROC_COMPOUND}
use Rattle.lnfs_rpc.specs.Calls.{CallMessage, call_of}
use Rattle.lnfs_rpc.specs.CallGrammar.{IsCall}
use Rattle.lnfs_rpc.specs.Sys.{sys_of}
use Rattle.lnfs_rpc.proofs.Calling.{call_told}
use Rattle.lnfs_rpc.proofs.Credentials.{sys_told}
use Rattle.lnfs_arguments.specs.declared.types.Compound.{Compound}
use Rattle.lnfs_arguments.specs.Further.{Further}
use Rattle.lnfs_arguments.specs.Whole.{compound}
use Rattle.lnfs_format.specs.LevelRead.{level_read}
use Rattle.lnfs_policy.specs.declared.rows.Parent.{Parent}
use Rattle.lnfs_policy.specs.Policy.{Policy, dominance, parent_at}
use Rattle.lnfs_gss3.specs.declared.caller.Caller.{Caller}
use Rattle.lnfs_gss3.specs.declared.caller.Caller.TheVariants.{Guest, Create, Data, Destroy}
use Rattle.lnfs_gss3.specs.declared.handle.ContextHandle.{ContextHandle}
use Rattle.lnfs_gss3.specs.declared.numbers.TheConstants.{PROC_NULL, RPCSEC_GSS_CREATE, RPCSEC_GSS_DATA, RPCSEC_GSS_DESTROY, INTEGRITY}
use Rattle.lnfs_gss3.specs.Mechanism.{Signing, IsSized}
use Rattle.lnfs_gss3.specs.Grammar.{Body, body, Assertion, create_args_text, handle_text}
use Rattle.lnfs_gss3.specs.Laws.{AssertionFits, HandleFits}
use Rattle.lnfs_gss3.specs.Replies.{wrapped}
use Rattle.lnfs_gss3.specs.Who.{is_cleared, guest_in, guest_of, who}
use Rattle.lnfs_xdr.specs.Canon.{word}
use Rattle.lnfs_xdr.proofs.Sizes.{length-word}
use Rattle.lnfs_calls.specs.CallTexts.{AuthFits, header_text, call_text, made_call, no_auth}
use Rattle.lnfs_calls.proofs.Called.{is_call, none_fits, user_fits, user_spelled}
use Rattle.lnfs_signed_calls.specs.Laws.{Accepts, IsParentOf}
use Rattle.lnfs_signed_calls.specs.SignedCalls.{gss_auth, signature, create_header, data_header, destroy_header, create_call, data_call, destroy_call}
use Rattle.lnfs_signed_calls.proofs.Lengths.{credential_length, handle_length}
use Rattle.lnfs_signed_calls.proofs.Calling.{created, asked_in, ended}
use Rattle.lnfs_asking.specs.Sending.{guest_auth, plain_call}
use Rattle.lnfs_step.specs.Wrapping.{Plain, Signed}
use Rattle.lnfs_step.specs.Request.{InContext, Call, Task, Run, MakeContext, EndContext, Asked, signed_under, run_as, run_of, run_in, asked_by, asked_of, request_with}

same_call : (a b : CallMessage) (r : Result CallMessage CallError) → r ≡ Ok a → r ≡ Ok b → a ≡ b
same_call a b r e f = cc

module _ (g : Further) (m : Signing) (p : Policy) (class : ℕ) where
  -- a record that is a call asks what its caller asks
  pub asks_as : (call : CallMessage) (caller : Caller) (message : List ℕ) → IsCall call message → who m p class call ≡ caller → request_with g m p class message ≡ asked_by g p call caller
  unfolding request_with
  asks_as call caller message is from = ap (asked_of g m p class) (call_told message call is) ∙ ap (asked_by g p call) from

  runs : (arguments : List ℕ) (c : Compound) → parse (compound g) arguments ≡ Ok c → run_of g arguments ≡ Run arguments c
  runs arguments c e = ap (run_as arguments) e

  -- ---- a guest

  pub guest_runs : (uid xid level : ℕ) (arguments : List ℕ) (c : Compound) → xid < 2 ^ 32 → uid < 2 ^ 32 → guest_in p.mode p class (Some uid) ≡ Guest (record { 0 = level }) → parse (compound g) arguments ≡ Ok c
      → request_with g m p class (plain_call uid xid PROC_COMPOUND arguments).message ≡ Asked (record { level = level; xid = xid; wrapping = Plain; context = None }) (Run arguments c)
  unfolding call_text who
  guest_runs uid xid level arguments c lt small is read =
      let call : CallMessage = made_call xid PROC_COMPOUND (guest_auth uid) no_auth arguments in
      let short : length (codes "client") ≤ 255 = omega arith in
      let user : sys_of (guest_auth uid).body ≡ Ok (record { uid = uid; gid = 0 }) = sys_told (guest_auth uid).body (record { uid = uid; gid = 0 }) (user_spelled (codes "client") uid short small) in
      let from : who m p class call ≡ Guest (record { 0 = level }) = ap (guest_of p class PROC_COMPOUND) user ∙ is in
      asks_as call (Guest (record { 0 = level })) (plain_call uid xid PROC_COMPOUND arguments).message (is_call xid PROC_COMPOUND (guest_auth uid) no_auth arguments lt (omega arith) (user_fits (codes "client") uid short) none_fits) from
      ∙ ap (λ (t : Task). Asked (record { level = level; xid = xid; wrapping = Plain; context = None }) t) (runs arguments c read)

  -- ---- a member

  run_inside : (o : Option Body) (arguments : List ℕ) → option_map (λ (b : Body). b.content) o ≡ Some arguments → run_in g o ≡ run_of g arguments
  run_inside None arguments e = absurd cc
  run_inside (Some b) arguments e = let same : b.content ≡ arguments = cc in ap (run_of g) same

  module _ (parent : Parent) (good : Accepts m) (sized : IsSized m) (known : IsParentOf p parent) (xid : ℕ) (lt : xid < 2 ^ 32) where
    abbrev made : (procedure asked : ℕ) → (handle arguments : List ℕ) → CallMessage
    made procedure asked handle arguments =
        made_call xid procedure (gss_auth asked xid handle) (signature m parent (header_text xid procedure (gss_auth asked xid handle))) arguments

    gss_fits : (asked : ℕ) (handle : List ℕ) → length handle ≤ 16 → AuthFits (gss_auth asked xid handle)
    gss_fits asked handle short = (omega arith, omega (arith, credential_length (record { procedure = asked; sequence = xid; service = INTEGRITY; handle = handle }), short))

    is_made : (procedure asked : ℕ) (handle arguments : List ℕ) → procedure ≤ 1 → length handle ≤ 16
        → IsCall (made procedure asked handle arguments) (call_text xid procedure (gss_auth asked xid handle) (signature m parent (header_text xid procedure (gss_auth asked xid handle))) arguments)
    is_made procedure asked handle arguments served short =
        is_call xid procedure (gss_auth asked xid handle) (signature m parent (header_text xid procedure (gss_auth asked xid handle))) arguments lt served (gss_fits asked handle short)
        (omega arith, omega (arith, sized.size parent (header_text xid procedure (gss_auth asked xid handle))))

    from_same : (call : CallMessage) (caller : Caller) (message : List ℕ) → IsCall call message → (other : CallMessage) → IsCall other message → who m p class other ≡ caller → request_with g m p class message ≡ asked_by g p call caller
    from_same call caller message is other also from =
        let same : other ≡ call = same_call other call (call_of message) (call_told message other also) (call_told message call is) in
        asks_as call caller message is (subst (λ c. who m p class c ≡ caller) same from)

    abbrev signed_call_of : (level : ℕ) → (header : List ℕ) → (sequence : ℕ) → Option InContext → Call
    signed_call_of level header sequence context = record { level = level; xid = xid; wrapping = Signed parent header sequence; context = context }

    wrapped_under : (number : ℕ) (header : List ℕ) (sequence : ℕ) → number ≡ parent.number → signed_under (parent_at p number) header sequence ≡ Signed parent header sequence
    wrapped_under number header sequence under = ap (λ o. signed_under o header sequence) (ap (parent_at p) under ∙ known.known)

    pub member_asserts : (a : Assertion) (level : ℕ) → AssertionFits a → level_read p.formats p.labels a.lfs a.pi a.label ≡ Ok level → dominance p parent.clearance.0 level ≡ true
        → request_with g m p class (create_call m parent xid a).message ≡ Asked (signed_call_of level (create_header xid parent.number) xid None) (MakeContext parent.number a)
    unfolding call_text
    member_asserts a level fits read cleared =
        let handle : List ℕ = word parent.number in
        let arguments : List ℕ = wrapped m parent xid (create_args_text a) in
        let call : CallMessage = made PROC_NULL RPCSEC_GSS_CREATE handle arguments in
        let f = created m p parent good sized known xid lt a level fits read cleared in
        from_same call (Create (record { 0 = level }) parent.number xid a.lfs a.pi a.label) (create_call m parent xid a).message (is_made PROC_NULL RPCSEC_GSS_CREATE handle arguments (omega arith) (omega (arith, length-word parent.number))) f.call f.call_is (f.from class)
        ∙ ap (λ w. Asked (record { level = level; xid = xid; wrapping = w; context = None }) (MakeContext parent.number a)) (wrapped_under parent.number call.header xid refl)

    module _ (h : ContextHandle) (fits : HandleFits h) (under : h.parent ≡ parent.number) (cleared : is_cleared p parent h.level.0 ≡ true) where
      abbrev handle : List ℕ
      handle = handle_text h

      short : length handle ≤ 16
      short = omega (arith, handle_length h)

      abbrev inside : Option InContext
      inside = Some (record { parent = h.parent; number = h.number })

      pub member_runs : (arguments : List ℕ) (c : Compound) → length arguments + 4 ≤ RECORD_LIMIT → parse (compound g) arguments ≡ Ok c
          → request_with g m p class (data_call m parent xid handle arguments).message ≡ Asked (signed_call_of h.level.0 (data_header xid handle) xid inside) (Run arguments c)
      unfolding call_text
      member_runs arguments c within read =
          let call : CallMessage = made PROC_COMPOUND RPCSEC_GSS_DATA handle (wrapped m parent xid arguments) in
          let f = asked_in m p parent good sized known xid lt h fits under cleared arguments within in
          let is : IsCall call (data_call m parent xid handle arguments).message = is_made PROC_COMPOUND RPCSEC_GSS_DATA handle (wrapped m parent xid arguments) (omega arith) short in
          let same : f.call ≡ call = same_call f.call call (call_of (data_call m parent xid handle arguments).message) (call_told _ f.call f.call_is) (call_told _ call is) in
          let asked : option_map (λ (b : Body). b.content) (body call.arguments) ≡ Some arguments = subst (λ (c : CallMessage). option_map (λ (b : Body). b.content) (body c.arguments) ≡ Some arguments) same f.asked in
          from_same call (Data h.level h.parent h.number xid true) (data_call m parent xid handle arguments).message is f.call f.call_is (f.from class)
          ∙ ap (λ t. Asked (record { level = h.level.0; xid = xid; wrapping = signed_under (parent_at p h.parent) call.header xid; context = inside }) t) (run_inside (body call.arguments) arguments asked ∙ runs arguments c read)
          ∙ ap (λ w. Asked (record { level = h.level.0; xid = xid; wrapping = w; context = inside }) (Run arguments c)) (wrapped_under h.parent call.header xid under)

      pub member_ends : request_with g m p class (destroy_call m parent xid handle).message ≡ Asked (signed_call_of h.level.0 (destroy_header xid handle) 0 inside) (EndContext h.number)
      unfolding call_text
      member_ends =
          let call : CallMessage = made PROC_NULL RPCSEC_GSS_DESTROY handle [] in
          let f = ended m p parent good sized known xid lt h fits under cleared in
          from_same call (Destroy h.level h.parent h.number) (destroy_call m parent xid handle).message (is_made PROC_NULL RPCSEC_GSS_DESTROY handle [] (omega arith) short) f.call f.call_is (f.from class)
          ∙ ap (λ w. Asked (record { level = h.level.0; xid = xid; wrapping = w; context = inside }) (EndContext h.number)) (wrapped_under h.parent call.header 0 under)
