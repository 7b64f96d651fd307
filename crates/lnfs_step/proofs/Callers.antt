-- What is known of each caller: its parent is in the policy, and a label that it asserts is short.
use Rattle.std.proofs.Common.{◌≡◌, ◌≤◌, ℕ, Bool, true, false, cond, List, [], ◌∷◌, length, Option, Some, None, Ok, Err, refl, sym, subst}
use Rattle.std.specs.Prelude.{Result, ◌==◌, ◌&&◌}
use Rattle.lnfs_calipso.specs.declared.Level.{Level}
use Rattle.lnfs_xdr.specs.declared.flavors.TheConstants.{AUTH_NONE, AUTH_SYS, RPCSEC_GSS}
use Rattle.lnfs_xdr.specs.Format.{Among, Word}
use Rattle.lnfs_xdr.specs.Reading.{Read, read}
use Rattle.lnfs_rpc.specs.declared.authsys.Sys.{Sys}
use Rattle.lnfs_rpc.specs.declared.numbers.TheConstants.{PROC_COMPOUND}
use Rattle.lnfs_rpc.specs.Calls.{CallMessage}
use Rattle.lnfs_rpc.specs.Sys.{sys_of}
use Rattle.lnfs_format.specs.declared.formats.TheConstants.{MAX_SPELLING}
use Rattle.lnfs_format.specs.declared.formats.ReadError.{ReadError}
use Rattle.lnfs_format.specs.LevelRead.{level_read}
use Rattle.lnfs_policy.specs.declared.mode.Mode.{Mode}
use Rattle.lnfs_policy.specs.declared.mode.Mode.TheVariants.{Enforcing, Limited}
use Rattle.lnfs_policy.specs.declared.rows.Parent.{Parent}
use Rattle.lnfs_policy.specs.Policy.{Policy, dominance, guest_level, parent_at}
use Rattle.lnfs_gss3.specs.declared.caller.Caller.{Caller}
use Rattle.lnfs_gss3.specs.declared.caller.Caller.TheVariants.{Null, Nobody, Garbage, Guest, Create, Data, Destroy}
use Rattle.lnfs_gss3.specs.declared.handle.ContextHandle.{ContextHandle}
use Rattle.lnfs_gss3.specs.declared.numbers.TheConstants.{LABEL, PROC_NULL, AUTH_BADCRED, AUTH_TOOWEAK, RPCSEC_GSS_CREDPROBLEM, RPCSEC_GSS_LABEL_PROBLEM, RPCSEC_GSS_CREATE, RPCSEC_GSS_DATA, RPCSEC_GSS_DESTROY, INTEGRITY}
use Rattle.lnfs_gss3.specs.Mechanism.{Signing}
use Rattle.lnfs_gss3.specs.Grammar.{alone, whole, Credential, credential, context_handle, parent_handle, Body, Assertion, assertion, create_args}
use Rattle.lnfs_gss3.specs.Who.{demand, where_there, guest_by, guest_in, guest, guest_of, not_known, is_signed, body_under, Named, named_by, named_in, named, HeldContext, is_cleared, held_by, held_in, held, asserted, asserting, create, data_in, in_context, destroy, by_procedure, by_gss, who}
use Rattle.lnfs_step.proofs.Gives.{Gives, gives_opaque, gives_done, gives_then, gives_any}

-- ---- the grammar

alone_read : {A : Type 0} (P : A → Type 0) (r : Read ⊥ A) (x : A) → ((y : A × List ℕ) → r ≡ Ok y → P y.0) → alone r ≡ Some x → P x
alone_read P (Ok (y, [])) x gives e = let same : y ≡ x = cc in subst P same (gives (y, []) refl)
alone_read P (Ok (y, b ∷ more)) x gives e = absurd cc
alone_read P (Err stop) x gives e = absurd cc

abbrev pub IsShortly : Assertion → Type 0
IsShortly a = length a.label ≤ MAX_SPELLING

assertion_gives : Gives assertion IsShortly
unfolding assertion
assertion_gives = gives_then (λ n. Unit {0}) (gives_any (Among (λ n. n == LABEL))) (λ kind _.
    gives_then (λ n. Unit {0}) (gives_any Word) (λ lfs _. gives_then (λ n. Unit {0}) (gives_any Word) (λ pi _.
    gives_then (λ label. length label ≤ MAX_SPELLING) (gives_opaque MAX_SPELLING) (λ label short. gives_done (record { lfs = lfs; pi = pi; label = label }) short))))

create_gives : Gives create_args IsShortly
unfolding create_args
create_gives = gives_then (λ n. Unit {0}) (gives_any (Among (λ n. n == 0))) (λ principal _.
    gives_then (λ n. Unit {0}) (gives_any (Among (λ n. n == 0))) (λ binding _.
    gives_then (λ n. Unit {0}) (gives_any (Among (λ n. n == 1))) (λ count _. assertion_gives)))

whole_short : (bytes : List ℕ) (a : Assertion) → whole create_args bytes ≡ Some a → IsShortly a
unfolding whole
whole_short bytes a e = alone_read IsShortly (read create_args bytes) a (create_gives.is bytes) e

-- ---- the parents that handles name

abbrev pub Known : Policy → (number : ℕ) → Type 0
Known p number = (parent : Parent) × (parent_at p number ≡ Some parent)

named_known : (p : Policy) (handle : Option ℕ) (n : Named) → named_in p handle ≡ Some n → Known p n.number
named_known p None n e = absurd cc
named_known p (Some number) n e = by (parent_at p number) refl e
  where
    by : (o : Option Parent) → parent_at p number ≡ o → named_by number o ≡ Some n → Known p n.number
    by None is h = absurd cc
    by (Some parent) is h =
        let same : record { number = number; parent = parent } ≡ n = cc in
        subst (λ (x : Named). Known p x.number) same (parent, is)

held_known : (p : Policy) (handle : Option ContextHandle) (h : HeldContext) → held_in p handle ≡ Some h → Known p h.handle.parent
held_known p None h e = absurd cc
held_known p (Some x) h e = by (parent_at p x.parent) refl e
  where
    found : (parent : Parent) (b : Bool) → parent_at p x.parent ≡ Some parent → cond b (Some (record { handle = x; parent = parent })) None ≡ Some h → Known p h.handle.parent
    found parent true known e =
        let made : HeldContext = record { handle = x; parent = parent } in
        let same : made ≡ h = cc in
        subst (λ (y : HeldContext). Known p y.handle.parent) same (parent, known)
    found parent false known e = absurd cc

    by : (o : Option Parent) → parent_at p x.parent ≡ o → held_by p x o ≡ Some h → Known p h.handle.parent
    by None is e = absurd cc
    by (Some parent) is e = found parent (is_cleared p parent x.level.0) is e

-- ---- the chain

-- what holds of each caller by RPCSEC_GSS, known or not
pub record GssEnds (p : Policy) (P : Caller → Type 0) : Type 0 where
  pub nobody : (stat : ℕ) → P (Nobody stat)
  pub garbage : (parent sequence : ℕ) → Known p parent → P (Garbage parent sequence)
  pub creates : (level : Level) (parent sequence : ℕ) (a : Assertion) → Known p parent → IsShortly a → P (Create level parent sequence a.lfs a.pi a.label)
  pub calls : (level : Level) (parent number sequence : ℕ) (aligned : Bool) → Known p parent → P (Data level parent number sequence aligned)
  pub destroys : (level : Level) (parent number : ℕ) → Known p parent → P (Destroy level parent number)

-- and of each caller
pub record Ends (p : Policy) (P : Caller → Type 0) : Type 0 where
  pub null : P Null
  pub guests : (level : Level) → P (Guest level)
  pub gss : GssEnds p P

module _ (P : Caller → Type 0) where
  demand_any : (test : Bool) (refusal next : Caller) → P refusal → P next → P (demand test refusal next)
  demand_any true refusal next a b = b
  demand_any false refusal next a b = a

  where_any : {A : Type 0} (o : Option A) (refusal : Caller) (next : A → Caller) → P refusal → ((x : A) → o ≡ Some x → P (next x)) → P (where_there o refusal next)
  where_any None refusal next a b = a
  where_any (Some x) refusal next a b = b x refl

  cond_any : (b : Bool) (x y : Caller) → P x → P y → P (cond b x y)
  cond_any true x y p q = p
  cond_any false x y p q = q

  module _ (p : Policy) (ends : GssEnds p P) where
    asserted_any : (n : Named) (sequence : ℕ) (a : Assertion) (r : Result ℕ ReadError) → Known p n.number → IsShortly a → P (asserted p n sequence a r)
    asserted_any n sequence a (Ok level) known short = demand_any (dominance p n.parent.clearance.0 level) _ _ (ends.nobody RPCSEC_GSS_LABEL_PROBLEM) (ends.creates (record { 0 = level }) n.number sequence a known short)
    asserted_any n sequence a (Err e) known short = ends.nobody RPCSEC_GSS_LABEL_PROBLEM

    asserting_any : (n : Named) (sequence : ℕ) (b : Body) → Known p n.number → P (asserting p n sequence b)
    asserting_any n sequence b known =
        demand_any (b.sequence == sequence) _ _ (ends.garbage n.number sequence known) (
        where_any (whole create_args b.content) _ _ (ends.garbage n.number sequence known) (λ a is.
        asserted_any n sequence a (level_read p.formats p.labels a.lfs a.pi a.label) known (whole_short b.content a is)))

    unknown_any : P not_known
    unknown_any = ends.nobody RPCSEC_GSS_CREDPROBLEM

    module _ (m : Signing) (call : CallMessage) where
      create_any : (c : Credential) → P (create m p call c)
      create_any c =
          demand_any (call.procedure == PROC_NULL && c.service == INTEGRITY) _ _ unknown_any (
          where_any (named p c.handle) _ _ unknown_any (λ n is.
          demand_any (is_signed m n.parent call) _ _ unknown_any (
          where_any (body_under m n.parent call) _ _ (ends.garbage n.number c.sequence (named_known p (whole parent_handle c.handle) n is)) (λ b read.
          asserting_any n c.sequence b (named_known p (whole parent_handle c.handle) n is)))))

      in_context_any : (c : Credential) → P (in_context m p call c)
      in_context_any c =
          demand_any (call.procedure == PROC_COMPOUND && c.service == INTEGRITY) _ _ unknown_any (
          where_any (held p c.handle) _ _ unknown_any (λ h is.
          demand_any (is_signed m h.parent call) _ _ unknown_any (
          where_any (body_under m h.parent call) _ (data_in c h) (ends.garbage h.handle.parent c.sequence (held_known p (whole context_handle c.handle) h is)) (λ b read.
          ends.calls h.handle.level h.handle.parent h.handle.number c.sequence (b.sequence == c.sequence) (held_known p (whole context_handle c.handle) h is)))))

      destroy_any : (c : Credential) → P (destroy m p call c)
      destroy_any c =
          demand_any (call.procedure == PROC_NULL) _ _ unknown_any (
          where_any (held p c.handle) _ _ unknown_any (λ h is.
          demand_any (is_signed m h.parent call) _ _ unknown_any (
          demand_any (length call.arguments == 0) _ _ (ends.garbage h.handle.parent c.sequence (held_known p (whole context_handle c.handle) h is))
          (ends.destroys h.handle.level h.handle.parent h.handle.number (held_known p (whole context_handle c.handle) h is)))))

      procedure_any : (c : Credential) → P (by_procedure m p call c)
      procedure_any c =
          cond_any (c.procedure == RPCSEC_GSS_CREATE) _ _ (create_any c) (
          cond_any (c.procedure == RPCSEC_GSS_DATA) _ _ (in_context_any c) (
          cond_any (c.procedure == RPCSEC_GSS_DESTROY) _ _ (destroy_any c) unknown_any))

      gss_any : (mode : Mode) → P (by_gss mode m p call)
      gss_any Limited = ends.nobody AUTH_TOOWEAK
      gss_any Enforcing = where_any (whole credential call.credential.body) _ _ unknown_any (λ c is. procedure_any c)

      -- a call with such a credential
      pub gss_who : (class : ℕ) → call.credential.flavor ≡ RPCSEC_GSS → P (who m p class call)
      unfolding who
      gss_who class flavor =
          let by : ℕ → Caller = λ n.
          cond (n == AUTH_NONE) (guest p class call.procedure None) (
          cond (n == AUTH_SYS) (guest_of p class call.procedure (sys_of call.credential.body)) (
          cond (n == RPCSEC_GSS) (by_gss p.mode m p call)
          (Nobody AUTH_TOOWEAK))) in
          subst (λ n. P (by n)) (sym flavor) (gss_any p.mode)

  module _ (p : Policy) (ends : Ends p P) where
    guest_by_any : (o : Option ℕ) → P (guest_by o)
    guest_by_any None = ends.gss.nobody AUTH_TOOWEAK
    guest_by_any (Some level) = ends.guests (record { 0 = level })

    guest_in_any : (mode : Mode) (class : ℕ) (user : Option ℕ) → P (guest_in mode p class user)
    guest_in_any Enforcing class user = guest_by_any (guest_level p class user)
    guest_in_any Limited class user = ends.guests (record { 0 = 0 })

    guest_any : (class procedure : ℕ) (user : Option ℕ) → P (guest p class procedure user)
    guest_any class procedure user = cond_any (procedure == PROC_NULL) Null (guest_in p.mode p class user) ends.null (guest_in_any p.mode class user)

    guest_of_any : {E : Type 0} (class procedure : ℕ) (r : Result Sys E) → P (guest_of p class procedure r)
    guest_of_any class procedure (Ok sys) = guest_any class procedure (Some sys.uid)
    guest_of_any class procedure (Err e) = ends.gss.nobody AUTH_BADCRED

    pub who_any : (m : Signing) (call : CallMessage) (class : ℕ) → P (who m p class call)
    unfolding who
    who_any m call class =
        cond_any (call.credential.flavor == AUTH_NONE) _ _ (guest_any class call.procedure None) (
        cond_any (call.credential.flavor == AUTH_SYS) _ _ (guest_of_any class call.procedure (sys_of call.credential.body)) (
        cond_any (call.credential.flavor == RPCSEC_GSS) _ _ (gss_any p ends.gss m call p.mode) (ends.gss.nobody AUTH_TOOWEAK)))
