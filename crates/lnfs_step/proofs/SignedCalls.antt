-- The reply to a call in a context, and to one that makes a context, is signed under the context's parent.
use Rattle.std.proofs.Common.{◌≡◌, ℕ, Bool, true, false, List, [], ◌∷◌, Option, Some, None, Ok, Err, sym, ap, ◌∙◌, subst}
use Rattle.std.specs.Prelude.{Result, IfSome}
use Rattle.lnfs_rpc.specs.Calls.{CallMessage, call_of}
use Rattle.lnfs_arguments.specs.declared.types.Compound.{Compound}
use Rattle.lnfs_xdr.specs.declared.flavors.TheConstants.{RPCSEC_GSS}
use Rattle.lnfs_xdr.specs.Message.{parse}
use Rattle.lnfs_arguments.specs.Whole.{compound}
use Rattle.lnfs_arguments.specs.Further.{Further}
use Rattle.lnfs_policy.specs.Policy.{Policy}
use Rattle.lnfs_gss3.specs.declared.caller.Caller.{Caller}
use Rattle.lnfs_gss3.specs.declared.caller.Caller.TheVariants.{Garbage}
use Rattle.lnfs_gss3.specs.Mechanism.{Signing}
use Rattle.lnfs_gss3.specs.Grammar.{Body, body, Assertion}
use Rattle.lnfs_gss3.specs.Who.{who}
use Rattle.lnfs_step.specs.Wrapping.{Wrapping, Plain, called}
use Rattle.lnfs_step.specs.Request.{InContext, Call, Task, Garbled, Run, MakeContext, EndContext, Request, Silent, Refused, Nothing, Asked, signed_under, wrapping_of, IsSignedUnder, null_call, run_as, run_of, run_in, run_signed, asked_by, asked_of, request_with}
use Rattle.lnfs_step.proofs.Callers.{Known, gss_who, who_any}

module _ (p : Policy) (message : CallMessage) where
  -- what a task tells of the wrapping
  abbrev ForTask : Wrapping → Task → Type 0
  ForTask w Garbled = Unit {0}
  ForTask w (Run arguments c) = Unit {0}
  ForTask w (MakeContext parent assertion) = IsSignedUnder p parent message w
  ForTask w (EndContext number) = Unit {0}

  abbrev ForContext : Wrapping → Option InContext → Type 0
  ForContext w context = IfSome context (λ c. IsSignedUnder p c.parent message w)

  abbrev AreSigned : Request → Type 0
  AreSigned Silent = Unit {0}
  AreSigned (Refused xid w cause) = Unit {0}
  AreSigned (Nothing xid) = Unit {0}
  AreSigned (Asked call task) = ForContext call.wrapping call.context × ForTask call.wrapping task

  null_signed : (xid : ℕ) (bytes : List ℕ) → AreSigned (null_call xid bytes)
  null_signed xid [] = tt
  null_signed xid (b ∷ bytes) = tt

  signed : (number sequence : ℕ) → Known p number → IsSignedUnder p number message (wrapping_of p message number sequence)
  signed number sequence known = (known.0, sequence, known.1, ap (λ o. signed_under o message.header sequence) known.1)

  module _ (g : Further) (w : Wrapping) where
    as_signed : (arguments : List ℕ) (r : Result Compound (List ℕ)) → ForTask w (run_as arguments r)
    as_signed arguments (Ok c) = tt
    as_signed arguments (Err stuck) = tt

    of_signed : (arguments : List ℕ) → ForTask w (run_of g arguments)
    of_signed arguments = as_signed arguments (parse (compound g) arguments)

    in_signed : (o : Option Body) → ForTask w (run_in g o)
    in_signed None = tt
    in_signed (Some b) = of_signed b.content

    aligned_signed : (aligned : Bool) (bytes : List ℕ) → ForTask w (run_signed g aligned bytes)
    aligned_signed true bytes = in_signed (body bytes)
    aligned_signed false bytes = tt

module _ (g : Further) (m : Signing) (p : Policy) (class : ℕ) where
  by_signed : (message : CallMessage) → AreSigned p message (asked_by g p message (who m p class message))
  by_signed message = who_any (λ c. AreSigned p message (asked_by g p message c)) p (record {
    null = null_signed p message message.xid message.arguments;
    guests = λ level. (tt, of_signed p message g Plain message.arguments);
    gss = record {
      nobody = λ stat. tt;
      garbage = λ parent sequence known. tt;
      creates = λ level parent sequence a known short. (tt, signed p message parent sequence known);
      calls = λ level parent number sequence aligned known. (signed p message parent sequence known, aligned_signed p message g (wrapping_of p message parent sequence) aligned message.arguments);
      destroys = λ level parent number known. (signed p message parent 0 known, tt);
    };
  }) m message class

  -- a call that is refused for its arguments, by a caller that is known
  abbrev Refuses : CallMessage → Caller → Type 0
  Refuses message c = (xid : ℕ) (w : Wrapping) (stat : ℕ) → asked_by g p message c ≡ Refused xid w (called stat) → (number : ℕ) × IsSignedUnder p number message w

  garbage_signed : (message : CallMessage) (parent sequence : ℕ) → Known p parent → Refuses message (Garbage parent sequence)
  garbage_signed message parent sequence known xid w stat is =
      let same : wrapping_of p message parent sequence ≡ w = cc in
      (parent, subst (IsSignedUnder p parent message) same (signed p message parent sequence known))

  by_refused : (message : CallMessage) → message.credential.flavor ≡ RPCSEC_GSS → Refuses message (who m p class message)
  by_refused message flavor = gss_who (Refuses message) p (record {
    nobody = λ stat xid w accepted is. absurd cc;
    garbage = garbage_signed message;
    creates = λ level parent sequence a known short xid w stat is. absurd cc;
    calls = λ level parent number sequence aligned known xid w stat is. absurd cc;
    destroys = λ level parent number known xid w stat is. absurd cc;
  }) m message class flavor

  -- ---- of a record that is a call

  module _ (bytes : List ℕ) (message : CallMessage) (read : call_of bytes ≡ Ok message) where
    -- what it asks
    as_asked : (r : Request) → request_with g m p class bytes ≡ r → asked_by g p message (who m p class message) ≡ r
    unfolding request_with
    as_asked r is = ap (asked_of g m p class) (sym read) ∙ is

    asked_signed : (call : Call) (task : Task) → request_with g m p class bytes ≡ Asked call task → ForContext p message call.wrapping call.context × ForTask p message call.wrapping task
    asked_signed call task asked = subst (AreSigned p message) (as_asked (Asked call task) asked) (by_signed message)

    pub called_signed : (call : Call) (task : Task) (context : InContext) → request_with g m p class bytes ≡ Asked call task → call.context ≡ Some context → IsSignedUnder p context.parent message call.wrapping
    called_signed call task context asked is = subst (ForContext p message call.wrapping) is (asked_signed call task asked).0

    pub made_signed : (call : Call) (parent : ℕ) (assertion : Assertion) → request_with g m p class bytes ≡ Asked call (MakeContext parent assertion) → IsSignedUnder p parent message call.wrapping
    made_signed call parent assertion asked = (asked_signed call (MakeContext parent assertion) asked).1

    pub refused_signed : (xid : ℕ) (w : Wrapping) (stat : ℕ) → message.credential.flavor ≡ RPCSEC_GSS → request_with g m p class bytes ≡ Refused xid w (called stat) → (number : ℕ) × IsSignedUnder p number message w
    refused_signed xid w stat flavor is = by_refused message flavor xid w stat (as_asked (Refused xid w (called stat)) is)
