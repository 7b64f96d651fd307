-- What the server replies to the client's packets: each reply bears the transaction of its packet.
use Rattle.std.proofs.Common.{◌≡◌, ◌⊎◌, inl, inr, ℕ, ◌+◌, ◌≤◌, ◌<◌, Bool, true, false, cond, List, Option, Some, None, refl, sym, ap, subst, arith}
use Rattle.std.specs.Prelude.{nat_lt}
use Rattle.std.proofs.lemmas.Bool.{and_parts, ltb-true}
use Rattle.lnfs_types.specs.declared.event.Event.{Event}
use Rattle.lnfs_rpc.specs.Replies as rpc
use Rattle.lnfs_policy.specs.Policy.{Policy}
use Rattle.lnfs_world.specs.World.{last_of}
use Rattle.lnfs_world.specs.declared.numbers.TheConstants.{LAST_NUMBER}
use Rattle.lnfs_world.specs.Both.{Both, both}
use Rattle.lnfs_world.specs.Outcome.{Place, Outcome, begins_at, done_to}
use Rattle.lnfs_operations.specs.Extra.{Extra}
use Rattle.lnfs_gss3.specs.declared.numbers.TheConstants.{RPCSEC_GSS_CTXPROBLEM}
use Rattle.lnfs_gss3.specs.Contexts.{lists_of, has_context_left, new_context}
use Rattle.lnfs_gss3.specs.Grammar.{Assertion}
use Rattle.lnfs_gss3.specs.Mechanism.{Signing}
use Rattle.lnfs_step.specs.declared.numbers.TheConstants.{SYSTEM_ERR}
use Rattle.lnfs_step.specs.Contexts.{is_there, full, added}
use Rattle.lnfs_step.specs.Request.{Call, Task, Garbled, Run, MakeContext, EndContext, Request, Asked, request_with}
use Rattle.lnfs_step.specs.Step.{Step, granted, made, refused_to, done_for, step_of, step_with}
use Rattle.lnfs_step.specs.Wrapping.{caller, called, answer_text, refusal_text}
use Rattle.lnfs_once.specs.Client.{Kind, Assert, Exchange, Create, Compound, Destroy, Leave, End, Packet}
use Rattle.lnfs_slots.specs.OneClient.{Seen, When, Writer, event_of, serve}
use Rattle.lnfs_slots.specs.Written.{alone_of, IsAssert, IsWriter}
use Rattle.lnfs_slots.proofs.Steps.{step_there}

-- the reply is one to a transaction
pub record Bears (xid : ℕ) (reply : Option (List ℕ)) : Type 0 where
  pub head : rpc.ReplyHead
  pub rest : List ℕ
  pub is : reply ≡ Some (rpc.reply_text xid head rest)

module _ (X : Extra) (m : Signing) (p : Policy) where
  made_bears : (b : Both X.Row) (call : Call) (parent : ℕ) (a : Assertion) (o : Option ℕ) → Bears call.xid (made m call parent a b o).reply
  made_bears b call parent a (Some number) = record { head = _; rest = _; is = refl }
  made_bears b call parent a None = record { head = _; rest = _; is = refl }

  done_bears : (b : Both X.Row) (event : Event) (call : Call) (task : Task) → Bears call.xid (done_for X m p b event call task).reply
  done_bears b event call Garbled = record { head = _; rest = _; is = refl }
  done_bears b event call (Run arguments c) = record { head = _; rest = _; is = refl }
  done_bears b event call (MakeContext parent a) = made_bears _ call parent a _
  done_bears b event call (EndContext number) = record { head = _; rest = _; is = refl }

  asked_bears : (b : Both X.Row) (event : Event) (call : Call) (task : Task) → Bears call.xid (step_of X m p b event (Asked call task)).reply
  asked_bears b event call task = at (is_there b.world.contexts call.level call.context)
    where
      at : (t : Bool) → Bears call.xid (cond t (done_for X m p b event call task) (refused_to m call b (caller RPCSEC_GSS_CTXPROBLEM))).reply
      at true = done_bears b event call task
      at false = record { head = _; rest = _; is = refl }

  module _ {A : Type 0} (w : Writer A) where
    serve_bears : (v : Seen X) (when : When) (q : Packet A) (call : Call) (task : Task) → request_with X.grammar m p w.class (w.text q) ≡ Asked call task → Bears call.xid (serve X m p w v when q).reply
    unfolding step_with
    serve_bears v when q call task is = subst (λ (r : Request). Bears call.xid (step_of X m p v.state (event_of X m p w when q) r).reply) (sym is) (asked_bears v.state (event_of X m p w when q) call task)

    pub reply_bears : IsWriter X m p w → (v : Seen X) (when : When) (q : Packet A) → w.suits q ≡ true → (k : Kind) → q.kind ≡ k → Bears q.xid (serve X m p w v when q).reply
    reply_bears written v when q suited Assert kind = serve_bears v when q _ _ (written.assert q suited kind).request
    reply_bears written v when q suited Exchange kind = serve_bears v when q _ _ (written.exchange q suited kind).request
    reply_bears written v when q suited Create kind = serve_bears v when q _ _ (written.create q suited kind).request
    reply_bears written v when q suited Compound kind = serve_bears v when q _ _ (written.compound q suited kind).request
    reply_bears written v when q suited Destroy kind = serve_bears v when q _ _ (written.destroy q suited kind).request
    reply_bears written v when q suited Leave kind = serve_bears v when q _ _ (written.leave q suited kind).request
    reply_bears written v when q suited End kind = serve_bears v when q _ _ (written.end_ q suited kind).request

    -- ---- a context is granted, or the level is full

    module _ (v : Seen X) (when : When) (q : Packet A) (written : IsAssert X m p w q) where
      abbrev last : ℕ
      last = last_of w.level v.state.world.lasts.contexts

      abbrev place : Place
      place = begins_at w.level when.moment

      abbrev chosen : Bool → Outcome (Option ℕ)
      chosen t = cond t (added place (new_context (lists_of v.state.world) w.level w.parent)) (full place)

      abbrev left : Bool
      left = has_context_left (lists_of v.state.world) w.level

      abbrev reply_of : Bool → Option (List ℕ)
      reply_of t = (made m (alone_of X m p w q) w.parent written.assertion (both (done_to v.state.world (chosen t)) v.state.own) (chosen t).answer).reply

      reply_is : (serve X m p w v when q).reply ≡ reply_of left
      reply_is = ap (λ (s : Step (Both X.Row)). s.reply) (step_there X m p v.state (event_of X m p w when q) (alone_of X m p w q) (MakeContext w.parent written.assertion) written.request refl)

      abbrev Grants : Option (List ℕ) → Type 0
      Grants reply =
          ((number : ℕ) × (1 ≤ number) × (number ≤ LAST_NUMBER) × (reply ≡ Some (answer_text m (w.wrapping q) q.xid (granted (alone_of X m p w q) w.parent written.assertion number))))
          ⊎ (reply ≡ Some (refusal_text m (w.wrapping q) q.xid (called SYSTEM_ERR)))

      grants_at : (t : Bool) → left ≡ t → Grants (reply_of t)
      grants_at true e = let counted : nat_lt last LAST_NUMBER ≡ true = (and_parts _ _ e).1 in let below : last < LAST_NUMBER = ltb-true _ _ counted in inl (last + 1, omega arith, omega (arith, below), refl)
      grants_at false e = inr refl

      pub grants : Grants (serve X m p w v when q).reply
      grants = subst Grants (sym reply_is) (grants_at left refl)
