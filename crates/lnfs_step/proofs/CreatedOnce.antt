-- A CREATE_SESSION and one that comes directly behind it act once.
use Rattle.std.proofs.Common.{◌≡◌, ◌≤◌, ℕ, List, [], ◌∷◌, ◌++◌, length, Some, refl, sym, ap, subst, arith}
use Rattle.lnfs_types.specs.declared.event.Event.{Event}
use Rattle.lnfs_arguments.specs.declared.types.Op.{Op}
use Rattle.lnfs_arguments.specs.declared.types.Op.TheVariants as ops
use Rattle.lnfs_arguments.specs.declared.types.Compound.{Compound}
use Rattle.lnfs_arguments.specs.declared.types.CreateSession.{CreateSession}
use Rattle.lnfs_policy.specs.Policy.{Policy}
use Rattle.lnfs_world.specs.World.{Client}
use Rattle.lnfs_world.specs.Both.{Both}
use Rattle.lnfs_operations.specs.Extra.{Extra}
use Rattle.lnfs_gss3.specs.Mechanism.{Signing}
use Rattle.lnfs_site.specs.Site.{site_of}
use Rattle.lnfs_step.specs.Wrapping.{answer_text}
use Rattle.lnfs_step.specs.Request.{Call}
use Rattle.lnfs_step.specs.Step.{Step, step_with, sent_of}
use Rattle.lnfs_step.specs.Journal.{state_after, reply_with}
use Rattle.lnfs_step.specs.Sessions.{AsksAt, Asks, ComesToClientAt, ComesToClient, IsAnswered}
use Rattle.lnfs_step.proofs.Requests.{asked_read}
use Rattle.lnfs_step.proofs.SlotSteps.{serving, step_at, again_at, GetsAgain, GetsOnce}
use Rattle.lnfs_step.proofs.Slots.{asked_behind, given_behind, unrecorded_behind}
use Rattle.lnfs_operations.proofs.CreatedOnce.{created_once}

alone : (op : Op) (rest : List Op) (os : List Op) → os ≡ op ∷ rest → length os ≤ 1 → os ≡ op ∷ []
alone op [] os is few = is
alone op (o ∷ rest) os is few = absurd (omega (arith, few, ap length is))

-- on any state
module _ (X : Extra) (m : Signing) (p : Policy) (b : Both X.Row) where
  pub created_once_at : (event later : Event) (call other : Call) (arguments : List ℕ) (c : Compound) (args : CreateSession) (client : Client) → ComesToClientAt X m p b event call arguments c args client → args.sequence ≡ client.sequence →
      AsksAt X m p (step_with X m p b event).state later other arguments c → other.level ≡ call.level → GetsOnce X m p b event later call other (Unit {0})
  created_once_at event later call other arguments c args client comes next asks own =
      let first = serving X p event call arguments c b in
      let step = step_at X m p b event call arguments c comes.asks in
      let v = (step_with X m p b event).state in
      let after : v ≡ first.state = ap (λ (s : Step (Both X.Row)). s.state) step in
      let read = asked_read X.grammar m p event call arguments c comes.asks.request in
      let only = alone (ops.CreateSession args) comes.begins.rest c.ops comes.begins.first (omega (arith, read.operations, comes.alone)) in
      let acts = created_once X (site_of p) (sent_of event arguments c) c args call.level event.moment b client comes.own comes.record_of next later.moment (sent_of later arguments c) comes.begins.minor comes.alone only refl in
      let answered = again_at X m p v later other arguments c first.answer.result asks
      (subst (λ level. GetsAgain X p level later arguments c first.answer.result v) (sym own)
      (subst (GetsAgain X p call.level later arguments c first.answer.result) (sym after) acts)) in
      (record { result = first.answer.result; first = ap (λ (s : Step (Both X.Row)). s.reply) step; again = answered.given }, λ it. answered.line)

-- after a journal
module _ (X : Extra) (m : Signing) (p : Policy) (journal : List Event) where
  pub once_created : (event later : Event) (call other : Call) (arguments : List ℕ) (c : Compound) (args : CreateSession) (client : Client) → ComesToClient X m p journal event call arguments c args client → args.sequence ≡ client.sequence →
      Asks X m p (journal ++ event ∷ []) later other arguments c → other.level ≡ call.level →
      (result : List ℕ) × (reply_with X m p journal event ≡ Some (answer_text m call.wrapping call.xid result)) × IsAnswered X m p (journal ++ event ∷ []) later other result
  unfolding reply_with
  once_created event later call other arguments c args client comes next asks own =
      let once = created_once_at X m p (state_after X m p journal) event later call other arguments c args client comes next (asked_behind X m p journal event later other arguments c asks) own in (
        once.0.result,
        once.0.first,
        record { given = given_behind X m p journal event later other once.0.result once.0.again; line = unrecorded_behind X m p journal event later (once.1 tt) },
      )
