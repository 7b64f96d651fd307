-- A CREATE_SESSION of the client comes: lost, stale and retry.
use Rattle.std.proofs.Common.{◌≡◌, ℕ, ◌+◌, ◌≤◌, Bool, true, false, cond, List, [], Option, Some, None, refl, sym, ◌∙◌, ap, arith}
use Rattle.std.specs.Str.{bytes_eq}
use Rattle.lnfs_types.specs.declared.event.Event.{Event}
use Rattle.lnfs_policy.specs.Policy.{Policy}
use Rattle.lnfs_world.specs.declared.numbers.TheConstants.{LAST_SEQUENCE}
use Rattle.lnfs_world.specs.World.{Id, Client as ClientRow, client_at}
use Rattle.lnfs_world.specs.Lawful.{Turn}
use Rattle.lnfs_world.specs.Both.{Both}
use Rattle.lnfs_operations.specs.Identifiers.{client_named}
use Rattle.lnfs_operations.specs.InOrder.{sequence_before}
use Rattle.lnfs_operations.specs.Sequence.{Sent}
use Rattle.lnfs_operations.specs.Extra.{Extra}
use Rattle.lnfs_operations.specs.SlotRule.{Answer}
use Rattle.lnfs_operations.proofs.Retries.{created_again}
use Rattle.lnfs_gss3.specs.Mechanism.{Signing}
use Rattle.lnfs_site.specs.Site.{site_of}
use Rattle.lnfs_step.specs.Wrapping.{answer_text}
use Rattle.lnfs_step.specs.Contexts.{is_there}
use Rattle.lnfs_step.specs.Step.{sent_of}
use Rattle.lnfs_step.proofs.SlotSteps.{serving}
use Rattle.lnfs_once.specs.Client.{Create, Packet}
use Rattle.lnfs_once.specs.Laws.{Record}
use Rattle.lnfs_slots.specs.OneClient.{Seen, When, Row, Writer, at_level, record_row, row_of, mine_after, event_of, serve}
use Rattle.lnfs_slots.specs.Written.{context_of, call_of, IsCreate}
use Rattle.lnfs_slots.proofs.Running as running
use Rattle.lnfs_slots.proofs.Running.{IsDone}
use Rattle.lnfs_slots.proofs.Creates.{IsQuiet, lost_quiet, stale_quiet}

-- a record that shows a row
pub record Shows (owner : List ℕ) (o : Option ClientRow) (x : Row) : Type 0 where
  pub client : ClientRow
  pub there : o ≡ Some client
  pub own : bytes_eq client.owner owner ≡ true
  pub row : x ≡ record { last = sequence_before client.sequence; kept = client.kept }

pub shown : (owner : List ℕ) (o : Option ClientRow) (x : Row) → record_row owner o ≡ Some x → Shows owner o x
shown owner None x e = absurd (grind arith)
shown owner (Some c) x e = at (bytes_eq c.owner owner) refl e
  where
    at : (b : Bool) → bytes_eq c.owner owner ≡ b → cond b (Some (record { last = sequence_before c.sequence; kept = c.kept })) None ≡ Some x → Shows owner (Some c) x
    at true own e = record { client = c; there = refl; own = own; row = grind (arith, e) }
    at false own e = absurd (grind arith)

module _ (X : Extra) (m : Signing) (p : Policy) {A : Type 0} (w : Writer A) (v : Seen X) (when : When) (q : Packet A) (kind : q.kind ≡ Create) (written : IsCreate X m p w q) where
  abbrev b : Both X.Row
  b = v.state

  abbrev event : Event
  event = event_of X m p w when q

  abbrev sent : Sent
  sent = sent_of event (w.arguments q) written.compound

  abbrev result : Turn Answer (Both X.Row)
  result = serving X p event (call_of X m p w q) (w.arguments q) written.compound b

  pub same_mine : (i j : ℕ) → mine_after q.kind i j v.mine ≡ v.mine
  same_mine i j = ap (λ k. mine_after k i j v.mine) kind

  abbrev Still : Type 0
  Still = IsDone X m p w v when q same_mine written.compound written.request v

  abbrev here : Bool
  here = is_there b.world.contexts w.level (context_of w.parent q.place.context)

  reply_is : here ≡ true → (serve X m p w v when q).reply ≡ Some (answer_text m (w.wrapping q) q.xid result.answer.result)
  reply_is e = running.reply_is X m p w v when q same_mine written.compound written.request e

  pub own : (client_named written.args.client).level ≡ w.level
  own = ap (λ (i : Id). i.level) written.client

  quiet_still : here ≡ true → IsQuiet X (site_of p) sent written.compound written.args w.level when.moment b written.minor written.count written.only own → Still
  quiet_still e quiet = running.done X m p w v when q same_mine written.compound written.request e b quiet.state quiet.keeps

  pub lost_still : here ≡ true → client_at b.world.clients (at_level w.level q.place.number) ≡ None → Still × ((serve X m p w v when q).reply ≡ Some (answer_text m (w.wrapping q) q.xid (w.stale q)))
  lost_still e none =
      let quiet = lost_quiet X (site_of p) sent written.compound written.args w.level when.moment b written.minor written.count written.only own (ap (client_at b.world.clients) written.client ∙ none) in
      (quiet_still e quiet.0, reply_is e ∙ ap (λ r. Some (answer_text m (w.wrapping q) q.xid r)) (quiet.1 ∙ sym written.stale))

  module _ (x : Row) (is : row_of w.owner w.level b.world Record q.place.number ≡ Some x) where
    pub shows : Shows w.owner (client_at b.world.clients (at_level w.level q.place.number)) x
    shows = shown w.owner (client_at b.world.clients (at_level w.level q.place.number)) x is

    pub there : client_at b.world.clients (client_named written.args.client) ≡ Some shows.client
    there = ap (client_at b.world.clients) written.client ∙ shows.there

    pub last : x.last ≡ sequence_before shows.client.sequence
    last = ap (λ (r : Row). r.last) shows.row

    pub retry_reply : here ≡ true → x.last ≡ q.sequence → (kept : List ℕ) → x.kept ≡ Some (record { arguments = w.arguments q; reply = kept }) → (serve X m p w v when q).reply ≡ Some (answer_text m (w.wrapping q) q.xid kept)
    retry_reply e same kept keeps =
        let stored : shows.client.kept ≡ Some (record { arguments = w.arguments q; reply = kept }) = sym (ap (λ (r : Row). r.kept) shows.row) ∙ keeps in
        reply_is e ∙ ap (λ (t : Turn Answer (Both X.Row)). Some (answer_text m (w.wrapping q) q.xid t.answer.result)) (created_again X (site_of p) sent written.compound w.level when.moment b written.args [] shows.client kept written.minor written.count written.only own there (written.sequence ∙ sym same ∙ last) stored)

    pub stale_still : here ≡ true → q.sequence ≤ x.last → x.last + 1 ≤ LAST_SEQUENCE → Still
    stale_still e below soon = quiet_still e (stale_quiet X (site_of p) sent written.compound written.args w.level when.moment b written.minor written.count written.only own shows.client there (grind (arith, below, last, written.sequence)) (grind (arith, soon, last)))
