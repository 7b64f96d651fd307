-- A COMPOUND of the client, over any state: lost, stale and retry.
use Rattle.std.proofs.Common.{◌≡◌, ℕ, ◌+◌, ◌≤◌, Bool, true, false, cond, List, Option, Some, None, refl, sym, ◌∙◌, ap, arith}
use Rattle.std.specs.Prelude.{slice_get}
use Rattle.std.specs.Option.{option_map}
use Rattle.lnfs_types.specs.declared.event.Event.{Event}
use Rattle.lnfs_arguments.specs.declared.statuses.TheConstants.{NFS4ERR_BADSESSION}
use Rattle.lnfs_policy.specs.Policy.{Policy}
use Rattle.lnfs_world.specs.declared.numbers.TheConstants.{LAST_SEQUENCE}
use Rattle.lnfs_world.specs.World.{Id, Slot as SlotRow, Session as SessionRow, World, session_at}
use Rattle.lnfs_world.specs.Outcome.{begins_at}
use Rattle.lnfs_world.specs.Lawful.{Turn}
use Rattle.lnfs_world.specs.Both.{Both}
use Rattle.lnfs_operations.specs.Identifiers.{session_named}
use Rattle.lnfs_operations.specs.Sequence.{Sent, begun_in}
use Rattle.lnfs_operations.specs.Extra.{Extra}
use Rattle.lnfs_operations.specs.Retries.{Names}
use Rattle.lnfs_operations.specs.SlotRule.{Answer}
use Rattle.lnfs_operations.proofs.Retries.{on_named, answered_again}
use Rattle.lnfs_gss3.specs.Mechanism.{Signing}
use Rattle.lnfs_site.specs.Site.{site_of}
use Rattle.lnfs_step.specs.Wrapping.{answer_text}
use Rattle.lnfs_step.specs.Contexts.{is_there}
use Rattle.lnfs_step.specs.Step.{sent_of}
use Rattle.lnfs_step.proofs.SlotSteps.{serving}
use Rattle.lnfs_once.specs.Client.{Compound, Packet}
use Rattle.lnfs_once.specs.Laws.{Session}
use Rattle.lnfs_slots.specs.OneClient.{Seen, When, Row, Writer, at_level, is_session, session_row, row_of, mine_after, event_of, serve, IsSound}
use Rattle.lnfs_slots.specs.Written.{context_of, call_of, IsCompound}
use Rattle.lnfs_slots.proofs.Running as running
use Rattle.lnfs_slots.proofs.Running.{IsDone}
use Rattle.lnfs_slots.proofs.Sequences.{refusal, IsQuiet, old_order, no_session, refused_result, old_quiet}

-- a session that shows a row
pub record Shows (owner : List ℕ) (level : ℕ) (w : World) (o : Option SessionRow) (x : Row) : Type 0 where
  pub session : SessionRow
  pub slot : SlotRow
  pub there : o ≡ Some session
  pub own : is_session owner level w session ≡ true
  pub at : slice_get session.slots 0 ≡ Some slot
  pub row : x ≡ record { last = slot.sequence; kept = slot.kept }

pub shown : (owner : List ℕ) (level : ℕ) (w : World) (o : Option SessionRow) (x : Row) → session_row owner level w o ≡ Some x → Shows owner level w o x
shown owner level w None x e = absurd (grind arith)
shown owner level w (Some s) x e = at (is_session owner level w s) refl (slice_get s.slots 0) refl e
  where
    at : (b : Bool) → is_session owner level w s ≡ b → (o : Option SlotRow) → slice_get s.slots 0 ≡ o → cond b (option_map (λ t. record { last = t.sequence; kept = t.kept }) o) None ≡ Some x → Shows owner level w (Some s) x
    at true own (Some t) is e = record { session = s; slot = t; there = refl; own = own; at = is; row = grind (arith, e) }
    at true own None is e = absurd (grind arith)
    at false own o is e = absurd (grind arith)

module _ (X : Extra) (m : Signing) (p : Policy) {A : Type 0} (w : Writer A) (v : Seen X) (when : When) (q : Packet A) (kind : q.kind ≡ Compound) (written : IsCompound X m p w q) where
  abbrev b : Both X.Row
  b = v.state

  abbrev event : Event
  event = event_of X m p w when q

  abbrev sent : Sent
  sent = sent_of event (w.arguments q) written.compound

  abbrev result : Turn Answer (Both X.Row)
  result = serving X p event (call_of X m p w q) (w.arguments q) written.compound b

  pub same_mine : (i j : ℕ) → mine_after q.kind i j v.mine ≡ v.mine
  same_mine i j = ap (λ k. mine_after k i j v.mine) kind

  abbrev Still : Type 0
  Still = IsDone X m p w v when q same_mine written.compound written.request v

  abbrev here : Bool
  here = is_there b.world.contexts w.level (context_of w.parent q.place.context)

  reply_is : here ≡ true → (serve X m p w v when q).reply ≡ Some (answer_text m (w.wrapping q) q.xid result.answer.result)
  reply_is e = running.reply_is X m p w v when q same_mine written.compound written.request e

  quiet_still : here ≡ true → IsQuiet X (site_of p) sent written.compound w.level when.moment b written.args written.rest written.minor written.first → Still
  quiet_still e quiet = running.done X m p w v when q same_mine written.compound written.request e b quiet.state quiet.keeps

  own : (session_named written.args.session).level ≡ w.level
  own = ap (λ (i : Id). i.level) written.session

  -- its session is not there
  pub lost_still : here ≡ true → session_at b.world.sessions (at_level w.level q.place.number) ≡ None → Still × ((serve X m p w v when q).reply ≡ Some (answer_text m (w.wrapping q) q.xid (w.stale q)))
  lost_still e none =
      let refused = no_session w.level when.moment b.world written.args sent own (ap (session_at b.world.sessions) written.session ∙ none) in
      let quiet = old_quiet X (site_of p) sent written.compound w.level when.moment b written.args written.rest written.minor written.first _ refused (refusal NFS4ERR_BADSESSION refl) in
      let bytes = refused_result X (site_of p) sent written.compound w.level when.moment b written.args written.rest written.minor written.first NFS4ERR_BADSESSION refused in
      (quiet_still e quiet, reply_is e ∙ ap (λ r. Some (answer_text m (w.wrapping q) q.xid r)) (bytes ∙ sym written.stale))

  -- ---- its session is there

  module _ (sound : IsSound X m p w v) (x : Row) (is : row_of w.owner w.level b.world Session q.place.number ≡ Some x) where
    pub shows : Shows w.owner w.level b.world (session_at b.world.sessions (at_level w.level q.place.number)) x
    shows = shown w.owner w.level b.world (session_at b.world.sessions (at_level w.level q.place.number)) x is

    pub names : Names w.level b.world written.args sent shows.session shows.slot
    names =
        let grants = sound.grants q.place.number shows.session shows.there shows.own in
        record {
          own = own;
          session = ap (λ t. cond t (session_at b.world.sessions (session_named written.args.session)) None) written.whole ∙ ap (session_at b.world.sessions) written.session ∙ shows.there;
          size = grind (arith, written.size, grants.0);
          slot = ap (slice_get shows.session.slots) written.slot ∙ shows.at;
        }

    pub few : sent.count ≤ shows.session.channel.max_operations
    few = let grants = sound.grants q.place.number shows.session shows.there shows.own in grind (arith, written.count, grants.1)

    -- the request whose result the slot keeps gets it again
    pub retry_reply : here ≡ true → x.last ≡ q.sequence → (kept : List ℕ) → x.kept ≡ Some (record { arguments = w.arguments q; reply = kept }) → (serve X m p w v when q).reply ≡ Some (answer_text m (w.wrapping q) q.xid kept)
    retry_reply e last kept keeps =
        let sequence : shows.slot.sequence ≡ written.args.sequence = sym (ap (λ (r : Row). r.last) shows.row) ∙ last ∙ sym written.sequence in
        let stored : shows.slot.kept ≡ Some (record { arguments = w.arguments q; reply = kept }) = sym (ap (λ (r : Row). r.kept) shows.row) ∙ keeps in
        let same : shows.slot ≡ record { sequence = written.args.sequence; kept = Some (record { arguments = w.arguments q; reply = kept }) } = λ k. record { sequence = sequence k; kept = stored k } in
        reply_is e ∙ ap (λ (t : Turn Answer (Both X.Row)). Some (answer_text m (w.wrapping q) q.xid t.answer.result)) (answered_again X (site_of p) sent written.compound w.level when.moment b written.args written.rest shows.session shows.slot kept written.minor written.first names few same)

    -- a sequence that is not new
    pub stale_still : here ≡ true → q.sequence ≤ x.last → x.last + 1 ≤ LAST_SEQUENCE → Still
    stale_still e below soon =
        let last : x.last ≡ shows.slot.sequence = ap (λ (r : Row). r.last) shows.row in
        let old = old_order (begins_at w.level when.moment) shows.slot.sequence shows.slot.kept written.args.sequence (w.arguments q) (begun_in (begins_at w.level when.moment) b.world shows.session) (grind (arith, below, last, written.sequence)) (grind (arith, soon, last)) in
        quiet_still e (old_quiet X (site_of p) sent written.compound w.level when.moment b written.args written.rest written.minor written.first _ (on_named w.level when.moment b.world written.args sent shows.session shows.slot names few) old)
