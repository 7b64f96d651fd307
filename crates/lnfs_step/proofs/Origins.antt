-- What slots and clients' records keep after a journal is what events of it got.
use Rattle.std.proofs.Common.{◌≡◌, ℕ, Bool, true, false, cond, List, [], ◌∷◌, ◌++◌, Option, Some, refl, sym, ap, ◌∙◌, subst, arith}
use Rattle.std.specs.Prelude.{IfSome, slice_get}
use Rattle.std.specs.List.{AllByRecursion}
use Rattle.std.proofs.lemmas.Bool.Decides.{nat_tests}
use Rattle.std.proofs.lemmas.List.{append_assoc, append-nil}
use Rattle.lnfs_calipso.specs.Label.{IsPreorderWithBottom}
use Rattle.lnfs_types.specs.declared.event.Event.{Event}
use Rattle.lnfs_policy.specs.Policy.{Policy, dominance}
use Rattle.lnfs_world.specs.World.{Id, Kept, Client, Slot, Session, World, client_at, session_at, same_id}
use Rattle.lnfs_world.specs.Both.{Both}
use Rattle.lnfs_world.proofs.Rows.{all_find}
use Rattle.lnfs_operations.specs.Extra.{Extra, AreLawful}
use Rattle.lnfs_gss3.specs.declared.numbers.TheConstants.{RPCSEC_GSS_CTXPROBLEM}
use Rattle.lnfs_gss3.specs.Mechanism.{Signing}
use Rattle.lnfs_site.specs.Site.{first_world, site_of}
use Rattle.lnfs_site.proofs.FirstWorlds.{first_bare}
use Rattle.lnfs_step.specs.Wrapping.{caller}
use Rattle.lnfs_step.specs.Request.{Call, Task, Garbled, Run, MakeContext, EndContext, Request, Silent, Refused, Nothing, Asked, request_with}
use Rattle.lnfs_step.specs.Contexts.{is_there}
use Rattle.lnfs_step.specs.Step.{Step, done_for, refused_to, step_of, step_with, sent_of}
use Rattle.lnfs_step.specs.Journal.{state_from, state_after, reply_with}
use Rattle.lnfs_step.specs.Sessions.{Asks, HasOrigin}
use Rattle.lnfs_step.proofs.ContextLaws.{Beside}
use Rattle.lnfs_step.proofs.Keeping.{SlotKeeps, SessionKeeps, ClientKeeps, Keeps, slot_keeps, keeps_weaker, served_left}
use Rattle.lnfs_step.proofs.Slots.{step_is, state_next}
use Rattle.lnfs_step.proofs.Steps.{begins, made_beside, ended_beside, holds_after}

-- an event of a journal is one of a longer one
still_origin : (X : Extra) (m : Signing) (p : Policy) (journal : List Event) (event : Event) (level : ℕ) (kept : Kept) → HasOrigin X m p journal level kept → HasOrigin X m p (journal ++ event ∷ []) level kept
still_origin X m p journal event level kept origin = record {
  before = origin.before;
  event = origin.event;
  behind = origin.behind ++ event ∷ [];
  place = ap (λ js. js ++ event ∷ []) origin.place ∙ append_assoc origin.before (origin.event ∷ origin.behind) (event ∷ []);
  call = origin.call;
  compound = origin.compound;
  own = origin.own;
  asks = origin.asks;
  reply = origin.reply;
}

-- contexts keep no results
keeps_beside : (Q : ℕ → Kept → Type 0) (a b : World) → Beside a b → Keeps Q a → Keeps Q b
keeps_beside Q a b beside keeps = record { sessions = subst (AllByRecursion (SessionKeeps Q)) (sym beside.sessions) keeps.sessions; clients = subst (AllByRecursion (ClientKeeps Q)) (sym beside.clients) keeps.clients }

module _ (X : Extra) (owed : AreLawful X) (m : Signing) (p : Policy) (lattice : IsPreorderWithBottom (dominance p)) where
  -- every result that is kept after a journal is one that an event of it got
  abbrev Origins : List Event → Type 0
  Origins journal = Keeps (HasOrigin X m p journal) (state_after X m p journal).world

  task_keeps : (journal : List Event) (event : Event) (call : Call) (task : Task) → request_with X.grammar m p event.class event.message ≡ Asked call task → is_there (state_after X m p journal).world.contexts call.level call.context ≡ true → Keeps (HasOrigin X m p (journal ++ event ∷ [])) (state_after X m p journal).world →
      Keeps (HasOrigin X m p (journal ++ event ∷ [])) (done_for X m p (state_after X m p journal) event call task).state.world
  unfolding reply_with
  task_keeps journal event call Garbled is there keeps = keeps
  task_keeps journal event call (MakeContext parent assertion) is there keeps = keeps_beside _ _ _ (made_beside X m p (state_after X m p journal) event call parent assertion) keeps
  task_keeps journal event call (EndContext number) is there keeps = keeps_beside _ _ _ (ended_beside X m p (state_after X m p journal) event call number) keeps
  task_keeps journal event call (Run arguments c) is there keeps =
      let b = state_after X m p journal in
      let asks : Asks X m p journal event call arguments c = record { request = is; there = there } in
      served_left (HasOrigin X m p (journal ++ event ∷ [])) X owed (site_of p) lattice (sent_of event arguments c) c call.level event.moment b
      (begins X owed m p lattice call.level event.moment b (holds_after X owed m p lattice journal)) keeps
      (record { before = journal; event = event; behind = []; place = refl; call = call; compound = c; own = refl; asks = asks; reply = ap (λ (s : Step (Both X.Row)). s.reply) (step_is X m p journal event call arguments c asks) })

  of_request : (journal : List Event) (event : Event) (r : Request) → request_with X.grammar m p event.class event.message ≡ r → Keeps (HasOrigin X m p (journal ++ event ∷ [])) (state_after X m p journal).world →
      Keeps (HasOrigin X m p (journal ++ event ∷ [])) (step_of X m p (state_after X m p journal) event r).state.world
  of_request journal event Silent is keeps = keeps
  of_request journal event (Refused xid w cause) is keeps = keeps
  of_request journal event (Nothing xid) is keeps = keeps
  of_request journal event (Asked call task) is keeps = at (is_there (state_after X m p journal).world.contexts call.level call.context) refl
    where
      at : (b : Bool) → is_there (state_after X m p journal).world.contexts call.level call.context ≡ b → Keeps (HasOrigin X m p (journal ++ event ∷ [])) (cond b (done_for X m p (state_after X m p journal) event call task) (refused_to m call (state_after X m p journal) (caller RPCSEC_GSS_CTXPROBLEM))).state.world
      at true there = task_keeps journal event call task is there keeps
      at false none = keeps

  -- one more event
  one_more : (journal : List Event) (event : Event) → Origins journal → Origins (journal ++ event ∷ [])
  unfolding step_with
  one_more journal event origins =
      subst (λ (v : Both X.Row). Keeps (HasOrigin X m p (journal ++ event ∷ [])) v.world) (sym (state_next X m p journal event))
      (of_request journal event (request_with X.grammar m p event.class event.message) refl
      (keeps_weaker (HasOrigin X m p journal) (HasOrigin X m p (journal ++ event ∷ [])) (still_origin X m p journal event) (state_after X m p journal).world origins))

  behind_origins : (so_far journal : List Event) → Origins so_far → Origins (so_far ++ journal)
  behind_origins so_far [] origins = subst Origins (sym (append-nil so_far)) origins
  behind_origins so_far (event ∷ journal) origins = subst Origins (append_assoc so_far (event ∷ []) journal) (behind_origins (so_far ++ event ∷ []) journal (one_more so_far event origins))

  -- nothing is kept before all events
  no_origins : Keeps (HasOrigin X m p []) (first_world p)
  no_origins = let bare = first_bare p in record { sessions = subst (AllByRecursion (SessionKeeps (HasOrigin X m p []))) (sym bare.sessions) tt; clients = subst (AllByRecursion (ClientKeeps (HasOrigin X m p []))) (sym bare.clients) tt }

  origins_after : (journal : List Event) → Origins journal
  unfolding state_from
  origins_after journal = behind_origins [] journal no_origins

  at_level : (journal : List Event) (i j : Id) (kept : Kept) → same_id i j ≡ true → HasOrigin X m p journal j.level kept → HasOrigin X m p journal i.level kept
  at_level journal i j kept same origin = subst (λ level. HasOrigin X m p journal level kept) (grind (arith, nat_tests, same)) origin

  pub slot_origin : (journal : List Event) (i : Id) (x : Session) (n : ℕ) (slot : Slot) (kept : Kept) →
      session_at (state_after X m p journal).world.sessions i ≡ Some x → slice_get x.slots n ≡ Some slot → slot.kept ≡ Some kept → HasOrigin X m p journal i.level kept
  slot_origin journal i x n slot kept there at is =
      let found = all_find (SessionKeeps (HasOrigin X m p journal)) (λ x. same_id i x.id) (state_after X m p journal).world.sessions x (origins_after journal).sessions there in
      at_level journal i x.id kept found.1
      (subst (λ (o : Option Kept). IfSome o (HasOrigin X m p journal x.id.level)) is (slot_keeps (SlotKeeps (HasOrigin X m p journal) x.id.level) n x.slots slot found.0 at))

  pub created_origin : (journal : List Event) (i : Id) (client : Client) (kept : Kept) →
      client_at (state_after X m p journal).world.clients i ≡ Some client → client.kept ≡ Some kept → HasOrigin X m p journal i.level kept
  created_origin journal i client kept there is =
      let found = all_find (ClientKeeps (HasOrigin X m p journal)) (λ c. same_id i c.id) (state_after X m p journal).world.clients client (origins_after journal).clients there in
      at_level journal i client.id kept found.1
      (subst (λ (o : Option Kept). IfSome o (HasOrigin X m p journal client.id.level)) is found.0)
