-- The law of a DESTROY_SESSION: the session that it names is gone, and all else of the client stays.
use Rattle.std.proofs.Common.{◌≡◌, inl, ℕ, ◌≤◌, Bool, true, false, cond, ◌&&◌, ◌||◌, Option, Some, None, refl, sym, ◌∙◌, ap, subst, arith}
use Rattle.std.specs.Prelude.{◌==◌}
use Rattle.lnfs_calipso.specs.Label.{IsPreorderWithBottom}
use Rattle.lnfs_policy.specs.Policy.{Policy, dominance}
use Rattle.lnfs_world.specs.World.{Id, Session as SessionRow, World, same_id, client_at, session_at, last_of}
use Rattle.lnfs_world.specs.Outcome.{begins_at, done_to}
use Rattle.lnfs_world.specs.Both.{Both, both}
use Rattle.lnfs_world.proofs.Keys.{id_same, id_itself}
use Rattle.lnfs_operations.specs.DestroySession.{destroy_session}
use Rattle.lnfs_operations.specs.Extra.{Extra, AreLawful}
use Rattle.lnfs_gss3.specs.Contexts.{has_context}
use Rattle.lnfs_gss3.specs.Mechanism.{Signing}
use Rattle.lnfs_site.specs.Site.{site_of}
use Rattle.lnfs_step.specs.Contexts.{is_there}
use Rattle.lnfs_once.specs.Client.{Assert, Exchange, Destroy, Packet}
use Rattle.lnfs_once.specs.Laws.{Record, Session, holder_of, Gone, IsKept, IsGentle, IsPlain, Comes}
use Rattle.lnfs_slots.specs.OneClient.{Seen, When, Writer, at_level, is_owner, is_session, session_row, row_of, given_in, is_mine, mine_after, serve, context_there, IsSound, rows}
use Rattle.lnfs_slots.specs.Written.{context_of, IsDestroy}
use Rattle.lnfs_slots.proofs.Alone.{destroyed}
use Rattle.lnfs_slots.proofs.Cores.{session_same}
use Rattle.lnfs_slots.proofs.Destroys.{IsDestroyed, destroyed_rows}
use Rattle.lnfs_slots.proofs.Running as running
use Rattle.lnfs_slots.proofs.Running.{IsDone}
use Rattle.lnfs_slots.proofs.OnSlots.{no_session}
use Rattle.lnfs_slots.proofs.Steps.{there_is}
use Rattle.lnfs_slots.proofs.Tidy.{IsTidy, IsGentleToo, tidy_kept, tidy_gentle, same_tidy, same_gentle}

-- what is not there isn't shown
hidden : {Y : Type 0} (b : Bool) (o : Option Y) → o ≡ None → cond b o None ≡ None
hidden true o none = none
hidden false o none = refl

module _ (X : Extra) (owed : AreLawful X) (m : Signing) (p : Policy) (lattice : IsPreorderWithBottom (dominance p)) {A : Type 0} (w : Writer A) (v : Seen X) (when : When) (q : Packet A) (kind : q.kind ≡ Destroy) (written : IsDestroy X m p w q) (came : Comes (rows X m p w) v q) where
  abbrev b : Both X.Row
  b = v.state

  abbrev j : Id
  j = at_level w.level q.place.number

  abbrev u : World
  u = done_to b.world (destroy_session written.session (begins_at w.level when.moment) b.world)

  abbrev then : Seen X
  then = record { state = both u b.own; mine = v.mine }

  sound : IsSound X m p w v
  sound = came.good

  same_mine : (i k : ℕ) → mine_after q.kind i k v.mine ≡ v.mine
  same_mine i k = ap (λ l. mine_after l i k v.mine) kind

  abbrev Done : Seen X → Type 0
  Done t = IsDone X m p w v when q same_mine written.compound written.request t

  now : IsDestroyed j b.world u
  now = destroyed_rows written.session j when.moment b.world written.named written.whole

  done : is_there b.world.contexts w.level (context_of w.parent q.place.context) ≡ true → Done then
  done here =
      let leaves = destroyed X (site_of p) (running.sent X m p w v when q same_mine written.compound written.request) written.compound w.level when.moment b written.minor written.count written.session written.only in
      running.done X m p w v when q same_mine written.compound written.request here (both u b.own) leaves.state leaves.keeps

  same_owner : (y : SessionRow) → is_session w.owner w.level u y ≡ is_session w.owner w.level b.world y
  same_owner y = ap (λ cs. is_owner w.owner (client_at cs (at_level w.level y.client))) now.clients

  was : (n : ℕ) (y : SessionRow) → session_at u.sessions (at_level w.level n) ≡ Some y → session_at b.world.sessions (at_level w.level n) ≡ Some y
  was n y there = at (same_id (at_level w.level n) j) (sym (now.sessions (at_level w.level n)) ∙ there)
    where
      at : (t : Bool) → cond t None (session_at b.world.sessions (at_level w.level n)) ≡ Some y → session_at b.world.sessions (at_level w.level n) ≡ Some y
      at true e = absurd cc
      at false e = e

  there_now : (c : ℕ) → context_there X m p w then c ≡ context_there X m p w v c
  there_now c = ap (λ cs. c == 0 || (is_mine v.mine c && has_context cs w.level w.parent c)) now.contexts

  tidy : Done then → IsTidy X m p w v then
  tidy is =
      let before = same_tidy X m p w v sound in
      let clients : last_of w.level u.lasts.clients ≡ last_of w.level b.world.lasts.clients = ap (λ l. last_of w.level l.clients) now.lasts in
      let sessions : last_of w.level u.lasts.sessions ≡ last_of w.level b.world.lasts.sessions = ap (λ l. last_of w.level l.sessions) now.lasts in
      let contexts : last_of w.level u.lasts.contexts ≡ last_of w.level b.world.lasts.contexts = ap (λ l. last_of w.level l.contexts) now.lasts in
      record {
        holds = running.holds_then X m p w v when q same_mine written.compound written.request owed lattice sound.holds then is;
        numbers = let bound = sound.numbers in omega arith;
        records = λ n c there. inl (ap (λ cs. client_at cs (at_level w.level n)) (sym now.clients) ∙ there);
        sessions = was;
        owners = λ n y there. same_owner y;
        last_clients = omega arith;
        last_sessions = omega arith;
        last_contexts = omega arith;
        mine = λ c is. is;
        given = λ c is. ((before.given c is).0, subst (λ n. c ≤ n) (sym contexts) (before.given c is).1);
        ends = λ c met gone. there_now c ∙ gone;
      }

  -- the session is not there
  gone_now : session_at u.sessions j ≡ None
  gone_now = now.sessions j ∙ ap (λ t. cond t None (session_at b.world.sessions j)) (id_itself j)

  gone_then : Gone (rows X m p w) then Destroy q.place
  gone_then = hidden (context_there X m p w then q.place.context) (row_of w.owner w.level u Session q.place.number) (ap (session_row w.owner w.level u) gone_now)

  -- where it was gone, nothing is
  module _ (no : session_at b.world.sessions j ≡ None) where
    all_same : (i : Id) → session_at u.sessions i ≡ session_at b.world.sessions i
    all_same i = now.sessions i ∙ at (same_id i j) refl
      where
        at : (t : Bool) → same_id i j ≡ t → cond t None (session_at b.world.sessions i) ≡ session_at b.world.sessions i
        at true e = sym (ap (session_at b.world.sessions) (id_same i j e) ∙ no)
        at false e = refl

    row_same : (n : ℕ) → row_of w.owner w.level u Session n ≡ row_of w.owner w.level b.world Session n
    row_same n = session_same w.owner w.level u b.world same_owner (session_at u.sessions (at_level w.level n)) ∙ ap (session_row w.owner w.level b.world) (all_same (at_level w.level n))

    gentle : IsGentleToo X m p w v then
    gentle = record {
      sessions = λ n gone. sym (row_same n) ∙ gone;
      contexts = λ c met there. there_now c ∙ there;
      records = λ n x is gone. λ k.
          let none : Some x ≡ None = sym is ∙ ap (λ cs. row_of w.owner w.level (record b.world { clients = cs }) Record n) (sym now.clients) ∙ gone in
          absurd cc;
    }

  abbrev Plain : Type 0
  Plain = IsPlain (rows X m p w) v q (serve X m p w v when q)

  by_state : (t : Seen X) → Done t → IsTidy X m p w v t → (Gone (rows X m p w) v Destroy q.place → IsGentleToo X m p w v t) → Gone (rows X m p w) t Destroy q.place → Plain
  by_state t is tidied gently gone = record {
    kept = subst (IsKept (rows X m p w) v) (sym is.state) (tidy_kept X m p w v t sound tidied);
    gentle = λ before. subst (IsGentle (rows X m p w) v) (sym is.state) (tidy_gentle X m p w v t sound tidied (gently (subst (λ k. Gone (rows X m p w) v k q.place) kind before)));
    acts = is.acts;
    gone = subst (λ s. Gone (rows X m p w) s q.kind q.place) (sym is.state) (subst (λ k. Gone (rows X m p w) t k q.place) (sym kind) gone);
    known = λ number next exchange told. let no : Destroy ≡ Exchange = sym kind ∙ exchange in absurd cc;
    granted = λ context assert told. let no : Destroy ≡ Assert = sym kind ∙ assert in absurd cc;
  }

  pub plain_destroy : Plain
  plain_destroy = at (context_there X m p w v q.place.context) refl
    where
      same_there : is_there b.world.contexts w.level (context_of w.parent q.place.context) ≡ context_there X m p w v q.place.context
      same_there = there_is X m p w v q.place.context came.knows.1

      given : given_in w.owner w.level b.world Session q.place.number
      given = subst (λ k. given_in w.owner w.level b.world (holder_of k) q.place.number) kind came.knows.0

      at : (t : Bool) → context_there X m p w v q.place.context ≡ t → Plain
      at false e =
          let is = running.away X m p w v when q same_mine written.compound written.request (same_there ∙ e) in
          by_state v is (same_tidy X m p w v sound) (λ before. same_gentle X m p w v) (ap (λ t. cond t (row_of w.owner w.level b.world Session q.place.number) None) e)
      at true e =
          let is = done (same_there ∙ e) in
          by_state then is (tidy is)
          (λ before.
          let shown : row_of w.owner w.level b.world Session q.place.number ≡ None = sym (ap (λ t. cond t (row_of w.owner w.level b.world Session q.place.number) None) e) ∙ before in
          gentle (no_session w.owner w.level b.world (session_at b.world.sessions j) given.1 (sound.slotted q.place.number) shown))
          gone_then
