-- The law of a DESTROY_CLIENTID: a record goes only where it has no session, and all else of the client stays.
use Rattle.std.proofs.Common.{◌≡◌, inl, inr, ℕ, ◌≤◌, Bool, true, false, cond, not, ◌&&◌, ◌||◌, List, [], ◌∷◌, Option, Some, None, refl, sym, ◌∙◌, ap, subst, arith}
use Rattle.std.specs.Prelude.{◌==◌, filter, slice_get}
use Rattle.std.specs.List.{list_any}
use Rattle.std.specs.Option.{option_map}
use Rattle.std.specs.Str.{bytes_eq}
use Rattle.std.proofs.lemmas.Bool.Decides.{nat_tests}
use Rattle.lnfs_calipso.specs.Label.{IsPreorderWithBottom}
use Rattle.lnfs_policy.specs.Policy.{Policy, dominance}
use Rattle.lnfs_world.specs.World.{Id, Client as ClientRow, Session as SessionRow, World, same_id, client_at, session_at, last_of}
use Rattle.lnfs_world.specs.Change.{is_session_of}
use Rattle.lnfs_world.specs.Outcome.{begins_at, done_to}
use Rattle.lnfs_world.specs.Both.{Both, both}
use Rattle.lnfs_world.proofs.Keys.{id_same, id_itself}
use Rattle.lnfs_world.proofs.KeptClients.{client_at-dropped}
use Rattle.lnfs_world.proofs.Rows.{all_find, none_any}
use Rattle.lnfs_operations.specs.DestroyClientId.{destroy_clientid}
use Rattle.lnfs_operations.specs.Extra.{Extra, AreLawful}
use Rattle.lnfs_operations.proofs.SessionLaws.{session_at-id}
use Rattle.lnfs_gss3.specs.Contexts.{has_context}
use Rattle.lnfs_gss3.specs.Mechanism.{Signing}
use Rattle.lnfs_site.specs.Site.{site_of}
use Rattle.lnfs_step.specs.Contexts.{is_there}
use Rattle.lnfs_once.specs.Client.{Assert, Exchange, Leave, Packet}
use Rattle.lnfs_once.specs.Laws.{Record, Session, Gone, IsKept, IsGentle, IsPlain, Comes}
use Rattle.lnfs_slots.specs.OneClient.{Seen, When, Row, Writer, at_level, slot_row, is_owner, is_session, record_row, session_row, row_of, is_mine, mine_after, serve, context_there, IsSound, rows}
use Rattle.lnfs_slots.specs.Written.{context_of, IsLeave}
use Rattle.lnfs_slots.proofs.Alone.{left}
use Rattle.lnfs_slots.proofs.ClientCreates as creates
use Rattle.lnfs_slots.proofs.Leaves.{IsLeft, left_rows}
use Rattle.lnfs_slots.proofs.Running as running
use Rattle.lnfs_slots.proofs.Running.{IsDone}
use Rattle.lnfs_slots.proofs.Steps.{there_is}
use Rattle.lnfs_slots.proofs.Tidy.{IsTidy, IsGentleToo, tidy_kept, tidy_gentle, same_tidy, same_gentle}

-- where a test holds of none, none is left out
pub filter_none : {Y : Type 0} (test : Y → Bool) (xs : List Y) → list_any test xs ≡ false → filter (λ x. not (test x)) xs ≡ xs
filter_none test [] never = refl
filter_none test (x ∷ xs) never = grind (arith, never, filter_none test xs)

-- who is the owner
pub record IsOwned (owner : List ℕ) (o : Option ClientRow) : Type 0 where
  pub client : ClientRow
  pub there : o ≡ Some client
  pub own : bytes_eq client.owner owner ≡ true

pub owned : (owner : List ℕ) (o : Option ClientRow) → is_owner owner o ≡ true → IsOwned owner o
owned owner None is = absurd (grind arith)
owned owner (Some c) is = record { client = c; there = refl; own = is }

module _ (X : Extra) (owed : AreLawful X) (m : Signing) (p : Policy) (lattice : IsPreorderWithBottom (dominance p)) {A : Type 0} (w : Writer A) (v : Seen X) (when : When) (q : Packet A) (kind : q.kind ≡ Leave) (written : IsLeave X m p w q) (came : Comes (rows X m p w) v q) where
  abbrev b : Both X.Row
  b = v.state

  abbrev j : Id
  j = at_level w.level q.place.number

  abbrev u : World
  u = done_to b.world (destroy_clientid written.client (begins_at w.level when.moment) b.world)

  abbrev then : Seen X
  then = record { state = both u b.own; mine = v.mine }

  sound : IsSound X m p w v
  sound = came.good

  same_mine : (i k : ℕ) → mine_after q.kind i k v.mine ≡ v.mine
  same_mine i k = ap (λ l. mine_after l i k v.mine) kind

  abbrev Done : Seen X → Type 0
  Done t = IsDone X m p w v when q same_mine written.compound written.request t

  done : is_there b.world.contexts w.level (context_of w.parent q.place.context) ≡ true → Done then
  done here =
      let leaves = left X (site_of p) (running.sent X m p w v when q same_mine written.compound written.request) written.compound w.level when.moment b written.minor written.count written.client written.only in
      running.done X m p w v when q same_mine written.compound written.request here (both u b.own) leaves.state leaves.keeps

  -- ---- a record that goes

  module _ (goes : IsLeft j b.world u) where
    idle : list_any (is_session_of j) b.world.sessions ≡ false
    idle = let busy = goes.idle in grind (arith, busy)

    clients_now : (i : Id) → client_at u.clients i ≡ cond (same_id i j) None (client_at b.world.clients i)
    clients_now i = ap (λ (z : World). client_at z.clients i) goes.world ∙ client_at-dropped j b.world.clients i

    sessions_now : u.sessions ≡ b.world.sessions
    sessions_now = ap (λ (z : World). z.sessions) goes.world ∙ filter_none (is_session_of j) b.world.sessions idle

    -- no session is one of it
    apart : (n : ℕ) (y : SessionRow) → session_at b.world.sessions (at_level w.level n) ≡ Some y → same_id (at_level w.level y.client) j ≡ false
    apart n y there = at (same_id (at_level w.level y.client) j) refl
      where
        at : (t : Bool) → same_id (at_level w.level y.client) j ≡ t → same_id (at_level w.level y.client) j ≡ false
        at false e = e
        at true e =
            let other : is_session_of j y ≡ false = (all_find (λ z. is_session_of j z ≡ false) (λ z. same_id (at_level w.level n) z.id) b.world.sessions y (none_any (is_session_of j) b.world.sessions idle) there).0 in
            let level : y.id.level ≡ w.level = ap (λ (i : Id). i.level) (session_at-id (at_level w.level n) b.world.sessions y there) in
            let number : y.client ≡ q.place.number = ap (λ (i : Id). i.number) (id_same (at_level w.level y.client) j e) in
            absurd (grind (arith, nat_tests, other, level, number))

    owners_now : (n : ℕ) (y : SessionRow) → session_at b.world.sessions (at_level w.level n) ≡ Some y → is_session w.owner w.level u y ≡ is_session w.owner w.level b.world y
    owners_now n y there =
        ap (is_owner w.owner) (clients_now (at_level w.level y.client) ∙ ap (λ t. cond t None (client_at b.world.clients (at_level w.level y.client))) (apart n y there))

    was : (n : ℕ) (y : SessionRow) → session_at u.sessions (at_level w.level n) ≡ Some y → session_at b.world.sessions (at_level w.level n) ≡ Some y
    was n y there = ap (λ ss. session_at ss (at_level w.level n)) (sym sessions_now) ∙ there

    record_was : (n : ℕ) (c : ClientRow) → client_at u.clients (at_level w.level n) ≡ Some c → client_at b.world.clients (at_level w.level n) ≡ Some c
    record_was n c there = at (same_id (at_level w.level n) j) (sym (clients_now (at_level w.level n)) ∙ there)
      where
        at : (t : Bool) → cond t None (client_at b.world.clients (at_level w.level n)) ≡ Some c → client_at b.world.clients (at_level w.level n) ≡ Some c
        at true e = absurd cc
        at false e = e

    there_now : (c : ℕ) → context_there X m p w then c ≡ context_there X m p w v c
    there_now c = ap (λ (z : World). c == 0 || (is_mine v.mine c && has_context z.contexts w.level w.parent c)) goes.world

    tidy : Done then → IsTidy X m p w v then
    tidy is =
        let before = same_tidy X m p w v sound in
        let clients : last_of w.level u.lasts.clients ≡ last_of w.level b.world.lasts.clients = ap (λ (z : World). last_of w.level z.lasts.clients) goes.world in
        let sessions : last_of w.level u.lasts.sessions ≡ last_of w.level b.world.lasts.sessions = ap (λ (z : World). last_of w.level z.lasts.sessions) goes.world in
        let contexts : last_of w.level u.lasts.contexts ≡ last_of w.level b.world.lasts.contexts = ap (λ (z : World). last_of w.level z.lasts.contexts) goes.world in
        record {
          holds = running.holds_then X m p w v when q same_mine written.compound written.request owed lattice sound.holds then is;
          numbers = let bound = sound.numbers in omega arith;
          records = λ n c there. inl (record_was n c there);
          sessions = was;
          owners = λ n y there. owners_now n y (was n y there);
          last_clients = omega arith;
          last_sessions = omega arith;
          last_contexts = omega arith;
          mine = λ c is. is;
          given = λ c is. ((before.given c is).0, subst (λ n. c ≤ n) (sym contexts) (before.given c is).1);
          ends = λ c met gone. there_now c ∙ gone;
        }

    row_same : (n : ℕ) → row_of w.owner w.level u Session n ≡ row_of w.owner w.level b.world Session n
    row_same n = ap (λ ss. session_row w.owner w.level u (session_at ss (at_level w.level n))) sessions_now ∙ at (session_at b.world.sessions (at_level w.level n)) refl
      where
        at : (o : Option SessionRow) → session_at b.world.sessions (at_level w.level n) ≡ o → session_row w.owner w.level u o ≡ session_row w.owner w.level b.world o
        at None e = refl
        at (Some y) e = ap (λ (t : Bool). cond t (option_map slot_row (slice_get y.slots 0)) None) (owners_now n y e)

    -- where the owner's record goes, it has no session
    none_left : (n : ℕ) (x : Row) → row_of w.owner w.level b.world Record n ≡ Some x → row_of w.owner w.level u Record n ≡ None → (k : ℕ) → row_of w.owner w.level b.world Session k ≡ None
    none_left n x is gone k = at (session_at b.world.sessions (at_level w.level k)) refl
      where
        shows : creates.Shows w.owner (client_at b.world.clients (at_level w.level n)) x
        shows = creates.shown w.owner (client_at b.world.clients (at_level w.level n)) x is

        it : at_level w.level n ≡ j
        it = by (same_id (at_level w.level n) j) refl
          where
            by : (t : Bool) → same_id (at_level w.level n) j ≡ t → at_level w.level n ≡ j
            by true e = id_same (at_level w.level n) j e
            by false e =
                let same : row_of w.owner w.level u Record n ≡ row_of w.owner w.level b.world Record n = ap (record_row w.owner) (clients_now (at_level w.level n) ∙ ap (λ t. cond t None (client_at b.world.clients (at_level w.level n))) e) in
                let no : Some x ≡ None = sym is ∙ sym same ∙ gone in
                absurd cc

        mine : (y : SessionRow) → session_at b.world.sessions (at_level w.level k) ≡ Some y → (t : Bool) → is_session w.owner w.level b.world y ≡ t → cond t (option_map slot_row (slice_get y.slots 0)) None ≡ None
        mine y e false f = refl
        mine y e true f =
            let owner = owned w.owner (client_at b.world.clients (at_level w.level y.client)) f in
            let number : y.client ≡ n = sound.one y.client n owner.client shows.client owner.there shows.there owner.own shows.own in
            let same : at_level w.level y.client ≡ j = ap (at_level w.level) number ∙ it in
            let tested : same_id (at_level w.level y.client) j ≡ true = ap (λ i. same_id i j) same ∙ id_itself j in
            let no : true ≡ false = sym tested ∙ apart k y e in
            absurd cc

        at : (o : Option SessionRow) → session_at b.world.sessions (at_level w.level k) ≡ o → session_row w.owner w.level b.world o ≡ None
        at None e = refl
        at (Some y) e = mine y e (is_session w.owner w.level b.world y) refl

    gentle : IsGentleToo X m p w v then
    gentle = record {
      sessions = λ n gone. sym (row_same n) ∙ gone;
      contexts = λ c met there. there_now c ∙ there;
      records = none_left;
    }

  -- ---- the law

  abbrev Plain : Type 0
  Plain = IsPlain (rows X m p w) v q (serve X m p w v when q)

  by_state : (t : Seen X) → Done t → IsTidy X m p w v t → IsGentleToo X m p w v t → Plain
  by_state t is tidied gently = record {
    kept = subst (IsKept (rows X m p w) v) (sym is.state) (tidy_kept X m p w v t sound tidied);
    gentle = λ before. subst (IsGentle (rows X m p w) v) (sym is.state) (tidy_gentle X m p w v t sound tidied gently);
    acts = is.acts;
    gone = subst (λ k. Gone (rows X m p w) (serve X m p w v when q).state k q.place) (sym kind) tt;
    known = λ number next exchange told. let no : Leave ≡ Exchange = sym kind ∙ exchange in absurd cc;
    granted = λ context assert told. let no : Leave ≡ Assert = sym kind ∙ assert in absurd cc;
  }

  pub plain_leave : Plain
  plain_leave = at (context_there X m p w v q.place.context) refl
    where
      same_there : is_there b.world.contexts w.level (context_of w.parent q.place.context) ≡ context_there X m p w v q.place.context
      same_there = there_is X m p w v q.place.context came.knows.1

      at : (t : Bool) → context_there X m p w v q.place.context ≡ t → Plain
      at false e = by_state v (running.away X m p w v when q same_mine written.compound written.request (same_there ∙ e)) (same_tidy X m p w v sound) (same_gentle X m p w v)
      at true e = elim (left_rows written.client j when.moment b.world written.named) [
        | inl same ↦ by_state v (subst Done (λ k. record { state = both (same k) b.own; mine = v.mine }) (done (same_there ∙ e))) (same_tidy X m p w v sound) (same_gentle X m p w v)
        | inr goes ↦ by_state then (done (same_there ∙ e)) (tidy goes (done (same_there ∙ e))) (gentle goes)
      ]
