-- The operations change rows of clients and sessions alone, and opens where a client goes, so that the other rows of a world
-- stay.
use Rattle.std.proofs.Common.{◌≡◌, ℕ, Bool, true, false, ◌&&◌, not, List, [], ◌∷◌, ◌++◌, Option, Some, None, refl, sym, ap, ◌∙◌, subst}
use Rattle.std.specs.Prelude.{◌==◌, ◌||◌, find}
use Rattle.std.specs.List.{list_any}
use Rattle.std.specs.Option.{option_map}
use Rattle.lnfs_types.specs.declared.event.Moment.{Moment}
use Rattle.lnfs_arguments.specs.declared.types.CreateSession.{CreateSession}
use Rattle.lnfs_world.specs.World.{Id, Kept, Client, Slot, Session, Open, World, client_at, session_at}
use Rattle.lnfs_world.specs.Change.{Change, AddClient, SetClient, DropClient, AddSession, SetSession, DropSession, apply, apply_all, is_open_of, is_session_of}
use Rattle.lnfs_world.specs.Outcome.{Place, Outcome, begins_at, done_to}
use Rattle.lnfs_operations.specs.Chain.{Answer, Done, Refused}
use Rattle.lnfs_operations.specs.Identifiers.{client_named, session_named, session_under}
use Rattle.lnfs_operations.specs.ExchangeId.{Arguments, is_pending, dropped, exchange_id}
use Rattle.lnfs_operations.specs.CreateSession.{Created, New, Again, is_replaced, created, create_session}
use Rattle.lnfs_operations.specs.DestroySession.{destroy_session}
use Rattle.lnfs_operations.specs.DestroyClientId.{is_busy, destroy_clientid}
use Rattle.lnfs_operations.specs.ReclaimComplete.{reclaim_complete}
use Rattle.lnfs_operations.specs.Keeping.{kept_in, kept_under, keep_result, kept_of, keep_created}
use Rattle.lnfs_operations.proofs.Chains.{demand_any, where_any}
use Rattle.lnfs_operations.proofs.ExchangeIdLaws.{exchange_id_any}
use Rattle.lnfs_operations.proofs.CreateSessionLaws.{created_any}
use Rattle.lnfs_operations.proofs.Once.{reclaim_any}
use Rattle.lnfs_counts.proofs.Rows.{none_filtered}
use Rattle.lnfs_session.specs.Standing.{Lists, lists_of, standing}
use Rattle.lnfs_session.specs.Records.{replaced_by}
use Rattle.lnfs_engine.specs.Stores.{opens_left}
use Rattle.lnfs_engine.specs.Behind.{OpensBehind}
use Rattle.lnfs_engine.proofs.Leaving.{dropped_opens, pending_left}

-- ---- the rows of clients and sessions

abbrev is_own : Change → Bool
is_own (AddClient row) = true
is_own (SetClient row) = true
is_own (DropClient client) = true
is_own (AddSession row) = true
is_own (SetSession row) = true
is_own (DropSession session) = true
is_own _ = false

abbrev are_own : List Change → Bool
are_own [] = true
are_own (c ∷ cs) = is_own c && are_own cs

and_both : (a b : Bool) → (a && b) ≡ true → (a ≡ true) × (b ≡ true)
and_both true b is = (refl, is)
and_both false b is = absurd (cc)

-- the clients, sessions and opens of a world, whose other rows are those of another
abbrev around_of : (rest w : World) → World
around_of rest w = standing (record rest { opens = w.opens }) (lists_of w)

one : (rest : World) (c : Change) (l : Lists) → is_own c ≡ true → around_of rest (apply c (standing rest l)) ≡ apply c (standing rest l)
one rest (AddClient row) l own = refl
one rest (SetClient row) l own = refl
one rest (DropClient client) l own = refl
one rest (AddSession row) l own = refl
one rest (SetSession row) l own = refl
one rest (DropSession session) l own = refl
one rest _ l own = absurd (cc)

-- a world with these lists, after changes of theirs
around : (rest : World) (cs : List Change) (l : Lists) → are_own cs ≡ true → around_of rest (apply_all cs (standing rest l)) ≡ apply_all cs (standing rest l)
around rest [] l own = refl
around rest (c ∷ cs) l own =
    let both = and_both (is_own c) (are_own cs) own in
    let w = apply c (standing rest l) in
    subst (λ w. around_of rest (apply_all cs w) ≡ apply_all cs w) (one rest c l both.0) (around (record rest { opens = w.opens }) cs (lists_of w) both.1)

-- ---- the outcomes of the operations

-- an outcome on a world that changes rows of clients and sessions alone, the opens then, and the place behind it
pub record IsOwn {A : Type 0} (next : Place) (w : World) (opens : List Open) (o : Outcome A) : Type 0 where
  pub own : are_own o.changes ≡ true
  pub place : o.place ≡ next
  pub opens_are : (done_to w o).opens ≡ opens

-- all of the world behind it
pub whole : {A : Type 0} (rest : World) (opens : List Open) (l : Lists) (next : Place) (o : Outcome A) → IsOwn next (standing rest l) opens o → standing (record rest { opens = opens }) (lists_of (done_to (standing rest l) o)) ≡ done_to (standing rest l) o
whole rest opens l next o own = (λ i. standing (record rest { opens = sym own.opens_are i }) (lists_of (done_to (standing rest l) o))) ∙ around rest o.changes l own.own

stays_own : {A : Type 0} (p : Place) (w : World) (answer : A) → IsOwn p w w.opens (record { answer = answer; place = p; changes = [] })
stays_own p w answer = record { own = refl; place = refl; opens_are = refl }

dropped_own : (o : Option Client) (cs : List Change) → are_own cs ≡ true → are_own (dropped o ++ cs) ≡ true
dropped_own None cs own = own
dropped_own (Some c) cs own = own

pub exchange_id_own : (args : Arguments) (p : Place) (w : World) → OpensBehind w.clients w.opens → IsOwn p w w.opens (exchange_id args p w)
exchange_id_own args p w behind =
    let pending = find (is_pending p.subject args.owner) w.clients in
    exchange_id_any (IsOwn p w w.opens) args p w (λ gate status. stays_own p w _) (λ told. stays_own p w _)
    (record { own = dropped_own pending _ refl; place = refl; opens_are = dropped_opens pending _ w (λ v. refl) ∙ pending_left w.clients w.opens behind p.subject args.owner pending refl })

-- the opens where a CREATE_SESSION was answered: those of the client that gives way go
abbrev pub opens_by : Option Id → List Open → Answer Created → List Open
opens_by client opens (Done (New session granted)) = opens_left client opens
opens_by client opens (Done (Again reply)) = opens
opens_by client opens (Refused why) = opens

-- the client that gives way
abbrev pub given_way : CreateSession → List Client → Option Id
given_way args clients = option_map (λ (c : Client). c.id) (replaced_by (client_at clients (client_named args.client)) clients)

not_busy : (a b : Bool) → not (a || b) ≡ true → b ≡ false
not_busy true b is = absurd (cc)
not_busy false true is = absurd (cc)
not_busy false false is = refl

-- at the place of the first operation
module _ (level : ℕ) (moment : Moment) (w : World) where
  abbrev at : Place
  at = begins_at level moment

  pub create_session_own : (args : CreateSession) (arguments : List ℕ) → let o = create_session args arguments at w in IsOwn at w (opens_by (given_way args w.clients) w.opens o.answer) o
  create_session_own args arguments =
      let P : Outcome (Answer Created) → Type 0 = λ o. IsOwn at w (opens_by (given_way args w.clients) w.opens o.answer) o in
      demand_any P ((client_named args.client).level == level) _ _ (stays_own at w _) (λ own.
      where_any P (client_at w.clients (client_named args.client)) (created args arguments at w) _ (λ c found.
      created_any P args arguments at w c (λ gate status. stays_own at w _) (λ kept there. stays_own at w _)
      (λ large. record {
        own = dropped_own (find (is_replaced c) w.clients) _ refl;
        place = refl;
        opens_are = dropped_opens (find (is_replaced c) w.clients) _ w (λ v. refl) ∙ ap (λ (o : Option Client). opens_left (option_map (λ (d : Client). d.id) (replaced_by o w.clients)) w.opens) (sym found);
      }))
      (stays_own at w _))

  -- where the last one came again, nothing changes
  pub create_session_again : (args : CreateSession) (arguments reply : List ℕ) → (create_session args arguments at w).answer ≡ Done (Again reply) → done_to w (create_session args arguments at w) ≡ w
  create_session_again args arguments reply =
      let P : Outcome (Answer Created) → Type 0 = λ o. o.answer ≡ Done (Again reply) → done_to w o ≡ w in
      demand_any P ((client_named args.client).level == level) _ _ (λ is. refl) (λ own.
      where_any P (client_at w.clients (client_named args.client)) (created args arguments at w) _ (λ c found.
      created_any P args arguments at w c (λ gate status is. refl) (λ kept there is. refl) (λ large is. absurd (cc)))
      (λ is. refl))

  pub destroy_session_own : (session : List ℕ) → IsOwn at w w.opens (destroy_session session at w)
  destroy_session_own session =
      demand_any (IsOwn at w w.opens) ((session_named session).level == level) _ _ (stays_own at w _) (λ own.
      where_any (IsOwn at w w.opens) (session_under session w.sessions) _ _ (λ x found. record { own = refl; place = refl; opens_are = refl }) (stays_own at w _))

  -- a client that goes has no open
  pub destroy_clientid_own : (client : ℕ) → IsOwn at w w.opens (destroy_clientid client at w)
  destroy_clientid_own client =
      demand_any (IsOwn at w w.opens) ((client_named client).level == level) _ _ (stays_own at w _) (λ own.
      where_any (IsOwn at w w.opens) (client_at w.clients (client_named client)) _ _
      (λ c found. demand_any (IsOwn at w w.opens) (not (is_busy c.id w)) _ _ (stays_own at w _) (λ idle.
      let none = not_busy (list_any (is_session_of c.id) w.sessions) (list_any (is_open_of c.id) w.opens) idle in
      record { own = refl; place = refl; opens_are = none_filtered (is_open_of c.id) w.opens none }))
      (stays_own at w _))

pub reclaim_complete_own : (one_fs : Bool) (p : Place) (w : World) → IsOwn p w w.opens (reclaim_complete one_fs p w)
reclaim_complete_own one_fs p w = reclaim_any (IsOwn p w w.opens) one_fs p w (λ status. stays_own p w _) (stays_own p w _) (λ c. record { own = refl; place = refl; opens_are = refl })

pub reclaim_complete_sessions : (one_fs : Bool) (p : Place) (w : World) → (done_to w (reclaim_complete one_fs p w)).sessions ≡ w.sessions
reclaim_complete_sessions one_fs p w = reclaim_any (λ o. (done_to w o).sessions ≡ w.sessions) one_fs p w (λ status. refl) refl (λ c. refl)

-- ---- the keeping of results

-- changes of clients and sessions that leave the opens of a world
record AreKept (w : World) (cs : List Change) : Type 0 where
  pub own : are_own cs ≡ true
  pub opens : (apply_all cs w).opens ≡ w.opens

pub keep_created_own : (client : ℕ) (kept : Kept) (p : Place) (w : World) → IsOwn p w w.opens (keep_created client kept p w)
keep_created_own client kept p w =
    let is = at (client_at w.clients (record { level = p.subject; number = client })) in
    record { own = is.own; place = refl; opens_are = is.opens }
  where
    at : (o : Option Client) → AreKept w (kept_of kept o)
    at None = record { own = refl; opens = refl }
    at (Some c) = record { own = refl; opens = refl }

pub keep_result_own : (slot sequence : ℕ) (kept : Kept) (p : Place) (w : World) → IsOwn p w w.opens (keep_result slot sequence kept p w)
keep_result_own slot sequence kept p w =
    let is = under p.session in
    record { own = is.own; place = refl; opens_are = is.opens }
  where
    row : Slot
    row = record { sequence = sequence; kept = Some kept }

    at : (o : Option Session) → AreKept w (kept_in p slot row o)
    at None = record { own = refl; opens = refl }
    at (Some x) = record { own = refl; opens = refl }

    under : (session : Option ℕ) → AreKept w (kept_under p slot row session w.sessions)
    under None = record { own = refl; opens = refl }
    under (Some number) = at (session_at w.sessions (record { level = p.subject; number = number }))
