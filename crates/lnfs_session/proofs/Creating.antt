-- The outcomes of a CREATE_SESSION that brings the next sequence of its client.
use Rattle.std.proofs.Common.{◌≡◌, ℕ, ◌+◌, Bool, true, false, cond, not, List, [], ◌∷◌, ◌++◌, Option, Some, None, refl, sym, ap, ◌∙◌, arith}
use Rattle.std.specs.Prelude.{◌==◌, filter, find, nat_lt, option_map}
use Rattle.std.specs.Ordering.{match_ordering}
use Rattle.std.specs.declared.cmp.Ordering.{Ordering}
use Rattle.std.specs.declared.cmp.Ordering.TheVariants.{Less, Equal, Greater}
use Rattle.std.proofs.lemmas.Bool.Decides.{nat_tests}
use Rattle.lnfs_types.specs.declared.event.Moment.{Moment}
use Rattle.lnfs_arguments.specs.declared.types.CreateSession.{CreateSession}
use Rattle.lnfs_world.specs.Rows.{inserted}
use Rattle.lnfs_world.specs.World.{Id, Client, Session, World, client_order, session_order, level_order, same_id, client_at, last_of}
use Rattle.lnfs_world.specs.Change.{SetClient, AddSession, is_session_of, apply_all}
use Rattle.lnfs_world.specs.Outcome.{begins_at}
use Rattle.lnfs_world.specs.declared.numbers.TheConstants.{LAST_NUMBER}
use Rattle.lnfs_world.proofs.Keys.{id_same, id_itself, id_tie}
use Rattle.lnfs_world.proofs.KeptClients.{client_at-inserted}
use Rattle.lnfs_operations.specs.declared.numbers.TheConstants.{SESSIONS_OF_A_LEVEL}
use Rattle.lnfs_operations.specs.Chain.{done}
use Rattle.lnfs_operations.specs.ExchangeId.{dropped}
use Rattle.lnfs_operations.specs.CreateSession.{New, Again, create_session, made, is_large_enough, granted_of, is_replaced, new_session, sessions_of, confirmed as created_row}
use Rattle.lnfs_operations.specs.Identifiers.{client_named}
use Rattle.lnfs_operations.specs.InOrder.{sequence_before}
use Rattle.lnfs_counts.proofs.Rows.{found_id}
use Rattle.lnfs_session.specs.Indexed.{own_id}
use Rattle.lnfs_session.specs.Arrivals.{arrival, Next}
use Rattle.lnfs_session.proofs.Arriving.{followed, ordered}
use Rattle.lnfs_session.specs.Standing.{Lists, standing, lists_of, clients_left, sessions_left, clients_set, seen_at}

-- what is done for a client's record that passes the tests
pub makes : (args : CreateSession) (level : ℕ) (moment : Moment) (rest : World) (lists : Lists) (c : Client) → is_large_enough args.fore ≡ true → nat_lt (sessions_of level lists.sessions) SESSIONS_OF_A_LEVEL ≡ true → nat_lt (last_of level lists.session_lasts) LAST_NUMBER ≡ true → made args (begins_at level moment) (standing rest lists) c ≡
    done (begins_at level moment) (New (last_of level lists.session_lasts + 1) (granted_of args.fore))
    (dropped (find (is_replaced c) lists.clients) ++ SetClient (created_row (begins_at level moment) c) ∷ AddSession (new_session (record { level = level; number = last_of level lists.session_lasts + 1 }) c (granted_of args.fore)) ∷ [])
makes args level moment rest lists c large room number = rw (large, room, number) refl

-- where the next sequence of a client comes, its session is made
next : (args : CreateSession) (arguments : List ℕ) (lists : Lists) (level : ℕ) (id : Id) (c : Client) (last : ℕ) → id ≡ client_named args.client → id.level ≡ level → client_at lists.clients id ≡ Some c → last ≡ sequence_before c.sequence → Next ≡ arrival last c.sequence c.kept args.sequence arguments → (moment : Moment) (rest : World) → made args (begins_at id.level moment) (standing rest lists) c ≡ create_session args arguments (begins_at level moment) (standing rest lists)
next args arguments lists level id c last named own there before came moment rest =
    let p = begins_at level moment in
    let again = λ (reply : List ℕ). done p (Again reply) [] in
    let new = made args p (standing rest lists) c in
    let here : ((client_named args.client).level == level) ≡ true = grind (arith, nat_tests) in
    let found : client_at lists.clients (client_named args.client) ≡ Some c = ap (client_at lists.clients) (sym named) ∙ there in
    let comes : arrival (sequence_before c.sequence) c.sequence c.kept args.sequence arguments ≡ Next = ap (λ n. arrival n c.sequence c.kept args.sequence arguments) (sym before) ∙ sym came in
    ap (λ n. made args (begins_at n moment) (standing rest lists) c) own
    ∙ sym (ap (followed p again new) comes)
    ∙ sym (ordered p again new arguments (sequence_before c.sequence) c.sequence c.kept args.sequence)
    ∙ rw (here, found) refl

-- the same of a record that is found among the lists as they are kept
pub record IsNext (args : CreateSession) (arguments : List ℕ) (lists : Lists) (level : ℕ) (id : Id) (c : Client) : Type 0 where
  pub there : client_at lists.clients id ≡ Some c
  pub makes : (moment : Moment) (rest : World) → made args (begins_at id.level moment) (standing rest lists) c ≡ create_session args arguments (begins_at level moment) (standing rest lists)

pub is_next : (args : CreateSession) (arguments : List ℕ) (kept lists : Lists) (level : ℕ) (id : Id) (c : Client) (last : ℕ) → kept ≡ lists → Some c ≡ client_at kept.clients id → id ≡ client_named args.client → id.level ≡ level → last ≡ sequence_before c.sequence → Next ≡ arrival last c.sequence c.kept args.sequence arguments → IsNext args arguments lists level id c
is_next args arguments kept lists level id c last view found named own before came =
    let there = ap (λ (l : Lists). client_at l.clients id) (sym view) ∙ sym found in
    record { there = there; makes = next args arguments lists level id c last named own there before came }

-- the lists after a record gave way to one that is confirmed, and a session was added
pub created : (rest : World) (lists : Lists) (o : Option Client) (row : Client) (x : Session) → lists_of (apply_all (dropped o ++ SetClient row ∷ AddSession x ∷ []) (standing rest lists)) ≡
    record { clients = inserted client_order row (clients_left (option_map (λ c. c.id) o) lists.clients); sessions = inserted session_order x (sessions_left (option_map (λ c. c.id) o) lists.sessions); client_lasts = lists.client_lasts; session_lasts = inserted level_order x.id lists.session_lasts }
created rest lists None row x = refl
created rest lists (Some c) row x = refl

pub found_passes : {X : Type 0} (p : X → Bool) (x : X) (xs : List X) → find p xs ≡ Some x → p x ≡ true
found_passes p x [] found = absurd (cc)
found_passes p x (y ∷ xs) found = grind (arith, found_passes p x xs)

pub client-id : (clients : List Client) (i : Id) (c : Client) → client_at clients i ≡ Some c → c.id ≡ i
client-id clients i c found = sym (id_same i c.id (found_id own_id clients i c found))

-- the record that gives way is another one
other : (c d : Client) → is_replaced c d ≡ true → same_id c.id d.id ≡ false
other c d e = grind arith

-- the new session isn't one of the record that gives way, so it can be added before these go
pub session-added : (c : Client) (x : Session) (clients : List Client) (rows added : List Session) → x.id.level ≡ c.id.level → x.client ≡ c.id.number → added ≡ inserted session_order x rows → ((test : Session → Bool) → test x ≡ true → filter test added ≡ inserted session_order x (filter test rows)) → sessions_left (option_map (λ d. d.id) (find (is_replaced c) clients)) added ≡ inserted session_order x (sessions_left (option_map (λ d. d.id) (find (is_replaced c) clients)) rows)
session-added c x clients rows added level client all some = at (find (is_replaced c) clients) refl
  where
    at : (o : Option Client) → find (is_replaced c) clients ≡ o → sessions_left (option_map (λ d. d.id) o) added ≡ inserted session_order x (sessions_left (option_map (λ d. d.id) o) rows)
    at None is = all
    at (Some d) is = some (λ y. not (is_session_of d.id y)) (apart (other c d (found_passes (is_replaced c) d clients is)))
      where
        apart : same_id c.id d.id ≡ false → not (is_session_of d.id x) ≡ true
        apart differ = grind (arith, nat_tests)

-- a row that is set, and is set again in another state
twice : (secs : ℕ) (row : Client) (rows : List Client) → inserted client_order (seen_at secs row) (inserted client_order row rows) ≡ inserted client_order (seen_at secs row) rows
twice secs row [] = ap (λ o. match_ordering o (seen_at secs row ∷ row ∷ []) (seen_at secs row ∷ []) (row ∷ seen_at secs row ∷ [])) (id_tie row.id row.id (id_itself row.id))
twice secs row (x ∷ xs) = by (client_order row x) refl (twice secs row xs)
  where
    tie : client_order row row ≡ Equal
    tie = id_tie row.id row.id (id_itself row.id)

    by : (o : Ordering) → client_order row x ≡ o → inserted client_order (seen_at secs row) (inserted client_order row xs) ≡ inserted client_order (seen_at secs row) xs → inserted client_order (seen_at secs row) (inserted client_order row (x ∷ xs)) ≡ inserted client_order (seen_at secs row) (x ∷ xs)
    by Less is rest = grind (arith, is, tie)
    by Equal is rest = grind (arith, is, tie)
    by Greater is rest = grind (arith, is, rest)

-- the row of a client that was set is there, so its lease begins again
pub set_renewed : (secs : ℕ) (row : Client) (rows : List Client) → clients_set (seen_at secs) (client_at (inserted client_order row rows) row.id) (inserted client_order row rows) ≡ inserted client_order (seen_at secs row) rows
set_renewed secs row rows =
    let there : client_at (inserted client_order row rows) row.id ≡ Some row = client_at-inserted row rows row.id ∙ ap (λ b. cond b (Some row) (client_at rows row.id)) (id_itself row.id) in
    ap (λ o. clients_set (seen_at secs) o (inserted client_order row rows)) there ∙ twice secs row rows
