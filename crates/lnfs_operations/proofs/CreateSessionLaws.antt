-- What CREATE_SESSION looks at, and what it changes.
use Rattle.std.proofs.Common.{◌≡◌, ℕ, ◌+◌, Bool, true, false, cond, ◌&&◌, not, List, [], ◌∷◌, ◌++◌, Option, Some, None, refl, sym, ap, ◌∙◌, arith}
use Rattle.std.specs.Prelude.{◌==◌, nat_lt}
use Rattle.std.specs.List.{find, list_any}
use Rattle.std.specs.Str.{bytes_eq}
use Rattle.std.proofs.lemmas.Bool.Decides.{nat_tests}
use Rattle.lnfs_calipso.specs.Label.{IsPreorderWithBottom}
use Rattle.lnfs_types.specs.declared.event.Moment.{Moment}
use Rattle.lnfs_world.specs.Rows.{kept}
use Rattle.lnfs_world.specs.World.{Client, Channel, Session, World, same_id, client_at, last_of, Kept}
use Rattle.lnfs_world.specs.Erased.{erased}
use Rattle.lnfs_world.specs.Change.{SetClient, DropClient, AddSession, apply}
use Rattle.lnfs_world.specs.Facts.{are_rivals}
use Rattle.lnfs_world.specs.Leases.{renewed}
use Rattle.lnfs_world.specs.Within.{all_within}
use Rattle.lnfs_world.specs.Outcome.{Place, Outcome, Stands, View, IsFootprint, begins_at}
use Rattle.lnfs_world.proofs.Rows.{count-kept, all_none, none_any, all_anyway, all_weaker, all_find}
use Rattle.lnfs_world.proofs.Keys.{id_itself, bytes_same, bytes_itself}
use Rattle.lnfs_world.proofs.KeptClients.{client_at-inserted, client_at-dropped}
use Rattle.lnfs_world.proofs.Views.{row_at-seen, client_at-seen, last_of-seen}
use Rattle.lnfs_arguments.specs.declared.types.CreateSession.{CreateSession}
use Rattle.lnfs_arguments.specs.declared.statuses.TheConstants.{NFS4ERR_STALE_CLIENTID, NFS4ERR_NOSPC, NFS4ERR_TOOSMALL}
use Rattle.lnfs_operations.specs.declared.Gate.TheVariants as gates
use Rattle.lnfs_world.specs.declared.numbers.TheConstants.{LAST_NUMBER}
use Rattle.lnfs_operations.specs.declared.numbers.TheConstants.{SESSIONS_OF_A_LEVEL}
use Rattle.lnfs_operations.specs.Chain.{refuse, done, where_there, Answer}
use Rattle.lnfs_operations.specs.ExchangeId.{dropped}
use Rattle.lnfs_operations.specs.Identifiers.{client_named}
use Rattle.lnfs_operations.specs.InOrder.{sequence_before}
use Rattle.lnfs_operations.specs.CreateSession.{Again, New, is_large_enough, granted_of, new_session, is_replaced, confirmed, sessions_of, created, create_session, Created}
use Rattle.lnfs_operations.proofs.Chains.{demand_alike, where_alike, seen_view, unchanged_footprint, demand_footprint, where_footprint, in_order_any, demand_any}
use Rattle.lnfs_operations.proofs.Owners.{none_found, none_left}
use Rattle.lnfs_operations.proofs.SessionLaws.{client_level, own_level}
use Rattle.lnfs_operations.specs.declared.Gate.{Gate}

-- ---- what it looks at

module _ (dom : ℕ → ℕ → Bool) (lattice : IsPreorderWithBottom dom) where
  sessions_seen : (s : ℕ) (sessions : List Session) → sessions_of s (kept (λ x. dom s x.id.level) (λ x. x) sessions) ≡ sessions_of s sessions
  sessions_seen s sessions = count-kept _ _ _ (λ x is. own_level dom lattice s x.id.level is) (λ x. refl) sessions

  replaced_seen : (s : ℕ) (c : Client) (clients : List Client) → c.id.level ≡ s → find (is_replaced c) (kept (λ d. dom s d.id.level) (λ d. d) clients) ≡ find (is_replaced c) clients
  replaced_seen s c clients own = row_at-seen dom s (λ d. d.id) (is_replaced c) (λ d is. own_level dom lattice s d.id.level (grind (arith, nat_tests))) clients

  created_seen : (args : CreateSession) (arguments : List ℕ) (p : Place) (w : World) (c : Client) → c.id.level ≡ p.subject → created args arguments p (erased dom p.subject w) c ≡ created args arguments p w c
  created_seen args arguments p w c own = rw (sessions_seen p.subject w.sessions, last_of-seen dom p.subject p.subject (lattice.reflexive p.subject) w.lasts.sessions, replaced_seen p.subject c w.clients own) refl

  pub create_session_seen : (args : CreateSession) (arguments : List ℕ) (p : Place) (w : World) → create_session args arguments p (erased dom p.subject w) ≡ create_session args arguments p w
  create_session_seen args arguments p w = demand_alike ((client_named args.client).level == p.subject) _ _ _ (λ own.
      ap (λ o. where_there o (created args arguments p (erased dom p.subject w)) (refuse p gates.Session NFS4ERR_STALE_CLIENTID)) (client_at-seen dom p.subject (client_named args.client) (own_level dom lattice p.subject (client_named args.client).level own) w.clients)
      ∙ where_alike (client_at w.clients (client_named args.client)) _ _ _ (λ c found. created_seen args arguments p w c (grind (arith, nat_tests, own, client_level (client_named args.client) w.clients c found))))

  pub create_session_view : (args : CreateSession) (arguments : List ℕ) → View dom (create_session args arguments)
  create_session_view args arguments = seen_view dom (create_session args arguments) (create_session_seen args arguments)

-- ---- what it changes

-- two records that one takes the place of are rivals
replaced_rivals : (c a b : Client) → is_replaced c a ≡ true → is_replaced c b ≡ true → are_rivals a b ≡ true
replaced_rivals c a b p q =
    let x : a.owner ≡ c.owner = bytes_same a.owner c.owner (grind (arith, nat_tests)) in
    let y : b.owner ≡ c.owner = bytes_same b.owner c.owner (grind (arith, nat_tests)) in
    let same : bytes_eq a.owner b.owner ≡ true = rw (x, y) (bytes_itself c.owner) in
    grind (arith, nat_tests)

-- the rivals of a record that is confirmed now are those that it takes the place of
rival_replaced : (c d : Client) → is_replaced c d ≡ false → (are_rivals (record c { confirmed = true }) d && not (same_id c.id d.id)) ≡ false
rival_replaced c d none = at (bytes_eq c.owner d.owner) refl
  where
    at : (b : Bool) → bytes_eq c.owner d.owner ≡ b → (are_rivals (record c { confirmed = true }) d && not (same_id c.id d.id)) ≡ false
    at true is =
        let same : bytes_eq d.owner c.owner ≡ true = rw (bytes_same c.owner d.owner is) (bytes_itself d.owner) in
        grind (arith, nat_tests, same, none)
    at false is = grind (arith, nat_tests, is)

-- the record is confirmed and has a session more, where there is none that it takes the place of
confirmed_within : (dom : ℕ → ℕ → Bool) (s : ℕ) (moment : Moment) (w : World) (c : Client) (granted : Channel) → c.id.level ≡ s → client_at w.clients c.id ≡ Some c → list_any (is_replaced c) w.clients ≡ false →
    all_within dom s w (SetClient (renewed moment (record c { confirmed = true })) ∷ AddSession (new_session (record { level = s; number = last_of s w.lasts.sessions + 1 }) c granted) ∷ []) ≡ true
confirmed_within dom s moment w c granted own found none =
    let row : Client = renewed moment (record c { confirmed = true }) in
    let alone : list_any (λ d. are_rivals row d && not (same_id row.id d.id)) w.clients ≡ false = all_none _ w.clients (all_weaker _ _ (λ d h. rival_replaced c d h) w.clients (none_any _ w.clients none)) in
    let id : record { level = s; number = c.id.number } ≡ c.id = (λ k. record { level = sym own k; number = c.id.number }) in
    let now : client_at (apply (SetClient row) w).clients c.id ≡ Some row = client_at-inserted row w.clients c.id ∙ ap (λ b. cond b (Some row) (client_at w.clients c.id)) (id_itself c.id) in
    let there : client_at (apply (SetClient row) w).clients (record { level = s; number = c.id.number }) ≡ Some row = ap (client_at (apply (SetClient row) w).clients) id ∙ now in
    grind (arith, nat_tests, own, found, alone, there)

changes_within : (dom : ℕ → ℕ → Bool) (p : Place) (w : World) → Stands dom p w → (c : Client) (granted : Channel) (o : Option Client) → c.id.level ≡ p.subject → client_at w.clients c.id ≡ Some c → find (is_replaced c) w.clients ≡ o →
    all_within dom p.subject w (dropped o ++ SetClient (confirmed p c) ∷ AddSession (new_session (record { level = p.subject; number = last_of p.subject w.lasts.sessions + 1 }) c granted) ∷ []) ≡ true
changes_within dom p w stands c granted None own found replaced = confirmed_within dom p.subject p.moment w c granted own found (none_found _ w.clients replaced)
changes_within dom p w stands c granted (Some d) own found replaced =
    let is = (all_find (λ d. Unit {0}) (is_replaced c) w.clients d (all_anyway _ (λ d. tt) w.clients) replaced).1 in
    let other : same_id c.id d.id ≡ false = grind (arith, is) in
    let level : d.id.level == p.subject ≡ true = grind (arith, nat_tests, is, own) in
    let left : client_at (apply (DropClient d.id) w).clients c.id ≡ Some c = client_at-dropped d.id w.clients c.id ∙ ap (λ b. cond b None (client_at w.clients c.id)) other ∙ found in
    let rest = confirmed_within dom p.subject p.moment (apply (DropClient d.id) w) c granted own left (none_left (is_replaced c) (replaced_rivals c) w.clients d stands.facts.clients.rivals replaced) in
    grind (arith, level, rest)

-- the end that makes a session
abbrev pub made_of : CreateSession → Place → World → Client → Outcome (Answer Created)
made_of args p w c =
    let number = last_of p.subject w.lasts.sessions + 1 in
    done (begins_at p.subject p.moment) (New number (granted_of args.fore))
    (dropped (find (is_replaced c) w.clients) ++ SetClient (confirmed p c) ∷ AddSession (new_session (record { level = p.subject; number = number }) c (granted_of args.fore)) ∷ [])

-- what holds of each end holds of the outcome: of the last, where the level has room for one more session
pub created_ends : (P : Outcome (Answer Created) → Type 0) (args : CreateSession) (arguments : List ℕ) (p : Place) (w : World) (c : Client) → ((gate : Gate) (status : ℕ) → P (refuse p gate status)) → ((k : Kept) → c.kept ≡ Some k → P (done p (Again k.reply) [])) →
    (is_large_enough args.fore ≡ true → nat_lt (sessions_of p.subject w.sessions) SESSIONS_OF_A_LEVEL ≡ true → nat_lt (last_of p.subject w.lasts.sessions) LAST_NUMBER ≡ true → P (made_of args p w c)) → P (created args arguments p w c)
created_ends P args arguments p w c refused told is =
    in_order_any P p (sequence_before c.sequence) c.sequence c.kept args.sequence arguments (λ reply. done p (Again reply) []) _ (λ status. refused gates.Session status) told (λ next.
    demand_any P (is_large_enough args.fore) _ _ (refused gates.Session NFS4ERR_TOOSMALL) (λ large.
    demand_any P (nat_lt (sessions_of p.subject w.sessions) SESSIONS_OF_A_LEVEL) _ _ (refused gates.Session NFS4ERR_NOSPC) (λ few.
    demand_any P (nat_lt (last_of p.subject w.lasts.sessions) LAST_NUMBER) _ _ (refused gates.Session NFS4ERR_NOSPC) (λ left. is large few left))))

pub created_any : (P : Outcome (Answer Created) → Type 0) (args : CreateSession) (arguments : List ℕ) (p : Place) (w : World) (c : Client) → ((gate : Gate) (status : ℕ) → P (refuse p gate status)) → ((k : Kept) → c.kept ≡ Some k → P (done p (Again k.reply) [])) → (is_large_enough args.fore ≡ true → P (made_of args p w c)) → P (created args arguments p w c)
created_any P args arguments p w c refused told is = created_ends P args arguments p w c refused told (λ large few left. is large)

module _ (dom : ℕ → ℕ → Bool) (p : Place) (w : World) (stands : Stands dom p w) where
  created_footprint : (args : CreateSession) (arguments : List ℕ) (c : Client) → c.id.level ≡ p.subject → client_at w.clients c.id ≡ Some c → IsFootprint dom p w (created args arguments p w c)
  created_footprint args arguments c own found =
      created_any (IsFootprint dom p w) args arguments p w c (λ gate status. unchanged_footprint dom p w stands _) (λ k kept. unchanged_footprint dom p w stands _)
      (λ large. record { within = changes_within dom p w stands c (granted_of args.fore) (find (is_replaced c) w.clients) own found refl; place = refl; subject = refl })

  pub create_session_footprint : (args : CreateSession) (arguments : List ℕ) → IsFootprint dom p w (create_session args arguments p w)
  create_session_footprint args arguments = demand_footprint dom p w stands ((client_named args.client).level == p.subject) _ _ (unchanged_footprint dom p w stands _) (λ own.
      where_footprint dom p w stands (client_at w.clients (client_named args.client)) _ _ (λ c found.
      let id : c.id ≡ client_named args.client = client_level (client_named args.client) w.clients c found in
      created_footprint args arguments c (grind (arith, nat_tests, own, id)) (ap (client_at w.clients) id ∙ found))
      (unchanged_footprint dom p w stands _))
