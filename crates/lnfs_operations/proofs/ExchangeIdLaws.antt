-- What EXCHANGE_ID looks at, and what it changes.
use Rattle.std.proofs.Common.{◌≡◌, ℕ, ◌+◌, Bool, true, false, ◌&&◌, not, List, [], ◌∷◌, ◌++◌, Option, Some, None, refl, ap, subst, ◌∙◌, arith}
use Rattle.std.specs.Prelude.{◌==◌, nat_lt}
use Rattle.std.specs.List.{find, list_any}
use Rattle.std.proofs.lemmas.Bool.Decides.{nat_tests}
use Rattle.lnfs_calipso.specs.Label.{IsPreorderWithBottom}
use Rattle.lnfs_world.specs.Rows.{kept}
use Rattle.lnfs_world.specs.World.{Client, Session, World, same_id, client_at, session_at, last_of}
use Rattle.lnfs_world.specs.Erased.{erased}
use Rattle.lnfs_world.specs.Change.{AddClient, DropClient, apply, apply_all, is_session_of}
use Rattle.lnfs_world.specs.Facts.{Facts, are_rivals, has_confirmed, is_confirmed}
use Rattle.lnfs_world.specs.Within.{all_within}
use Rattle.lnfs_world.specs.Outcome.{Place, Outcome, Stands, View, IsFootprint, is_session_for, is_place}
use Rattle.lnfs_world.proofs.Rows.{count-kept, all_none, none_any, all_anyway, all_weaker, all_find}
use Rattle.lnfs_world.proofs.Keys.{id_same}
use Rattle.lnfs_world.proofs.Within.{IsNew}
use Rattle.lnfs_world.proofs.KeptClients.{client_absent, confirmed_stay, confirmed_left, drop_client}
use Rattle.lnfs_world.proofs.Views.{row_at-seen, last_of-seen, found_by_id, found_left}
use Rattle.lnfs_world.proofs.Places.{place_stays}
use Rattle.lnfs_arguments.specs.declared.statuses.TheConstants.{NFS4ERR_INVAL, NFS4ERR_NOSPC}
use Rattle.lnfs_operations.specs.declared.Gate.{Gate}
use Rattle.lnfs_operations.specs.declared.Gate.TheVariants as gates
use Rattle.lnfs_world.specs.declared.numbers.TheConstants.{LAST_NUMBER}
use Rattle.lnfs_operations.specs.declared.numbers.TheConstants.{EXCHGID4_FLAG_CONFIRMED_R, EXCHGID4_FLAG_UPD_CONFIRMED_REC_A, CLIENTS_OF_A_LEVEL}
use Rattle.lnfs_operations.specs.Chain.{Answer, refuse, done}
use Rattle.lnfs_operations.specs.ExchangeId.{Arguments, Told, has_flag, exchange_id, new_client, is_confirmed_as, is_pending, others_of, dropped}
use Rattle.lnfs_operations.proofs.Chains.{seen_view, demand_any, where_any, unchanged_footprint}
use Rattle.lnfs_operations.proofs.Owners.{none_found, none_pending, rival_pending}

-- ---- what it looks at

module _ (dom : ℕ → ℕ → Bool) (lattice : IsPreorderWithBottom dom) (s : ℕ) where
  own_level : (n : ℕ) → n == s ≡ true → dom s n ≡ true
  own_level n is = grind (arith, nat_tests, lattice.reflexive s)

  confirmed_seen : (owner verifier : List ℕ) (clients : List Client) → find (is_confirmed_as s owner verifier) (kept (λ c. dom s c.id.level) (λ c. c) clients) ≡ find (is_confirmed_as s owner verifier) clients
  confirmed_seen owner verifier clients = row_at-seen dom s (λ c. c.id) (is_confirmed_as s owner verifier) (λ c e. own_level c.id.level (grind arith)) clients

  pending_seen : (owner : List ℕ) (clients : List Client) → find (is_pending s owner) (kept (λ c. dom s c.id.level) (λ c. c) clients) ≡ find (is_pending s owner) clients
  pending_seen owner clients = row_at-seen dom s (λ c. c.id) (is_pending s owner) (λ c e. own_level c.id.level (grind arith)) clients

  others_seen : (owner : List ℕ) (clients : List Client) → others_of s owner (kept (λ c. dom s c.id.level) (λ c. c) clients) ≡ others_of s owner clients
  others_seen owner clients = count-kept _ _ _ (λ c e. own_level c.id.level (grind arith)) (λ c. refl) clients

pub exchange_id_seen : (dom : ℕ → ℕ → Bool) → IsPreorderWithBottom dom → (args : Arguments) (p : Place) (w : World) → exchange_id args p (erased dom p.subject w) ≡ exchange_id args p w
exchange_id_seen dom lattice args p w = rw (confirmed_seen dom lattice p.subject args.owner args.verifier w.clients, others_seen dom lattice p.subject args.owner w.clients, last_of-seen dom p.subject p.subject (lattice.reflexive p.subject) w.lasts.clients, pending_seen dom lattice p.subject args.owner w.clients) refl

pub exchange_id_view : (dom : ℕ → ℕ → Bool) → IsPreorderWithBottom dom → (args : Arguments) → View dom (exchange_id args)
exchange_id_view dom lattice args = seen_view dom (exchange_id args) (exchange_id_seen dom lattice args)

-- ---- what it changes

-- a new record under the next number, where no pending record of the owner is left
add_within : (dom : ℕ → ℕ → Bool) (s : ℕ) (args : Arguments) (w : World) → list_any (is_pending s args.owner) w.clients ≡ false → all_within dom s w (AddClient (new_client (record { level = s; number = last_of s w.lasts.clients + 1 }) args) ∷ []) ≡ true
add_within dom s args w none =
    let row : Client = new_client (record { level = s; number = last_of s w.lasts.clients + 1 }) args in
    let alone : list_any (are_rivals row) w.clients ≡ false = all_none _ w.clients (all_weaker _ _ (λ c h. grind (arith, nat_tests, rival_pending s args.owner row c refl refl refl)) w.clients (none_any _ w.clients none)) in
    grind (arith, nat_tests)

made_within : (dom : ℕ → ℕ → Bool) (s : ℕ) (args : Arguments) (w : World) (o : Option Client) → Facts dom w → find (is_pending s args.owner) w.clients ≡ o → all_within dom s w (dropped o ++ AddClient (new_client (record { level = s; number = last_of s w.lasts.clients + 1 }) args) ∷ []) ≡ true
made_within dom s args w None facts found = add_within dom s args w (none_found _ w.clients found)
made_within dom s args w (Some c) facts found =
    let rest = add_within dom s args (apply (DropClient c.id) w) (none_pending s args.owner w.clients c facts.clients.rivals found) in
    let pending = (all_find (λ c. Unit {0}) (is_pending s args.owner) w.clients c (all_anyway _ (λ c. tt) w.clients) found).1 in
    let own : c.id.level == s ≡ true = grind (arith, pending) in
    grind (arith, own, rest)

-- ---- the place

-- A new record leaves clients and sessions.
place_added : (dom : ℕ → ℕ → Bool) (p : Place) (w : World) (row : Client) → Facts dom w → IsNew p.subject w.lasts.clients row.id → is_place dom w p ≡ true → is_place dom (apply (AddClient row) w) p ≡ true
place_added dom p w row facts new is =
    let absent = client_absent p.subject w.clients w.lasts.clients facts.clients row.id new in
    let stay = confirmed_stay row w.clients (grind (arith, absent)) in
    place_stays dom p.subject w (apply (AddClient row) w) (λ number. stay p.subject number) (λ client number there held. held) p.client p.session p.current p.saved is

-- a confirmed client isn't one that isn't confirmed
pub other_client : (clients : List Client) (c : Client) → client_at clients c.id ≡ Some c → c.confirmed ≡ false → (level number : ℕ) → has_confirmed clients level number ≡ true → (level == c.id.level && number == c.id.number) ≡ false
other_client clients c found pending level number there = at (level == c.id.level && number == c.id.number) refl
  where
    at : (b : Bool) → (level == c.id.level && number == c.id.number) ≡ b → (level == c.id.level && number == c.id.number) ≡ false
    at true is =
        let same : record { level = level; number = number } ≡ c.id = id_same (record { level = level; number = number }) c.id is in
        let it : is_confirmed (client_at clients c.id) ≡ true = subst (λ i. is_confirmed (client_at clients i) ≡ true) same there in
        absurd (grind (arith, found, pending, it))
    at false is = is

-- Where a record that isn't confirmed goes, confirmed ones and their sessions stay.
module _ (dom : ℕ → ℕ → Bool) (w : World) (c : Client) (found : client_at w.clients c.id ≡ Some c) (pending : c.confirmed ≡ false) where
  session_stays : (s client number : ℕ) → has_confirmed w.clients s client ≡ true → is_session_for (Some client) (session_at w.sessions (record { level = s; number = number })) ≡ true → is_session_for (Some client) (session_at (apply (DropClient c.id) w).sessions (record { level = s; number = number })) ≡ true
  session_stays s client number there is = at (session_at w.sessions (record { level = s; number = number })) refl is
    where
      at : (o : Option Session) → session_at w.sessions (record { level = s; number = number }) ≡ o → is_session_for (Some client) o ≡ true → is_session_for (Some client) (session_at (apply (DropClient c.id) w).sessions (record { level = s; number = number })) ≡ true
      at None here is = absurd (grind arith)
      at (Some x) here is =
          let known = (all_find (λ x. Unit {0}) (λ x. same_id (record { level = s; number = number }) x.id) w.sessions x (all_anyway _ (λ x. tt) w.sessions) here).1 in
          let others = other_client w.clients c found pending s client there in
          let stays : not (is_session_of c.id x) ≡ true = grind (arith, nat_tests, known, is, others) in
          ap (is_session_for (Some client)) (found_left (λ x. same_id (record { level = s; number = number }) x.id) (λ x. not (is_session_of c.id x)) w.sessions x here stays) ∙ is

  place_dropped : (p : Place) → is_place dom w p ≡ true → is_place dom (apply (DropClient c.id) w) p ≡ true
  place_dropped p is = place_stays dom p.subject w (apply (DropClient c.id) w) (λ number there. confirmed_left c.id w.clients p.subject number (other_client w.clients c found pending p.subject number there) there) (session_stays p.subject) p.client p.session p.current p.saved is

place_made : (dom : ℕ → ℕ → Bool) (args : Arguments) (p : Place) (w : World) (o : Option Client) → Facts dom w → is_place dom w p ≡ true → find (is_pending p.subject args.owner) w.clients ≡ o → is_place dom (apply_all (dropped o ++ AddClient (new_client (record { level = p.subject; number = last_of p.subject w.lasts.clients + 1 }) args) ∷ []) w) p ≡ true
place_made dom args p w None facts is found = place_added dom p w (new_client (record { level = p.subject; number = last_of p.subject w.lasts.clients + 1 }) args) facts (record { own = refl; above = omega arith }) is
place_made dom args p w (Some c) facts is found =
    let pending = (all_find (λ c. Unit {0}) (is_pending p.subject args.owner) w.clients c (all_anyway _ (λ c. tt) w.clients) found).1 in
    let there = found_by_id (λ c. c.id) (is_pending p.subject args.owner) w.clients c facts.clients.rise found in
    let unconfirmed : c.confirmed ≡ false = grind (arith, pending) in
    let after = place_dropped dom w c there unconfirmed p is in
    let row : Client = new_client (record { level = p.subject; number = last_of p.subject w.lasts.clients + 1 }) args in
    let absent = client_absent p.subject (apply (DropClient c.id) w).clients w.lasts.clients (drop_client w.clients w.lasts.clients c.id facts.clients) row.id (record { own = refl; above = omega arith }) in
    let stay = confirmed_stay row (apply (DropClient c.id) w).clients (grind (arith, absent)) in
    place_stays dom p.subject (apply (DropClient c.id) w) (apply (AddClient row) (apply (DropClient c.id) w)) (λ number. stay p.subject number) (λ client number there held. held) p.client p.session p.current p.saved after

-- the end that makes a new record
abbrev pub made_of : Arguments → Place → World → Outcome (Answer Told)
made_of args p w =
    let number = last_of p.subject w.lasts.clients + 1 in
    done p (record { number = number; sequence = 1; confirmed = false }) (dropped (find (is_pending p.subject args.owner) w.clients) ++ AddClient (new_client (record { level = p.subject; number = number }) args) ∷ [])

-- what holds of each end holds of the outcome: of the last, where the level has room for one more record
pub exchange_id_ends : (P : Outcome (Answer Told) → Type 0) (args : Arguments) (p : Place) (w : World) → ((gate : Gate) (status : ℕ) → P (refuse p gate status)) → ((t : Told) → P (done p t [])) →
    (nat_lt (others_of p.subject args.owner w.clients) CLIENTS_OF_A_LEVEL ≡ true → nat_lt (last_of p.subject w.lasts.clients) LAST_NUMBER ≡ true → P (made_of args p w)) → P (exchange_id args p w)
exchange_id_ends P args p w refused told is =
    demand_any P (not (has_flag args.flags EXCHGID4_FLAG_CONFIRMED_R)) _ _ (refused gates.Session NFS4ERR_INVAL) (λ asked.
    demand_any P (not (has_flag args.flags EXCHGID4_FLAG_UPD_CONFIRMED_REC_A)) _ _ (refused gates.Session NFS4ERR_INVAL) (λ new.
    where_any P (find (is_confirmed_as p.subject args.owner args.verifier) w.clients) _ _ (λ c there. told (record { number = c.id.number; sequence = c.sequence; confirmed = c.confirmed }))
    (demand_any P (nat_lt (others_of p.subject args.owner w.clients) CLIENTS_OF_A_LEVEL) _ _ (refused gates.Session NFS4ERR_NOSPC) (λ few.
    demand_any P (nat_lt (last_of p.subject w.lasts.clients) LAST_NUMBER) _ _ (refused gates.Session NFS4ERR_NOSPC) (λ left. is few left)))))

pub exchange_id_any : (P : Outcome (Answer Told) → Type 0) (args : Arguments) (p : Place) (w : World) → ((gate : Gate) (status : ℕ) → P (refuse p gate status)) → ((t : Told) → P (done p t [])) → P (made_of args p w) → P (exchange_id args p w)
exchange_id_any P args p w refused told is = exchange_id_ends P args p w refused told (λ few left. is)

pub exchange_id_footprint : (dom : ℕ → ℕ → Bool) (args : Arguments) (p : Place) (w : World) → Stands dom p w → IsFootprint dom p w (exchange_id args p w)
exchange_id_footprint dom args p w stands =
    exchange_id_any (IsFootprint dom p w) args p w
    (λ gate status. unchanged_footprint dom p w stands (refuse p gate status).answer)
    (λ t. unchanged_footprint dom p w stands (done p t []).answer)
    (record {
      within = made_within dom p.subject args w (find (is_pending p.subject args.owner) w.clients) stands.facts refl;
      place = place_made dom args p w (find (is_pending p.subject args.owner) w.clients) stands.facts stands.place refl;
      subject = refl;
    })
