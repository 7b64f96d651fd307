-- What the operations on sessions and clients look at, and what they change.
use Rattle.std.proofs.Common.{◌≡◌, ℕ, Bool, true, false, cond, ◌||◌, not, List, [], ◌∷◌, drop, Option, Some, None, refl, sym, ap, ◌∙◌, arith}
use Rattle.std.specs.Prelude.{◌==◌, nat_le, slice_get}
use Rattle.std.specs.List.{list_any}
use Rattle.std.specs.Str.{bytes_eq}
use Rattle.std.proofs.lemmas.Bool.Decides.{nat_tests}
use Rattle.lnfs_calipso.specs.Label.{IsPreorderWithBottom}
use Rattle.lnfs_world.specs.World.{Id, Client, Session, World, same_id, client_at, session_at}
use Rattle.lnfs_world.specs.Erased.{erased}
use Rattle.lnfs_world.specs.Change.{DropClient, DropSession, is_session_of, is_open_of}
use Rattle.lnfs_world.specs.Facts.{has_confirmed}
use Rattle.lnfs_world.specs.Leases.{renewed}
use Rattle.lnfs_world.specs.Outcome.{Place, Stands, View, IsFootprint, is_place, begins_at}
use Rattle.lnfs_world.proofs.Rows.{all_anyway, all_find, any-kept}
use Rattle.lnfs_world.proofs.Keys.{id_same}
use Rattle.lnfs_world.proofs.Views.{client_at-seen, session_at-seen}
use Rattle.lnfs_arguments.specs.declared.types.Sequence.{Sequence}
use Rattle.lnfs_arguments.specs.declared.statuses.TheConstants.{NFS4ERR_BADSESSION, NFS4ERR_BADSLOT, NFS4ERR_REQ_TOO_BIG, NFS4ERR_TOO_MANY_OPS, NFS4ERR_STALE_CLIENTID, NFS4ERR_CLIENTID_BUSY, NFS4ERR_OP_NOT_IN_SESSION}
use Rattle.lnfs_operations.specs.declared.Gate.TheVariants as gates
use Rattle.lnfs_operations.specs.Chain.{refuse, done, demand, where_there}
use Rattle.lnfs_operations.specs.Identifiers.{client_named, session_named, session_under}
use Rattle.lnfs_operations.specs.InOrder.{in_order}
use Rattle.lnfs_operations.specs.Sequence.{Sent, New, Again, in_session, renewing, renewal, begun_in, under_session, sequence}
use Rattle.lnfs_operations.specs.DestroySession.{destroy_session}
use Rattle.lnfs_operations.specs.DestroyClientId.{is_busy, destroy_clientid}
use Rattle.lnfs_operations.specs.ReclaimComplete.{client_under, reclaimed, reclaim_complete}
use Rattle.lnfs_operations.specs.Keeping.{next_sequence}
use Rattle.lnfs_operations.proofs.Chains.{demand_alike, where_alike, seen_view, unchanged_footprint, demand_footprint, where_footprint, in_order_any}
use Rattle.lnfs_operations.proofs.KeepingLaws.{set_client_footprint}

-- ---- rows that are named

pub client_level : (i : Id) (clients : List Client) (c : Client) → client_at clients i ≡ Some c → c.id ≡ i
client_level i clients c found = sym (id_same i c.id (all_find (λ c. Unit {0}) (λ c. same_id i c.id) clients c (all_anyway _ (λ c. tt) clients) found).1)

pub session_at-id : (i : Id) (sessions : List Session) (x : Session) → session_at sessions i ≡ Some x → x.id ≡ i
session_at-id i sessions x found = sym (id_same i x.id (all_find (λ x. Unit {0}) (λ x. same_id i x.id) sessions x (all_anyway _ (λ x. tt) sessions) found).1)

pub session_under-at : (bytes : List ℕ) (sessions : List Session) (x : Session) → session_under bytes sessions ≡ Some x → session_at sessions (session_named bytes) ≡ Some x
session_under-at bytes sessions x found = at (bytes_eq (drop 12 bytes) (0 ∷ 0 ∷ 0 ∷ 0 ∷ [])) found
  where
    at : (b : Bool) → cond b (session_at sessions (session_named bytes)) None ≡ Some x → session_at sessions (session_named bytes) ≡ Some x
    at true e = e
    at false e = absurd (grind arith)

-- ---- what they look at

module _ (dom : ℕ → ℕ → Bool) (lattice : IsPreorderWithBottom dom) where
  pub own_level : (s n : ℕ) → n == s ≡ true → dom s n ≡ true
  own_level s n is = grind (arith, nat_tests, lattice.reflexive s)

  session_under-seen : (s : ℕ) (bytes : List ℕ) (w : World) → (session_named bytes).level == s ≡ true → session_under bytes (erased dom s w).sessions ≡ session_under bytes w.sessions
  session_under-seen s bytes w own = ap (λ o. cond (bytes_eq (drop 12 bytes) (0 ∷ 0 ∷ 0 ∷ 0 ∷ [])) o None) (session_at-seen dom s (session_named bytes) (own_level s (session_named bytes).level own) w.sessions)

  pub destroy_session_seen : (session : List ℕ) (p : Place) (w : World) → destroy_session session p (erased dom p.subject w) ≡ destroy_session session p w
  destroy_session_seen session p w = demand_alike ((session_named session).level == p.subject) _ _ _ (λ own.
      ap (λ o. where_there o (λ x. done (begins_at p.subject p.moment) tt (DropSession x.id ∷ [])) (refuse p gates.Session NFS4ERR_BADSESSION)) (session_under-seen p.subject session w own))

  pub destroy_session_view : (session : List ℕ) → View dom (destroy_session session)
  destroy_session_view session = seen_view dom (destroy_session session) (destroy_session_seen session)

  -- the client of a session, which is of the subject's level
  renewal_seen : (p : Place) (w : World) (x : Session) → renewal p (erased dom p.subject w) x ≡ renewal p w x
  renewal_seen p w x = ap (renewing p.moment) (client_at-seen dom p.subject (record { level = p.subject; number = x.client }) (lattice.reflexive p.subject) w.clients)

  under_session-seen : (args : Sequence) (sent : Sent) (p : Place) (w : World) (x : Session) → under_session args sent p (erased dom p.subject w) x ≡ under_session args sent p w x
  under_session-seen args sent p w x =
      let renews = renewal_seen p w x in
      λ k. demand (nat_le sent.size x.channel.max_request) (refuse p gates.Session NFS4ERR_REQ_TOO_BIG) (
      demand (nat_le sent.count x.channel.max_operations) (refuse p gates.Session NFS4ERR_TOO_MANY_OPS) (
      where_there (slice_get x.slots args.slot)
      (λ slot. in_order p slot.sequence (next_sequence slot.sequence) slot.kept args.sequence sent.arguments (λ reply. done p (Again reply) []) (done (in_session p x) (New x) (renews k)))
      (refuse p gates.Session NFS4ERR_BADSLOT)))

  pub sequence_seen : (args : Sequence) (sent : Sent) (p : Place) (w : World) → sequence args sent p (erased dom p.subject w) ≡ sequence args sent p w
  sequence_seen args sent p w = demand_alike ((session_named args.session).level == p.subject) _ _ _ (λ own.
      ap (λ o. where_there o (under_session args sent p (erased dom p.subject w)) (refuse p gates.Session NFS4ERR_BADSESSION)) (session_under-seen p.subject args.session w own)
      ∙ (λ k. where_there (session_under args.session w.sessions) (λ x. under_session-seen args sent p w x k) (refuse p gates.Session NFS4ERR_BADSESSION)))

  pub sequence_view : (args : Sequence) (sent : Sent) → View dom (sequence args sent)
  sequence_view args sent = seen_view dom (sequence args sent) (sequence_seen args sent)

  client_under-seen : (s : ℕ) (client : Option ℕ) (w : World) → client_under s client (erased dom s w).clients ≡ client_under s client w.clients
  client_under-seen s None w = refl
  client_under-seen s (Some number) w = client_at-seen dom s (record { level = s; number = number }) (lattice.reflexive s) w.clients

  pub reclaim_complete_seen : (one_fs : Bool) (p : Place) (w : World) → reclaim_complete one_fs p (erased dom p.subject w) ≡ reclaim_complete one_fs p w
  reclaim_complete_seen one_fs p w =
      ap (λ o. where_there o (reclaimed one_fs p) (refuse p gates.Session NFS4ERR_OP_NOT_IN_SESSION))
      (client_under-seen p.subject p.client w)

  pub reclaim_complete_view : (one_fs : Bool) → View dom (reclaim_complete one_fs)
  reclaim_complete_view one_fs = seen_view dom (reclaim_complete one_fs) (reclaim_complete_seen one_fs)

  -- sessions and opens of a client that is seen are seen
  busy_seen : (s : ℕ) (i : Id) (w : World) → i.level ≡ s → is_busy i (erased dom s w) ≡ is_busy i w
  busy_seen s i w own =
      let sessions : list_any (is_session_of i) (erased dom s w).sessions ≡ list_any (is_session_of i) w.sessions = any-kept _ _ _ _ w.sessions (all_anyway _ (λ x. ((λ is. own_level s x.id.level (grind (arith, nat_tests))), (λ above. refl))) w.sessions) in
      let opens : list_any (is_open_of i) (erased dom s w).opens ≡ list_any (is_open_of i) w.opens = any-kept _ _ _ _ w.opens (all_anyway _ (λ o. ((λ is. own_level s o.id.level (grind (arith, nat_tests))), (λ above. refl))) w.opens) in
      λ k. sessions k || opens k

  pub destroy_clientid_seen : (client : ℕ) (p : Place) (w : World) → destroy_clientid client p (erased dom p.subject w) ≡ destroy_clientid client p w
  destroy_clientid_seen client p w = demand_alike ((client_named client).level == p.subject) _ _ _ (λ own.
      ap (λ o. where_there o (λ c. demand (not (is_busy c.id (erased dom p.subject w))) (refuse p gates.Session NFS4ERR_CLIENTID_BUSY) (done (begins_at p.subject p.moment) tt (DropClient c.id ∷ []))) (refuse p gates.Session NFS4ERR_STALE_CLIENTID)) (client_at-seen dom p.subject (client_named client) (own_level p.subject (client_named client).level own) w.clients)
      ∙ where_alike (client_at w.clients (client_named client)) _ _ _ (λ c found.
      ap (λ b. demand (not b) (refuse p gates.Session NFS4ERR_CLIENTID_BUSY) (done (begins_at p.subject p.moment) tt (DropClient c.id ∷ [])))
      (busy_seen p.subject c.id w (grind (arith, nat_tests, own, client_level (client_named client) w.clients c found)))))

  pub destroy_clientid_view : (client : ℕ) → View dom (destroy_clientid client)
  destroy_clientid_view client = seen_view dom (destroy_clientid client) (destroy_clientid_seen client)

-- ---- what they change

module _ (dom : ℕ → ℕ → Bool) (p : Place) (w : World) (stands : Stands dom p w) where
  pub destroy_session_footprint : (session : List ℕ) → IsFootprint dom p w (destroy_session session p w)
  destroy_session_footprint session = demand_footprint dom p w stands ((session_named session).level == p.subject) _ _ (unchanged_footprint dom p w stands _) (λ own.
      where_footprint dom p w stands (session_under session w.sessions) _ _ (λ x found.
      let id : x.id ≡ session_named session = session_at-id (session_named session) w.sessions x (session_under-at session w.sessions x found) in
      record { within = grind (arith, nat_tests, own, id); place = refl; subject = refl })
      (unchanged_footprint dom p w stands _))

  pub destroy_clientid_footprint : (client : ℕ) → IsFootprint dom p w (destroy_clientid client p w)
  destroy_clientid_footprint client = demand_footprint dom p w stands ((client_named client).level == p.subject) _ _ (unchanged_footprint dom p w stands _) (λ own.
      where_footprint dom p w stands (client_at w.clients (client_named client)) _ _ (λ c found.
      demand_footprint dom p w stands (not (is_busy c.id w)) _ _ (unchanged_footprint dom p w stands _) (λ idle.
      let id : c.id ≡ client_named client = client_level (client_named client) w.clients c found in
      record { within = grind (arith, nat_tests, own, id); place = refl; subject = refl }))
      (unchanged_footprint dom p w stands _))

  reclaimed_footprint : (one_fs : Bool) (number : ℕ) (c : Client) → client_at w.clients (record { level = p.subject; number = number }) ≡ Some c → IsFootprint dom p w (reclaimed one_fs p c)
  reclaimed_footprint true number c found = unchanged_footprint dom p w stands _
  reclaimed_footprint false number c found = demand_footprint dom p w stands (not c.reclaimed) _ _ (unchanged_footprint dom p w stands _) (λ first.
      let f = set_client_footprint dom p w stands c (record c { reclaimed = true }) (record { level = p.subject; number = number }) found refl refl refl refl in
      record { within = f.within; place = f.place; subject = f.subject })

  under_footprint : (one_fs : Bool) (client : Option ℕ) → IsFootprint dom p w (where_there (client_under p.subject client w.clients) (reclaimed one_fs p) (refuse p gates.Session NFS4ERR_OP_NOT_IN_SESSION))
  under_footprint one_fs None = unchanged_footprint dom p w stands _
  under_footprint one_fs (Some number) = where_footprint dom p w stands (client_at w.clients (record { level = p.subject; number = number })) _ _ (λ c found. reclaimed_footprint one_fs number c found) (unchanged_footprint dom p w stands _)

  pub reclaim_complete_footprint : (one_fs : Bool) → IsFootprint dom p w (reclaim_complete one_fs p w)
  reclaim_complete_footprint one_fs = under_footprint one_fs p.client

  -- behind a SEQUENCE operations stand in a session that is there, and its client is
  in_session_place : (x : Session) → x.id.level ≡ p.subject → session_at w.sessions x.id ≡ Some x → is_place dom w (in_session p x) ≡ true
  in_session_place x own found =
      let behind = (all_find _ (λ y. same_id x.id y.id) w.sessions x stands.facts.sessions.behind found).0 in
      let place = stands.place in
      let id : record { level = p.subject; number = x.id.number } ≡ x.id = (λ k. record { level = sym own k; number = x.id.number }) in
      let there : session_at w.sessions (record { level = p.subject; number = x.id.number }) ≡ Some x = ap (session_at w.sessions) id ∙ found in
      let served : has_confirmed w.clients p.subject x.client ≡ true = ap (λ level. has_confirmed w.clients level x.client) (sym own) ∙ behind in
      grind (arith, nat_tests, there, served, place)

  -- and only the lease of that client changes
  begun_footprint : (x : Session) → x.id.level ≡ p.subject → session_at w.sessions x.id ≡ Some x → IsFootprint dom p w (begun_in p w x)
  begun_footprint x own found = at (client_at w.clients (record { level = p.subject; number = x.client })) refl
    where
      inside : Stands dom (in_session p x) w
      inside = record { facts = stands.facts; place = in_session_place x own found }

      at : (o : Option Client) → client_at w.clients (record { level = p.subject; number = x.client }) ≡ o → IsFootprint dom p w (done (in_session p x) (New x) (renewing p.moment o))
      at None there = record { within = refl; place = inside.place; subject = refl }
      at (Some c) there =
          let f = set_client_footprint dom (in_session p x) w inside c (renewed p.moment c) (record { level = p.subject; number = x.client }) there refl refl refl refl in
          record { within = f.within; place = f.place; subject = refl }

  sequenced_footprint : (args : Sequence) (sent : Sent) (x : Session) → x.id.level ≡ p.subject → session_at w.sessions x.id ≡ Some x → IsFootprint dom p w (under_session args sent p w x)
  sequenced_footprint args sent x own found =
      demand_footprint dom p w stands (nat_le sent.size x.channel.max_request) _ _ (unchanged_footprint dom p w stands _) (λ short.
      demand_footprint dom p w stands (nat_le sent.count x.channel.max_operations) _ _ (unchanged_footprint dom p w stands _) (λ few.
      where_footprint dom p w stands (slice_get x.slots args.slot) _ _ (λ slot there.
      in_order_any (IsFootprint dom p w) p slot.sequence (next_sequence slot.sequence) slot.kept args.sequence sent.arguments (λ reply. done p (Again reply) []) (begun_in p w x)
      (λ status. unchanged_footprint dom p w stands _) (λ k kept. unchanged_footprint dom p w stands _)
      (λ next. begun_footprint x own found))
      (unchanged_footprint dom p w stands _)))

  pub sequence_footprint : (args : Sequence) (sent : Sent) → IsFootprint dom p w (sequence args sent p w)
  sequence_footprint args sent = demand_footprint dom p w stands ((session_named args.session).level == p.subject) _ _ (unchanged_footprint dom p w stands _) (λ own.
      where_footprint dom p w stands (session_under args.session w.sessions) _ _ (λ x found.
      let at = session_under-at args.session w.sessions x found in
      let id : x.id ≡ session_named args.session = session_at-id (session_named args.session) w.sessions x at in
      sequenced_footprint args sent x (grind (arith, nat_tests, own, id)) (ap (session_at w.sessions) id ∙ at))
      (unchanged_footprint dom p w stands _))
