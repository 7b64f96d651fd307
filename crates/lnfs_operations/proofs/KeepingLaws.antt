-- What the keeping of answers looks at, and what it changes.
use Rattle.std.proofs.Common.{◌≡◌, ℕ, Bool, true, false, cond, ◌&&◌, ◌||◌, not, List, [], ◌∷◌, Option, Some, None, refl, sym, ap, subst, ◌∙◌, arith}
use Rattle.std.specs.Prelude.{◌==◌}
use Rattle.std.specs.List.{list_any}
use Rattle.std.specs.Str.{bytes_eq}
use Rattle.std.proofs.lemmas.Bool.Decides.{nat_tests}
use Rattle.lnfs_calipso.specs.Label.{IsPreorderWithBottom}
use Rattle.lnfs_world.specs.Rows.{inserted}
use Rattle.lnfs_world.specs.World.{Id, Kept, Client, Slot, Session, World, session_order, same_id, client_at, session_at}
use Rattle.lnfs_world.specs.Erased.{erased}
use Rattle.lnfs_world.specs.Change.{SetClient, SetSession, apply}
use Rattle.lnfs_world.specs.Facts.{are_rivals, is_confirmed}
use Rattle.lnfs_world.specs.Within.{all_within}
use Rattle.lnfs_world.specs.Outcome.{Place, Stands, View, Footprint, IsFootprint, is_session_for, is_place}
use Rattle.lnfs_world.proofs.Rows.{all_none, all_anyway, all_weaker, all_find, any_found}
use Rattle.lnfs_world.proofs.Sorted.{find-inserted}
use Rattle.lnfs_world.proofs.Keys.{id_same, id_itself, id_equal, id_tie}
use Rattle.lnfs_world.proofs.KeptClients.{confirmed_stay, rivals_turn}
use Rattle.lnfs_world.proofs.Alone.{alone}
use Rattle.lnfs_world.proofs.Views.{client_at-seen, session_at-seen}
use Rattle.lnfs_world.proofs.Places.{place_stays}
use Rattle.lnfs_operations.specs.Keeping.{keeps, next_sequence, with_slot, kept_in, kept_under, keep_result, kept_of, keep_created}

-- ---- what it looks at

module _ (dom : ℕ → ℕ → Bool) (lattice : IsPreorderWithBottom dom) where
  kept_under-seen : (p : Place) (slot : ℕ) (row : Slot) (session : Option ℕ) (w : World) → kept_under p slot row session (erased dom p.subject w).sessions ≡ kept_under p slot row session w.sessions
  kept_under-seen p slot row None w = refl
  kept_under-seen p slot row (Some number) w = ap (kept_in p slot row) (session_at-seen dom p.subject (record { level = p.subject; number = number }) (lattice.reflexive p.subject) w.sessions)

  keep_result_seen : (slot sequence : ℕ) (kept : Kept) (p : Place) (w : World) → keep_result slot sequence kept p (erased dom p.subject w) ≡ keep_result slot sequence kept p w
  keep_result_seen slot sequence kept p w = λ i. record { answer = tt; place = p; changes = kept_under-seen p slot (record { sequence = sequence; kept = Some kept }) p.session w i }

  keep_created_seen : (client : ℕ) (kept : Kept) (p : Place) (w : World) → keep_created client kept p (erased dom p.subject w) ≡ keep_created client kept p w
  keep_created_seen client kept p w =
      let same = client_at-seen dom p.subject (record { level = p.subject; number = client }) (lattice.reflexive p.subject) w.clients in
      λ i. record { answer = tt; place = p; changes = kept_of kept (same i) }

  pub keep_result_view : (slot sequence : ℕ) (kept : Kept) → View dom (keep_result slot sequence kept)
  keep_result_view slot sequence kept p a b sa sb e = sym (keep_result_seen slot sequence kept p a) ∙ ap (keep_result slot sequence kept p) e ∙ keep_result_seen slot sequence kept p b

  pub keep_created_view : (client : ℕ) (kept : Kept) → View dom (keep_created client kept)
  keep_created_view client kept p a b sa sb e = sym (keep_created_seen client kept p a) ∙ ap (keep_created client kept p) e ∙ keep_created_seen client kept p b

-- ---- what it changes: a session

pub session_at-inserted : (row : Session) (sessions : List Session) (i : Id) → session_at (inserted session_order row sessions) i ≡ cond (same_id i row.id) (Some row) (session_at sessions i)
session_at-inserted row sessions i = find-inserted session_order (λ x. same_id i x.id) row (λ x e. grind (arith, nat_tests, id_equal row.id x.id e)) (λ x h k. id_tie row.id x.id (grind (arith, nat_tests))) sessions

-- a session with another state of its slots
module _ (dom : ℕ → ℕ → Bool) (p : Place) (w : World) (stands : Stands dom p w) where
  set_session_place : (x : Session) (slots : List Slot) → session_at w.sessions x.id ≡ Some x → is_place dom (apply (SetSession (record x { slots = slots })) w) p ≡ true
  set_session_place x slots found =
      let row : Session = record x { slots = slots } in
      place_stays dom p.subject w (apply (SetSession row) w) (λ number there. there)
      (λ client number there held. at client (record { level = p.subject; number = number }) (same_id (record { level = p.subject; number = number }) x.id) refl held)
      p.client p.session p.current p.saved stands.place
    where
      at : (client : ℕ) (i : Id) (b : Bool) → same_id i x.id ≡ b → is_session_for (Some client) (session_at w.sessions i) ≡ true → is_session_for (Some client) (session_at (inserted session_order (record x { slots = slots }) w.sessions) i) ≡ true
      at client i true is held =
          let here : is_session_for (Some client) (Some x) ≡ true = subst (λ o. is_session_for (Some client) o ≡ true) (ap (session_at w.sessions) (id_same i x.id is) ∙ found) held in
          ap (is_session_for (Some client)) (session_at-inserted (record x { slots = slots }) w.sessions i ∙ ap (λ b. cond b (Some (record x { slots = slots })) (session_at w.sessions i)) is) ∙ here
      at client i false is held = ap (is_session_for (Some client)) (session_at-inserted (record x { slots = slots }) w.sessions i ∙ ap (λ b. cond b (Some (record x { slots = slots })) (session_at w.sessions i)) is) ∙ held

  session_within : (x : Session) (slots : List Slot) (i : Id) → session_at w.sessions i ≡ Some x → i.level ≡ p.subject → (x.id ≡ i) × (all_within dom p.subject w (SetSession (record x { slots = slots }) ∷ []) ≡ true)
  session_within x slots i found own =
      let known = all_find _ (λ x. same_id i x.id) w.sessions x stands.facts.sessions.behind found in
      let same : i ≡ x.id = id_same i x.id known.1 in
      let behind = known.0 in
      let there : list_any (λ y. same_id x.id y.id) w.sessions ≡ true = any_found (λ x. same_id i x.id) (λ y. same_id x.id y.id) w.sessions x found (id_itself x.id) in
      let level : x.id.level ≡ p.subject = ap (λ (j : Id). j.level) (sym same) ∙ own in
      (sym same, grind (arith, nat_tests, behind, there, level))

  unchanged : IsFootprint dom p w (keeps p [])
  unchanged = record { within = refl; place = stands.place; subject = refl }

  kept_in-footprint : (slot : ℕ) (row : Slot) (i : Id) (o : Option Session) → session_at w.sessions i ≡ o → i.level ≡ p.subject → IsFootprint dom p w (keeps p (kept_in p slot row o))
  kept_in-footprint slot row i None found own = unchanged
  kept_in-footprint slot row i (Some x) found own =
      let known = session_within x (with_slot slot row x.slots) i found own in
      record { within = known.1; place = set_session_place x (with_slot slot row x.slots) (ap (session_at w.sessions) known.0 ∙ found); subject = refl }

  kept_under-footprint : (slot : ℕ) (row : Slot) (session : Option ℕ) → IsFootprint dom p w (keeps p (kept_under p slot row session w.sessions))
  kept_under-footprint slot row None = unchanged
  kept_under-footprint slot row (Some number) = kept_in-footprint slot row (record { level = p.subject; number = number }) (session_at w.sessions (record { level = p.subject; number = number })) refl refl

  -- ---- a client

  -- another record of the same identifier, owner and state has the same rivals
  rivals_alike : (c : Client) (row : Client) → row.id ≡ c.id → row.owner ≡ c.owner → row.confirmed ≡ c.confirmed → (d : Client) → are_rivals row d ≡ are_rivals c d
  rivals_alike c row id owner confirmed d = λ i. (id i).level == d.id.level && (bytes_eq (owner i) d.owner && (confirmed i && d.confirmed || not (confirmed i) && not d.confirmed))

  client_alone : (c row : Client) (i : Id) → row.id ≡ c.id → row.owner ≡ c.owner → row.confirmed ≡ c.confirmed → client_at w.clients i ≡ Some c → list_any (λ d. are_rivals row d && not (same_id row.id d.id)) w.clients ≡ false
  client_alone c row i id owner confirmed found =
      all_none _ w.clients (all_weaker _ _ (λ d none. (λ k. rivals_alike c row id owner confirmed d k && not (same_id (id k) d.id)) ∙ none) w.clients
      (alone are_rivals (λ x. x.id) rivals_turn (λ x. same_id i x.id) w.clients c stands.facts.clients.rivals found))

  pub set_client_footprint : (c row : Client) (i : Id) → client_at w.clients i ≡ Some c → i.level ≡ p.subject → row.id ≡ c.id → row.owner ≡ c.owner → row.confirmed ≡ c.confirmed → IsFootprint dom p w (keeps p (SetClient row ∷ []))
  set_client_footprint c row i found own id owner confirmed =
      let known = (all_find (λ d. Unit {0}) (λ d. same_id i d.id) w.clients c (all_anyway _ (λ d. tt) w.clients) found).1 in
      let same : row.id ≡ i = id ∙ sym (id_same i c.id known) in
      let at : client_at w.clients row.id ≡ Some c = ap (client_at w.clients) same ∙ found in
      let level : row.id.level ≡ p.subject = ap (λ (j : Id). j.level) same ∙ own in
      let stays : (row.confirmed || not (is_confirmed (client_at w.clients row.id))) ≡ true = grind (arith, at, confirmed) in
      let others = client_alone c row i id owner confirmed found in
      record {
        within = grind (arith, nat_tests, at, level, stays, others);
        place = place_stays dom p.subject w (apply (SetClient row) w) (λ number there. confirmed_stay row w.clients stays p.subject number there) (λ client number there held. held) p.client p.session p.current p.saved stands.place;
        subject = refl;
      }

  kept_of-footprint : (kept : Kept) (i : Id) (o : Option Client) → client_at w.clients i ≡ o → i.level ≡ p.subject → IsFootprint dom p w (keeps p (kept_of kept o))
  kept_of-footprint kept i None found own = unchanged
  kept_of-footprint kept i (Some c) found own = set_client_footprint c (record c { sequence = next_sequence c.sequence; kept = Some kept }) i found own refl refl refl

pub keep_result_footprint : (dom : ℕ → ℕ → Bool) (slot sequence : ℕ) (kept : Kept) → Footprint dom (keep_result slot sequence kept)
keep_result_footprint dom slot sequence kept p w stands = kept_under-footprint dom p w stands slot (record { sequence = sequence; kept = Some kept }) p.session

pub keep_created_footprint : (dom : ℕ → ℕ → Bool) (client : ℕ) (kept : Kept) → Footprint dom (keep_created client kept)
keep_created_footprint dom client kept p w stands = kept_of-footprint dom p w stands kept (record { level = p.subject; number = client }) (client_at w.clients (record { level = p.subject; number = client })) refl refl
