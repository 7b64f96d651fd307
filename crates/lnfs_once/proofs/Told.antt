-- A reply that is given while nothing acts.
use Rattle.std.proofs.Common.{◌≡◌, ℕ, zero, suc, ◌≤◌, Bool, true, false, cond, ◌||◌, List, [], ◌∷◌, Option, Some, None, refl, sym, ◌∙◌, ap, subst, arith}
use Rattle.std.specs.Prelude.{◌==◌}
use Rattle.std.proofs.lemmas.Bool.Decides.{nat_tests}
use Rattle.lnfs_once.specs.Client.{Create, Packet, Made, place_of, learned, Place}
use Rattle.lnfs_once.specs.Server.{Served, Server}
use Rattle.lnfs_once.specs.Schedule.{State, Reply, nth, first_reply, or_else, is_result}
use Rattle.lnfs_once.specs.Laws.{ClientRows, slot_of, Knows, Past}
use Rattle.lnfs_once.proofs.Invariant.{Base, Phase, idle, fresh, answered, Fresh, Answered, owes, owes_first, same_kind, Fits, FitsAll}
use Rattle.lnfs_once.proofs.Keeps.{same_kinds}

module _ {A R : Type 0} where
  -- what was answered first stays first
  pub first_stays : (xid : ℕ) (r : Reply A R) (rs : List (Reply A R)) (o : R) → first_reply xid rs ≡ Some o → first_reply xid (r ∷ rs) ≡ Some o
  first_stays xid r rs o h = grind (arith, h)

  -- what was given is not unanswered
  pub given_first : (xid : ℕ) (rs : List (Reply A R)) (j : ℕ) (g : Reply A R) → nth rs j ≡ Some g → g.packet.xid ≡ xid → first_reply xid rs ≡ None → ⊥
  given_first xid [] j g h e none = grind arith
  given_first xid (r ∷ rs) zero g h e none = at (first_reply xid rs) (grind (arith, h)) none
    where
      at : (f : Option R) → r ≡ g → or_else f (cond (r.packet.xid == xid) (Some r.outcome) None) ≡ None → ⊥
      at None same none = grind (arith, nat_tests)
      at (Some o) same none = grind arith
  given_first xid (r ∷ rs) (suc j) g h e none = given_first xid rs j g h e (at (first_reply xid rs) refl none)
    where
      at : (f : Option R) → first_reply xid rs ≡ f → or_else f (cond (r.packet.xid == xid) (Some r.outcome) None) ≡ None → first_reply xid rs ≡ None
      at None is none = is
      at (Some o) is none = absurd (grind arith)

-- the newest itself, or an earlier one
pub newest_or : {X : Type 0} (P : X → Type 0) (r : X) (rs : List X) → P r → ((j : ℕ) (g : X) → nth rs j ≡ Some g → P g) → (j : ℕ) (g : X) → nth (r ∷ rs) j ≡ Some g → P g
newest_or P r rs now before zero g h = subst P (some_same h) now
  where
    some_same : Some r ≡ Some g → r ≡ g
    some_same e = cc
newest_or P r rs now before (suc j) g h = before j g h

-- what a reply leaves
abbrev pub after : {S : Server} → State S → Packet S.A → Served S.V S.R → State S
after {S = S} s q served =
    let reply : Reply S.A S.R = record { packet = q; outcome = served.reply } in
    record s { server = served.state; given = reply ∷ s.given; acts = cond served.acts (reply ∷ s.acts) s.acts }

module _ {S : Server} (N : ClientRows S) (s : State S) (q : Packet S.A) (o : S.R) where
  abbrev pub reply : Reply S.A S.R
  reply = record { packet = q; outcome = o }

  abbrev pub told : State S
  told = record s { given = reply ∷ s.given }

  taken_told : (p : Packet S.A) (x : S.R) (f : Option S.R) → (first_reply p.xid s.given ≡ None → ⊥) → first_reply p.xid s.given ≡ f → (owes_first S p f ≡ true → f ≡ Some x) → owes_first S p (first_reply p.xid told.given) ≡ true → first_reply p.xid told.given ≡ Some x
  taken_told p x None there e before owed = absurd (there e)
  taken_told p x (Some first) there e before owed =
      let same = first_stays p.xid reply s.given first e in
      same ∙ before (subst (λ f. owes_first S p f ≡ true) same owed)

  pub base_told : Base N s → q.xid ≤ s.client.sent → Base N told
  base_told base within = record {
    good = base.good;
    unsaid = λ xid l. grind (arith, nat_tests, base.unsaid xid l);
    undone = base.undone;
    packets = base.packets;
    slots = base.slots;
    suited = base.suited;
    room = base.room;
    same = base.same;
    once = base.once;
    at_first = λ j r h. first_stays r.packet.xid reply s.given r.outcome (base.at_first j r h);
    answered = λ j r h none. base.answered j r h (grind (arith, none));
    taken = λ j r h. taken_told r.packet r.outcome (first_reply r.packet.xid s.given) (base.answered j r h) refl (base.taken j r h);
    own = base.own;
  }

  fresh_told : (p : Packet S.A) → Fresh N s p → (q.xid ≡ p.xid → ⊥) → Fresh N told p
  fresh_told p f other = record {
    awaited = f.awaited;
    begun = f.begun;
    suits = f.suits;
    xid = f.xid;
    unsaid = grind (arith, nat_tests, other, f.unsaid);
    undone = f.undone;
    fits = f.fits;
    place = f.place;
    later = f.later;
    within = f.within;
    due = f.due;
    same = f.same;
    past = f.past;
  }

  -- what a further answer to a request must be
  abbrev pub Agrees : Packet S.A → S.R → Type 0
  Agrees p first = ((owes p.kind (S.tells p o) || owes p.kind (S.tells p first)) ≡ true → o ≡ first) × FitsAll N s.server (learned p.kind (S.tells p o) s.client)

  answered_told : (p : Packet S.A) (first : S.R) → Answered N s p first → (q.xid ≡ p.xid → (q ≡ p) × Agrees p first) → Answered N told p first
  answered_told p first a further = record {
    awaited = a.awaited;
    begun = a.begun;
    suits = a.suits;
    xid = a.xid;
    context = a.context;
    first = first_stays p.xid reply s.given first a.first;
    fits = a.fits;
    within = a.within;
    same = a.same;
    past = a.past;
    keeps = a.keeps;
    mine = a.mine;
    opened = a.opened;
    did = a.did;
    lives = a.lives;
    lost = a.lost;
    promise = a.promise;
    packets = newest_or (λ g. g.packet.xid ≡ p.xid → g.packet ≡ p) reply s.given (λ e. (further e).0) a.packets;
    alike = newest_or (λ g. g.packet.xid ≡ p.xid → (owes p.kind (S.tells p g.outcome) || owes p.kind (S.tells p first)) ≡ true → g.outcome ≡ first) reply s.given (λ e. (further e).1.0) a.alike;
    promises = newest_or (λ g. g.packet.xid ≡ p.xid → FitsAll N s.server (learned p.kind (S.tells p g.outcome) s.client)) reply s.given (λ e. (further e).1.1) a.promises;
  }

  pub phase_told : Phase N s → ((p : Packet S.A) → Fresh N s p → q.xid ≡ p.xid → ⊥) → ((p : Packet S.A) (first : S.R) → Answered N s p first → q.xid ≡ p.xid → (q ≡ p) × Agrees p first) → Phase N told
  phase_told (idle i) other further = idle (record { awaited = i.awaited; fits = i.fits; past = i.past })
  phase_told (fresh p f) other further = fresh p (fresh_told p f (other p f))
  phase_told (answered p first a) other further = answered p first (answered_told p first a (further p first a))

  -- what has no slot there is due nothing
  pub fits_gone : Fresh N s q → slot_of N s.server q.kind q.place ≡ None → FitsAll N s.server s.client
  fits_gone f gone k = at (same_kind k q.kind) refl
    where
      at : (t : Bool) → same_kind k q.kind ≡ t → Fits N s.server s.client k
      at false e = f.fits k e
      at true e =
          let there : Knows N s.server q.kind (place_of q.kind s.client) = subst (Knows N s.server q.kind) (sym f.place) f.within in
          subst (Fits N s.server s.client) (sym (same_kinds k q.kind e)) (there, λ x h. absurd (grind (arith, f.place, gone, h)))

  -- the first answer to the awaited request, where nothing acts
  pub first_told : Fresh N s q → Past N s.server q → slot_of N s.server q.kind q.place ≡ None → (owes q.kind (S.tells q o) ≡ true → N.refusal q (N.there s.server q.place.context) ≡ o) → (is_result q.kind (S.tells q o) ≡ true → ⊥) → ((session : ℕ) → q.kind ≡ Create → S.tells q o ≡ Made session → ⊥) → FitsAll N s.server (learned q.kind (S.tells q o) s.client) → Answered N told q o
  first_told f past gone owed result made promise = record {
    awaited = f.awaited;
    begun = f.begun;
    suits = f.suits;
    xid = f.xid;
    context = ap (λ (i : Place). i.context) f.place;
    first = grind (arith, nat_tests, f.unsaid);
    fits = fits_gone f gone;
    within = f.within;
    same = f.same;
    past = λ j r h. past_all r j h (r.xid == q.xid) refl;
    keeps = λ x h. absurd (grind (arith, h, gone));
    mine = past;
    opened = λ session kind is. absurd (made session kind is);
    did = λ e. absurd (result e);
    lives = λ session kind is gone. made session kind is;
    lost = λ gone. owed;
    promise = promise;
    packets = newest_or (λ g. g.packet.xid ≡ q.xid → g.packet ≡ q) reply s.given (λ e. refl) (λ j g h e. absurd (given_first q.xid s.given j g h e f.unsaid));
    alike = newest_or (λ g. g.packet.xid ≡ q.xid → (owes q.kind (S.tells q g.outcome) || owes q.kind (S.tells q o)) ≡ true → g.outcome ≡ o) reply s.given (λ e owed. refl) (λ j g h e. absurd (given_first q.xid s.given j g h e f.unsaid));
    promises = newest_or (λ g. g.packet.xid ≡ q.xid → FitsAll N s.server (learned q.kind (S.tells q g.outcome) s.client)) reply s.given (λ e. promise) (λ j g h e. absurd (given_first q.xid s.given j g h e f.unsaid));
  }
    where
      past_all : (r : Packet S.A) (j : ℕ) → nth s.sent j ≡ Some r → (t : Bool) → (r.xid == q.xid) ≡ t → Past N s.server r
      past_all r j h true e = subst (Past N s.server) (sym (f.same j r h (grind (arith, nat_tests, e)))) past
      past_all r j h false e = f.past j r h e
