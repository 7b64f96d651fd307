-- CREATE_SESSION or a COMPOUND comes to the server, and acts.
use Rattle.std.proofs.Common.{None, Option, ◌≡◌, ℕ, ◌+◌, ◌≤◌, Bool, true, false, cond, ◌||◌, ◌⊎◌, inl, inr, ◌∷◌, Some, refl, sym, ◌∙◌, ap, subst, arith}
use Rattle.std.specs.Prelude.{◌==◌}
use Rattle.std.proofs.lemmas.Bool.Decides.{nat_tests}
use Rattle.lnfs_once.specs.Client.{Kind, Assert, Exchange, Create, Compound, Destroy, Leave, End, Place, Packet, place_of, sequence_of, learned}
use Rattle.lnfs_once.specs.Server.{Served, Server}
use Rattle.lnfs_once.specs.Schedule.{is_result, Reply, count, State, nth, first_reply}
use Rattle.lnfs_once.specs.Laws.{ClientRows, Holder, Session, holder_of, has_slot, slot_at, slot_of, Knows, Gone, Past, IsNew, IsLawful}
use Rattle.lnfs_once.proofs.Invariant.{Base, answered, Fresh, Holds, owes, same_kind, Fits, FitsAll}
use Rattle.lnfs_once.proofs.Told.{after, told, base_told, reply, given_first, newest_or}
use Rattle.lnfs_once.proofs.Keeps.{same_kinds, kind_itself, slot_held, held_slot, at_held, held_at, slot_gone}
use Rattle.lnfs_once.proofs.Learned.{IsTrue, learns}

-- two kinds on slots of one holder are one
slots_alike : (k l : Kind) → has_slot k ≡ true → has_slot l ≡ true → holder_of k ≡ holder_of l → k ≡ l
slots_alike Assert l a b e = absurd (grind (arith, a))
slots_alike Exchange l a b e = absurd (grind (arith, a))
slots_alike Create Assert a b e = absurd (grind (arith, b))
slots_alike Create Exchange a b e = absurd (grind (arith, b))
slots_alike Create Create a b e = refl
slots_alike Create Compound a b e = absurd (grind (arith, e))
slots_alike Create Destroy a b e = absurd (grind (arith, b))
slots_alike Create Leave a b e = absurd (grind (arith, b))
slots_alike Create End a b e = absurd (grind (arith, b))
slots_alike Compound Assert a b e = absurd (grind (arith, b))
slots_alike Compound Exchange a b e = absurd (grind (arith, b))
slots_alike Compound Create a b e = absurd (grind (arith, e))
slots_alike Compound Compound a b e = refl
slots_alike Compound Destroy a b e = absurd (grind (arith, b))
slots_alike Compound Leave a b e = absurd (grind (arith, b))
slots_alike Compound End a b e = absurd (grind (arith, b))
slots_alike Destroy l a b e = absurd (grind (arith, a))
slots_alike Leave l a b e = absurd (grind (arith, a))
slots_alike End l a b e = absurd (grind (arith, a))

module _ {S : Server} (N : ClientRows S) (laws : IsLawful N) (s : State S) (holds : Holds N s) (q : Packet S.A) (j : ℕ) (there : nth s.sent j ≡ Some q) (f : Fresh N s q) (slotted : has_slot q.kind ≡ true) (x : N.Slot) (is : slot_of N s.server q.kind q.place ≡ Some x) (t : Served S.V S.R) (law : IsNew N s.server q t) where
  abbrev v : S.V
  v = s.server

  abbrev w : S.V
  w = t.state

  abbrev moved : State S
  moved = record s { server = w; given = reply N s q t.reply ∷ s.given; acts = reply N s q t.reply ∷ s.acts }

  bounds : (1 ≤ q.xid) × (q.xid ≤ s.client.sent) × Knows N v q.kind q.place
  bounds = holds.0.packets j q there

  still : Base N (told N s q t.reply)
  still = base_told N s q t.reply holds.0 bounds.1

  own_still : (i : ℕ) (r : Reply S.A S.R) → nth s.taken i ≡ Some r → is_result r.packet.kind (S.tells r.packet r.outcome) ≡ true → (b : Bool) → (r.packet.xid == q.xid) ≡ b → count r.packet.xid moved.acts ≡ 1
  own_still i r h e true same = absurd (holds.0.answered i r h (grind (arith, nat_tests, same, f.unsaid)))
  own_still i r h e false apart = grind (arith, nat_tests, apart, holds.0.own i r h e)

  slots : (h : Holder) (i : ℕ) (z : N.Slot) → N.row w h i ≡ Some z → N.last z + 1 ≤ s.client.sent
  slots h i z shown = at (law.new h i z shown)
    where
      at : (N.row v h i ≡ Some z) ⊎ (N.last z ≡ 0) ⊎ (z ≡ law.used) → N.last z + 1 ≤ s.client.sent
      at (inl before) = holds.0.slots h i z before
      at (inr (inl unused)) = grind (arith, unused, bounds.0, bounds.1)
      at (inr (inr mine)) =
          let last : N.last z ≡ q.sequence = ap N.last mine ∙ law.moved in
          let due = (f.due x is).1 in
          grind (arith, last, due)

  knows_new : (k : Kind) (i : Place) → Knows N v k i → Knows N w k i
  knows_new k i knows = (law.grows (holder_of k) i.number knows.0, law.grows_contexts i.context knows.1)

  moved_base : Base N moved
  moved_base = record {
    good = law.good;
    unsaid = still.unsaid;
    undone = λ xid l. grind (arith, nat_tests, holds.0.undone xid l, f.xid);
    packets = λ j r h. let b = holds.0.packets j r h in (b.0, b.1, knows_new r.kind r.place b.2);
    slots = slots;
    suited = holds.0.suited;
    room = holds.0.room;
    same = holds.0.same;
    once = λ xid. grind (arith, nat_tests, holds.0.once xid, f.undone);
    at_first = newest_or (λ r. first_reply r.packet.xid moved.given ≡ Some r.outcome) (reply N s q t.reply) s.acts (grind (arith, nat_tests, f.unsaid)) still.at_first;
    answered = still.answered;
    taken = still.taken;
    own = λ i r h e. own_still i r h e (r.packet.xid == q.xid) refl;
  }

  -- what a place shows afterwards is what it showed, or it is where the request came
  abbrev Shows : Kind → Place → N.Slot → Type 0
  Shows k i z = (slot_of N v k i ≡ Some z) ⊎ ((k ≡ q.kind) × (i.number ≡ q.place.number) × (N.there v i.context ≡ true))

  shows : (k : Kind) (i : Place) (z : N.Slot) → Knows N v k i → slot_of N w k i ≡ Some z → Shows k i z
  shows k i z knows h = at (law.elsewhere (holder_of k) i.number z knows.0 held.2)
    where
      held : (has_slot k ≡ true) × (N.there w i.context ≡ true) × (N.row w (holder_of k) i.number ≡ Some z)
      held = slot_held N w k i z h

      there_before : N.there v i.context ≡ true
      there_before = sym (law.contexts i.context) ∙ held.1

      at : (N.row v (holder_of k) i.number ≡ Some z) ⊎ ((holder_of k ≡ holder_of q.kind) × (i.number ≡ q.place.number)) → Shows k i z
      at (inl before) = inl (held_slot N v k i (Some z) held.0 there_before before)
      at (inr mine) = inr (slots_alike k q.kind held.0 slotted mine.0, mine.1, there_before)

  -- where the request came, its slot was x, and is the used one
  was : (k : Kind) (i : Place) → k ≡ q.kind → i.number ≡ q.place.number → N.there v i.context ≡ true → slot_of N v k i ≡ Some x
  was k i ek en there =
      let row : N.row v (holder_of q.kind) q.place.number ≡ Some x = (slot_held N v q.kind q.place x is).2 in
      held_slot N v k i (Some x) (subst (λ l. has_slot l ≡ true) (sym ek) slotted) there (subst (λ l. N.row v (holder_of l) i.number ≡ Some x) (sym ek) (subst (λ n. N.row v (holder_of q.kind) n ≡ Some x) (sym en) row))

  now : (k : Kind) (i : Place) (z : N.Slot) → k ≡ q.kind → i.number ≡ q.place.number → slot_of N w k i ≡ Some z → N.last z ≡ q.sequence
  now k i z ek en h =
      let shown : N.row w (holder_of q.kind) q.place.number ≡ Some z = subst (λ l. N.row w (holder_of l) q.place.number ≡ Some z) ek (subst (λ n. N.row w (holder_of k) n ≡ Some z) en (slot_held N w k i z h).2) in
      let same : z ≡ law.used = grind (arith, shown, law.at) in
      ap N.last same ∙ law.moved

  fits : FitsAll N w s.client
  fits k = at (same_kind k q.kind) refl
    where
      next : (z : N.Slot) → same_kind k q.kind ≡ false → Shows k (place_of k s.client) z → sequence_of k s.client ≡ N.last z + 1
      next z e (inl before) = (f.fits k e).1 z before
      next z e (inr mine) = absurd (grind (arith, e, kind_itself q.kind, mine.0))

      mine : k ≡ q.kind → (z : N.Slot) → slot_of N w k (place_of k s.client) ≡ Some z → sequence_of k s.client ≡ N.last z + 1
      mine ek z h =
          let place : place_of k s.client ≡ q.place = ap (λ l. place_of l s.client) ek ∙ f.place in
          let last = now k (place_of k s.client) z ek (ap (λ (i : Place). i.number) place) h in
          let later : sequence_of k s.client ≡ q.sequence + 1 = ap (λ l. sequence_of l s.client) ek ∙ f.later x is in
          grind (arith, last, later)

      at : (b : Bool) → same_kind k q.kind ≡ b → Fits N w s.client k
      at false e = (knows_new k (place_of k s.client) (f.fits k e).0, λ z h. next z e (shows k (place_of k s.client) z (f.fits k e).0 h))
      at true e =
          let ek = same_kinds k q.kind e in
          let knows : Knows N v k (place_of k s.client) = subst (λ l. Knows N v l (place_of l s.client)) (sym ek) (subst (Knows N v q.kind) (sym f.place) f.within) in
          (knows_new k (place_of k s.client) knows, mine ek)

  -- no row comes up at a place where none was
  none_up : (h : Holder) (i : Place) (z : N.Slot) → N.Given v h i.number → N.GivenContext v i.context → slot_at N w h i ≡ Some z → (slot_at N v h i ≡ None) → ⊥
  none_up h i z given met shown none = at (law.elsewhere h i.number z given held.1)
    where
      held : (N.there w i.context ≡ true) × (N.row w h i.number ≡ Some z)
      held = at_held N w h i z shown

      there_before : N.there v i.context ≡ true
      there_before = sym (law.contexts i.context) ∙ held.0

      row_x : N.row v (holder_of q.kind) q.place.number ≡ Some x
      row_x = (slot_held N v q.kind q.place x is).2

      at : (N.row v h i.number ≡ Some z) ⊎ ((h ≡ holder_of q.kind) × (i.number ≡ q.place.number)) → ⊥
      at (inl before) = let e = held_at N v h i (Some z) there_before before in grind (arith, e, none)
      at (inr mine) =
          let row : N.row v h i.number ≡ Some x = subst (λ g. N.row v g i.number ≡ Some x) (sym mine.0) (subst (λ n. N.row v (holder_of q.kind) n ≡ Some x) (sym mine.1) row_x) in
          let e = held_at N v h i (Some x) there_before row in
          grind (arith, e, none)

  gone : (k : Kind) (i : Place) → Knows N v k i → Gone N v k i → Gone N w k i
  gone Assert i knows it = tt
  gone Exchange i knows it = tt
  gone Create i knows it = tt
  gone Compound i knows it = tt
  gone Destroy i knows it = at (slot_at N w Session i) refl
    where
      at : (o : Option N.Slot) → slot_at N w Session i ≡ o → slot_at N w Session i ≡ None
      at None e = e
      at (Some z) e = absurd (none_up Session i z knows.0 knows.1 e it)
  gone Leave i knows it = tt
  gone End i knows it = law.contexts i.context ∙ it

  past : (i : ℕ) (r : Packet S.A) → nth s.sent i ≡ Some r → Past N w r
  past i r h = (within, ended (r.xid == q.xid) refl)
    where
      knows : Knows N v r.kind r.place
      knows = (holds.0.packets i r h).2

      ended : (b : Bool) → (r.xid == q.xid) ≡ b → Gone N w r.kind r.place
      ended false e = gone r.kind r.place knows (f.past i r h e).1
      ended true e = subst (λ (p : Packet S.A). Gone N w p.kind p.place) (sym (f.same i r h (grind (arith, nat_tests, e)))) (slot_gone N w q.kind q.place slotted)

      within : (z : N.Slot) → slot_of N w r.kind r.place ≡ Some z → r.sequence ≤ N.last z
      within z shown = at (r.xid == q.xid) refl
        where
          other : (r.xid == q.xid) ≡ false → Shows r.kind r.place z → r.sequence ≤ N.last z
          other e (inl before) = (f.past i r h e).0 z before
          other e (inr mine) =
              let below = (f.past i r h e).0 x (was r.kind r.place mine.0 mine.1 mine.2) in
              let due = (f.due x is).0 in
              let last = now r.kind r.place z mine.0 mine.1 shown in
              grind (arith, below, due, last)

          at : (b : Bool) → (r.xid == q.xid) ≡ b → r.sequence ≤ N.last z
          at false e = other e (shows r.kind r.place z knows shown)
          at true e =
              let same : r ≡ q = f.same i r h (grind (arith, nat_tests, e)) in
              let last = now r.kind r.place z (ap (λ (p : Packet S.A). p.kind) same) (ap (λ (p : Packet S.A). p.place.number) same) shown in
              grind (arith, last, ap (λ (p : Packet S.A). p.sequence) same)

  is_true : IsTrue N w q.kind (S.tells q t.reply)
  is_true = record { known = λ id next kind told. absurd (grind (arith, kind, slotted)); made = law.made; granted = λ new kind told. absurd (grind (arith, kind, slotted)) }

  context : s.client.context ≡ q.place.context
  context = ap (λ (i : Place). i.context) f.place

  promise : FitsAll N w (learned q.kind (S.tells q t.reply) s.client)
  promise = learns N w q.kind (S.tells q t.reply) s.client (laws.zero w law.good) is_true fits

  keeps : (z : N.Slot) → slot_of N w q.kind q.place ≡ Some z → (N.last z ≡ q.sequence) × N.Keeps z q t.reply
  keeps z h =
      let same : z ≡ law.used = grind (arith, (slot_held N w q.kind q.place z h).2, law.at) in
      (ap N.last same ∙ law.moved, subst (λ z. N.Keeps z q t.reply) (sym same) law.keeps)

  there_now : N.there w q.place.context ≡ true
  there_now = law.contexts q.place.context ∙ (slot_held N v q.kind q.place x is).1

  moved_holds : Holds N moved
  moved_holds = (
    moved_base,
    answered q t.reply (record {
      awaited = f.awaited;
      begun = f.begun;
      suits = f.suits;
      xid = f.xid;
      context = context;
      first = grind (arith, nat_tests, f.unsaid);
      fits = fits;
      within = knows_new q.kind q.place f.within;
      same = f.same;
      past = past;
      keeps = keeps;
      mine = past j q there;
      opened = λ session kind made. (law.made session kind made).0;
      did = λ e. grind (arith, nat_tests, f.undone);
      lives = λ session kind made gone. grind (arith, (law.made session kind made).1.1, gone);
      lost = λ gone. absurd (grind (arith, gone, held_slot N w q.kind q.place (Some law.used) slotted there_now law.at));
      promise = promise;
      packets = newest_or (λ g. g.packet.xid ≡ q.xid → g.packet ≡ q) (reply N s q t.reply) s.given (λ e. refl) (λ j g h e. absurd (given_first q.xid s.given j g h e f.unsaid));
      alike = newest_or (λ g. g.packet.xid ≡ q.xid → (owes q.kind (S.tells q g.outcome) || owes q.kind (S.tells q t.reply)) ≡ true → g.outcome ≡ t.reply) (reply N s q t.reply) s.given (λ e owed. refl) (λ j g h e. absurd (given_first q.xid s.given j g h e f.unsaid));
      promises = newest_or (λ g. g.packet.xid ≡ q.xid → FitsAll N w (learned q.kind (S.tells q g.outcome) s.client)) (reply N s q t.reply) s.given (λ e. promise) (λ j g h e. absurd (given_first q.xid s.given j g h e f.unsaid));
    }),
  )

  pub acts_holds : Holds N (after s q t)
  acts_holds = subst (λ b. Holds N (record s { server = w; given = reply N s q t.reply ∷ s.given; acts = cond b (reply N s q t.reply ∷ s.acts) s.acts })) (sym law.acts) moved_holds
