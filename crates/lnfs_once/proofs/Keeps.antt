-- A server's change that keeps the slots of known places, or drops one whose answer is not owed.
use Rattle.std.proofs.Common.{zero, suc, ap, subst, ◌≡◌, ℕ, ◌+◌, ◌≤◌, Bool, true, false, cond, Option, Some, None, refl, sym, ◌∙◌, arith}
use Rattle.std.proofs.lemmas.Bool.Decides.{nat_tests}
use Rattle.lnfs_once.specs.Client.{Kind, Assert, Exchange, Create, Compound, Destroy, Leave, End, Place, Packet, Tells, Known, Made, Ran, Granted, Nothing, Client, place_of, learned}
use Rattle.lnfs_once.specs.Server.{Server}
use Rattle.lnfs_once.specs.Schedule.{State, nth, is_made, is_result}
use Rattle.lnfs_once.specs.Laws.{ClientRows, Holder, Record, Session, holder_of, has_slot, slot_at, slot_of, Knows, Gone, Past, IsKept, IsGentle, Comes, IsLawful}
use Rattle.lnfs_once.proofs.Invariant.{rank, same_kind, Base, Phase, idle, fresh, answered, Answered, Holds, owes, Fits}

abbrev pub of_rank : ℕ → Kind
of_rank zero = Assert
of_rank (suc zero) = Exchange
of_rank (suc (suc zero)) = Create
of_rank (suc (suc (suc zero))) = Compound
of_rank (suc (suc (suc (suc zero)))) = Destroy
of_rank (suc (suc (suc (suc (suc zero))))) = Leave
of_rank (suc (suc (suc (suc (suc (suc n)))))) = End

of_rank_rank : (k : Kind) → of_rank (rank k) ≡ k
of_rank_rank Assert = refl
of_rank_rank Exchange = refl
of_rank_rank Create = refl
of_rank_rank Compound = refl
of_rank_rank Destroy = refl
of_rank_rank Leave = refl
of_rank_rank End = refl

pub same_kinds : (k l : Kind) → same_kind k l ≡ true → k ≡ l
same_kinds k l e =
    let ranks : rank k ≡ rank l = grind (arith, nat_tests, e) in
    sym (of_rank_rank k) ∙ ap of_rank ranks ∙ of_rank_rank l

pub kind_itself : (k : Kind) → same_kind k k ≡ true
kind_itself k = grind (arith, nat_tests)

pub made_of : (t : Tells) → is_made t ≡ true → (session : ℕ) × (t ≡ Made session)
made_of (Known id next) e = absurd (grind arith)
made_of (Made session) e = (session, refl)
made_of Ran e = absurd (grind arith)
made_of (Granted context) e = absurd (grind arith)
made_of Nothing e = absurd (grind arith)

pub owes_result : (k : Kind) (t : Tells) → is_result k t ≡ true → owes k t ≡ true
owes_result Assert t e = e
owes_result Exchange t e = e
owes_result Create t e = e
owes_result Compound t e = refl
owes_result Destroy t e = e
owes_result Leave t e = e
owes_result End t e = e

-- what tells nothing is owed only where all is
pub owes_nothing : (k : Kind) (t : Tells) → owes k Nothing ≡ true → owes k t ≡ true
owes_nothing Assert t e = e
owes_nothing Exchange t e = e
owes_nothing Create t e = absurd (grind arith)
owes_nothing Compound t e = refl
owes_nothing Destroy t e = e
owes_nothing Leave t e = e
owes_nothing End t e = e

pub no_result : (k : Kind) → is_result k Nothing ≡ true → ⊥
no_result Assert e = grind arith
no_result Exchange e = grind arith
no_result Create e = grind arith
no_result Compound e = grind arith
no_result Destroy e = grind arith
no_result Leave e = grind arith
no_result End e = grind arith

pub learn_nothing : {A : Type 0} (k : Kind) (c : Client A) → learned k Nothing c ≡ c
learn_nothing Assert c = refl
learn_nothing Exchange c = refl
learn_nothing Create c = refl
learn_nothing Compound c = refl
learn_nothing Destroy c = refl
learn_nothing Leave c = refl
learn_nothing End c = refl

-- without a slot nothing is owed
pub owes_plain : (k : Kind) (t : Tells) → has_slot k ≡ false → owes k t ≡ false
owes_plain Assert t e = refl
owes_plain Exchange t e = refl
owes_plain Create t e = absurd (grind arith)
owes_plain Compound t e = absurd (grind arith)
owes_plain Destroy t e = refl
owes_plain Leave t e = refl
owes_plain End t e = refl

pub owes_slot : (k : Kind) (t : Tells) → owes k t ≡ true → has_slot k ≡ true
owes_slot Assert t e = absurd (grind arith)
owes_slot Exchange t e = absurd (grind arith)
owes_slot Create t e = refl
owes_slot Compound t e = refl
owes_slot Destroy t e = absurd (grind arith)
owes_slot Leave t e = absurd (grind arith)
owes_slot End t e = absurd (grind arith)

module _ {S : Server} (N : ClientRows S) where
  pub no_slot : (v : S.V) (k : Kind) (i : Place) → has_slot k ≡ false → slot_of N v k i ≡ None
  no_slot v Assert i e = refl
  no_slot v Exchange i e = refl
  no_slot v Create i e = absurd (grind arith)
  no_slot v Compound i e = absurd (grind arith)
  no_slot v Destroy i e = refl
  no_slot v Leave i e = refl
  no_slot v End i e = refl

  -- a slot stands in the row of its holder, in a context that is there
  pub at_held : (v : S.V) (h : Holder) (i : Place) (x : N.Slot) → slot_at N v h i ≡ Some x → (N.there v i.context ≡ true) × (N.row v h i.number ≡ Some x)
  at_held v h i x is = at (N.there v i.context) refl is
    where
      at : (b : Bool) → N.there v i.context ≡ b → cond b (N.row v h i.number) None ≡ Some x → (N.there v i.context ≡ true) × (N.row v h i.number ≡ Some x)
      at true e is = (e, is)
      at false e is = absurd (grind arith)

  pub held_at : (v : S.V) (h : Holder) (i : Place) (o : Option N.Slot) → N.there v i.context ≡ true → N.row v h i.number ≡ o → slot_at N v h i ≡ o
  held_at v h i o there is = ap (λ b. cond b (N.row v h i.number) None) there ∙ is

  pub slot_held : (v : S.V) (k : Kind) (i : Place) (x : N.Slot) → slot_of N v k i ≡ Some x → (has_slot k ≡ true) × (N.there v i.context ≡ true) × (N.row v (holder_of k) i.number ≡ Some x)
  slot_held v Assert i x h = absurd (grind arith)
  slot_held v Exchange i x h = absurd (grind arith)
  slot_held v Create i x h = let held = at_held v Record i x h in (refl, held.0, held.1)
  slot_held v Compound i x h = let held = at_held v Session i x h in (refl, held.0, held.1)
  slot_held v Destroy i x h = absurd (grind arith)
  slot_held v Leave i x h = absurd (grind arith)
  slot_held v End i x h = absurd (grind arith)

  pub held_slot : (v : S.V) (k : Kind) (i : Place) (o : Option N.Slot) → has_slot k ≡ true → N.there v i.context ≡ true → N.row v (holder_of k) i.number ≡ o → slot_of N v k i ≡ o
  held_slot v Assert i o s there h = absurd (grind arith)
  held_slot v Exchange i o s there h = absurd (grind arith)
  held_slot v Create i o s there h = held_at v Record i o there h
  held_slot v Compound i o s there h = held_at v Session i o there h
  held_slot v Destroy i o s there h = absurd (grind arith)
  held_slot v Leave i o s there h = absurd (grind arith)
  held_slot v End i o s there h = absurd (grind arith)

  -- a request on a slot ends nothing
  pub slot_gone : (v : S.V) (k : Kind) (i : Place) → has_slot k ≡ true → Gone N v k i
  slot_gone v Assert i e = tt
  slot_gone v Exchange i e = tt
  slot_gone v Create i e = tt
  slot_gone v Compound i e = tt
  slot_gone v Destroy i e = absurd (grind arith)
  slot_gone v Leave i e = tt
  slot_gone v End i e = absurd (grind arith)

  -- what has ended stays so, where no row comes up and no context comes back
  pub gone_stays : (v w : S.V) → ((h : Holder) (i : Place) (x : N.Slot) → N.Given v h i.number → N.GivenContext v i.context → slot_at N w h i ≡ Some x → slot_at N v h i ≡ Some x) → ((c : ℕ) → N.GivenContext v c → N.there v c ≡ false → N.there w c ≡ false) → (k : Kind) (i : Place) → Knows N v k i → Gone N v k i → Gone N w k i
  gone_stays v w stays ends Assert i knows gone = tt
  gone_stays v w stays ends Exchange i knows gone = tt
  gone_stays v w stays ends Create i knows gone = tt
  gone_stays v w stays ends Compound i knows gone = tt
  gone_stays v w stays ends Destroy i knows gone = at (slot_at N w Session i) refl
    where
      at : (o : Option N.Slot) → slot_at N w Session i ≡ o → slot_at N w Session i ≡ None
      at None e = e
      at (Some x) e = let before = stays Session i x knows.0 knows.1 e in absurd (grind (arith, before, gone))
  gone_stays v w stays ends Leave i knows gone = tt
  gone_stays v w stays ends End i knows gone = ends i.context knows.1 gone

  module _ (v w : S.V) (kept : IsKept N v w) where
    knows_kept : (k : Kind) (i : Place) → Knows N v k i → Knows N w k i
    knows_kept k i knows = (kept.grows (holder_of k) i.number knows.0, kept.grows_contexts i.context knows.1)

    at_kept : (h : Holder) (i : Place) (x : N.Slot) → N.Given v h i.number → N.GivenContext v i.context → slot_at N w h i ≡ Some x → slot_at N v h i ≡ Some x
    at_kept h i x given met is = at (N.there v i.context) refl
      where
        held : (N.there w i.context ≡ true) × (N.row w h i.number ≡ Some x)
        held = at_held w h i x is

        at : (b : Bool) → N.there v i.context ≡ b → slot_at N v h i ≡ Some x
        at true e = held_at v h i (Some x) e (kept.stays h i.number x given held.1)
        at false e = let ended = kept.ends i.context met e in absurd (grind (arith, ended, held.0))

    pub slot_kept : (k : Kind) (i : Place) (x : N.Slot) → Knows N v k i → slot_of N w k i ≡ Some x → slot_of N v k i ≡ Some x
    slot_kept Assert i x knows h = h
    slot_kept Exchange i x knows h = h
    slot_kept Create i x knows h = at_kept Record i x knows.0 knows.1 h
    slot_kept Compound i x knows h = at_kept Session i x knows.0 knows.1 h
    slot_kept Destroy i x knows h = h
    slot_kept Leave i x knows h = h
    slot_kept End i x knows h = h

    pub fits_kept : (c : Client S.A) (k : Kind) → Fits N v c k → Fits N w c k
    fits_kept c k fits = (knows_kept k (place_of k c) fits.0, λ x h. fits.1 x (slot_kept k (place_of k c) x fits.0 h))

    pub past_kept : (q : Packet S.A) → Knows N v q.kind q.place → Past N v q → Past N w q
    past_kept q within past = (λ x h. past.0 x (slot_kept q.kind q.place x within h), gone_stays v w at_kept kept.ends q.kind q.place within past.1)

  module _ (s : State S) (w : S.V) (kept : IsKept N s.server w) (base : Base N s) where
    abbrev v : S.V
    v = s.server

    abbrev then : State S
    then = record s { server = w }

    pub base_kept : ((h : Holder) (n : ℕ) (x : N.Slot) → N.row w h n ≡ Some x → N.last x + 1 ≤ s.client.sent) → Base N then
    base_kept slots = record {
      good = kept.good;
      unsaid = base.unsaid;
      undone = base.undone;
      packets = λ j q h. let b = base.packets j q h in (b.0, b.1, knows_kept v w kept q.kind q.place b.2);
      slots = slots;
      suited = base.suited;
      room = base.room;
      same = base.same;
      once = base.once;
      at_first = base.at_first;
      answered = base.answered;
      taken = base.taken;
      own = base.own;
    }

    -- an answer that was given is not lost
    module _ (p : Packet S.A) (o : S.R) (a : Answered N s p o) (gentle : IsGentle N v w) where
      -- a slot whose answer is owed does not go
      goes : (k : Kind) → p.kind ≡ k → (x : N.Slot) → slot_of N v k p.place ≡ Some x → slot_of N w k p.place ≡ None → owes k (S.tells p o) ≡ true → ⊥
      goes Assert kind x is gone owed = grind arith
      goes Exchange kind x is gone owed = grind arith
      goes Create kind x is gone owed =
          let made = made_of (S.tells p o) owed in
          let here : slot_of N v p.kind p.place ≡ Some x = subst (λ k. slot_of N v k p.place ≡ Some x) (sym kind) is in
          let held = at_held v Record p.place x is in
          let still = gentle.contexts p.place.context a.within.1 held.0 in
          let dropped : N.row w Record p.place.number ≡ None = sym (held_at w Record p.place (N.row w Record p.place.number) still refl) ∙ gone in
          a.lives made.0 kind made.1 (gentle.records p x o made.0 kind held.1 (a.keeps x here).1 made.1 dropped)
      goes Compound kind x is gone owed =
          let given : N.Given v Session p.place.number = subst (λ k. N.Given v (holder_of k) p.place.number) kind a.within.0 in
          let held = at_held v Session p.place x is in
          let still = gentle.contexts p.place.context a.within.1 held.0 in
          let dropped : N.row w Session p.place.number ≡ None = sym (held_at w Session p.place (N.row w Session p.place.number) still refl) ∙ gone in
          let before = gentle.sessions p.place.number given dropped in
          grind (arith, before, held.1)
      goes Destroy kind x is gone owed = grind arith
      goes Leave kind x is gone owed = grind arith
      goes End kind x is gone owed = grind arith

      there_same : N.there w p.place.context ≡ N.there v p.place.context
      there_same = at (N.there v p.place.context) refl
        where
          at : (b : Bool) → N.there v p.place.context ≡ b → N.there w p.place.context ≡ N.there v p.place.context
          at true e = gentle.contexts p.place.context a.within.1 e ∙ sym e
          at false e = kept.ends p.place.context a.within.1 e ∙ sym e

      lost_kept : slot_of N w p.kind p.place ≡ None → owes p.kind (S.tells p o) ≡ true → N.refusal p (N.there w p.place.context) ≡ o
      lost_kept gone owed = at (slot_of N v p.kind p.place) refl
        where
          at : (f : Option N.Slot) → slot_of N v p.kind p.place ≡ f → N.refusal p (N.there w p.place.context) ≡ o
          at None e = ap (N.refusal p) there_same ∙ a.lost e owed
          at (Some x) e = absurd (goes p.kind refl x e gone owed)

      pub answered_kept : Answered N then p o
      answered_kept = record {
        awaited = a.awaited;
        begun = a.begun;
        suits = a.suits;
        xid = a.xid;
        context = a.context;
        first = a.first;
        fits = λ k. fits_kept v w kept s.client k (a.fits k);
        within = knows_kept v w kept p.kind p.place a.within;
        same = a.same;
        past = λ j q h. past_kept v w kept q (base.packets j q h).2 (a.past j q h);
        keeps = λ x h. a.keeps x (slot_kept v w kept p.kind p.place x a.within h);
        mine = past_kept v w kept p a.within a.mine;
        opened = λ i kind made. kept.grows Session i (a.opened i kind made);
        lives = λ i kind made gone. a.lives i kind made (gentle.sessions i (a.opened i kind made) gone);
        did = a.did;
        lost = lost_kept;
        promise = λ k. fits_kept v w kept (learned p.kind (S.tells p o) s.client) k (a.promise k);
        packets = a.packets;
        alike = a.alike;
        promises = λ j g h e k. fits_kept v w kept (learned p.kind (S.tells p g.outcome) s.client) k (a.promises j g h e k);
      }

    pub phase_kept : ((p : Packet S.A) (o : S.R) → Answered N s p o → IsGentle N v w) → Phase N s → Phase N then
    phase_kept careful (idle i) = idle (record { awaited = i.awaited; fits = λ k. fits_kept v w kept s.client k (i.fits k); past = λ j q h. past_kept v w kept q (base.packets j q h).2 (i.past j q h) })
    phase_kept careful (fresh p f) = fresh p (record {
      awaited = f.awaited;
      begun = f.begun;
      suits = f.suits;
      xid = f.xid;
      unsaid = f.unsaid;
      undone = f.undone;
      fits = λ k d. fits_kept v w kept s.client k (f.fits k d);
      place = f.place;
      later = λ x h. f.later x (slot_kept v w kept p.kind p.place x f.within h);
      within = knows_kept v w kept p.kind p.place f.within;
      due = λ x h. f.due x (slot_kept v w kept p.kind p.place x f.within h);
      same = f.same;
      past = λ j q h d. past_kept v w kept q (base.packets j q h).2 (f.past j q h d);
    })
    phase_kept careful (answered p o a) = answered p o (answered_kept p o a (careful p o a))

  -- a request that was sent may come
  pub comes : (s : State S) → Base N s → (q : Packet S.A) (j : ℕ) → nth s.sent j ≡ Some q → Comes N s.server q
  comes s base q j there =
      let b = base.packets j q there in
      record {
        good = base.good;
        early = (grind (arith, b.0, b.1, base.room), λ h n x is. grind (arith, base.slots h n x is, base.room));
        suits = base.suited j q there;
        knows = b.2;
      }

  -- events of others
  pub others : (laws : IsLawful N) (s : State S) (e : S.E) → Holds N s → Holds N (record s { server = S.others s.server e })
  others laws s e holds =
      let law = laws.others s.server e holds.0.good in (
        base_kept s (S.others s.server e) law.0.kept holds.0 (λ h n x is. holds.0.slots h n x (law.1 h n x is)),
        phase_kept s (S.others s.server e) law.0.kept holds.0 (λ p o a. law.0) holds.1,
      )
