-- The turns of the client, and every turn.
use Rattle.std.proofs.Common.{◌≡◌, ℕ, suc, ◌+◌, ◌≤◌, ◌<◌, Bool, true, false, cond, List, [], ◌∷◌, Option, Some, None, refl, sym, ◌∙◌, ap, subst, arith}
use Rattle.std.specs.Prelude.{◌&&◌, ◌==◌, nat_lt}
use Rattle.std.proofs.lemmas.Bool.Decides.{nat_tests}
use Rattle.lnfs_once.specs.Client.{Kind, Assert, Exchange, Create, Compound, Destroy, Leave, End, Packet, Tells, Known, Made, Ran, Granted, Nothing, Client, place_of, number_of, sequence_of, learned, packet_of, next_request, takes}
use Rattle.lnfs_once.specs.Server.{Server}
use Rattle.lnfs_once.specs.Schedule.{is_result, count, State, Reply, nth, first_reply, arrives, requests, resends, returns, happens, run, start, settled, noted, Turn, Next, Resend, Arrive, Return, Others, ActsOnce}
use Rattle.lnfs_once.specs.Laws.{ClientRows, holder_of, slot_of, Knows, Past, IsLawful, IsBare}
use Rattle.lnfs_once.proofs.Invariant.{Base, Phase, idle, fresh, answered, Idle, Fresh, Answered, Holds, owes, owes_first, same_kind, FitsAll}
use Rattle.lnfs_once.proofs.Told.{given_first, newest_or}
use Rattle.lnfs_once.proofs.Arrivals.{arrive_holds}
use Rattle.lnfs_once.proofs.Keeps.{others, owes_result, slot_held}
use Rattle.lnfs_once.proofs.Theorem.{law, starts}

-- one transaction is one request, also with one more that is alone or sent again
both_same : {A : Type 0} (p : Packet A) (ps : List (Packet A)) → ((j : ℕ) (q : Packet A) → nth (p ∷ ps) j ≡ Some q → q.xid ≡ p.xid → q ≡ p) → ((j k : ℕ) (q r : Packet A) → nth ps j ≡ Some q → nth ps k ≡ Some r → q.xid ≡ r.xid → q ≡ r) → (j k : ℕ) (q r : Packet A) → nth (p ∷ ps) j ≡ Some q → nth (p ∷ ps) k ≡ Some r → q.xid ≡ r.xid → q ≡ r
both_same p ps alone before j k q r a b e = newest_or (λ q. q.xid ≡ r.xid → q ≡ r) p ps (λ e. sym (alone k r b (sym e))) (λ j q a e. newest_or (λ r. q.xid ≡ r.xid → q ≡ r) p ps (λ e. alone (suc j) q a e) (λ k r b e. before j k q r a b e) k r b e) j q a e

module _ {S : Server} (N : ClientRows S) where
  module _ (s : State S) (holds : Holds N s) (i : Idle N s) (kind : Kind) (payload : S.A) where
    abbrev p : Packet S.A
    p = packet_of kind payload s.client

    abbrev may : Bool
    may = nat_lt s.client.sent S.top && S.suits p

    abbrev asked : State S
    asked = record s { client = next_request S.top kind payload s.client; sent = p ∷ s.sent }

    asked_base : may ≡ true → Base N asked
    asked_base room = record {
      good = holds.0.good;
      unsaid = λ xid l. holds.0.unsaid xid (omega (arith, l));
      undone = λ xid l. holds.0.undone xid (omega (arith, l));
      packets = newest_or (λ q. (1 ≤ q.xid) × (q.xid ≤ s.client.sent + 1) × Knows N s.server q.kind q.place) p s.sent (omega arith, omega arith, (i.fits kind).0) (λ j q h. let b = holds.0.packets j q h in (b.0, grind (arith, b.1), b.2));
      slots = λ k i x h. let b = holds.0.slots k i x h in grind (arith, b);
      suited = newest_or (λ q. S.suits q ≡ true) p s.sent (grind (arith, room)) holds.0.suited;
      room = grind (arith, nat_tests, room);
      same = both_same p s.sent (newest_or (λ q. q.xid ≡ p.xid → q ≡ p) p s.sent (λ e. refl) (λ j q h e. let b = (holds.0.packets j q h).1 in absurd (grind (arith, b, e)))) holds.0.same;
      once = holds.0.once;
      at_first = holds.0.at_first;
      answered = holds.0.answered;
      taken = holds.0.taken;
      own = holds.0.own;
    }

    id_same : (l : Kind) → (next_request S.top l payload s.client).id ≡ s.client.id
    id_same Assert = refl
    id_same Exchange = refl
    id_same Create = refl
    id_same Compound = refl
    id_same Destroy = refl
    id_same Leave = refl
    id_same End = refl

    session_same : (l : Kind) → (next_request S.top l payload s.client).session ≡ s.client.session
    session_same Assert = refl
    session_same Exchange = refl
    session_same Create = refl
    session_same Compound = refl
    session_same Destroy = refl
    session_same Leave = refl
    session_same End = refl

    number_same : (k l : Kind) → number_of k (next_request S.top l payload s.client) ≡ number_of k s.client
    number_same Assert l = refl
    number_same Exchange l = refl
    number_same Create l = id_same l
    number_same Compound l = session_same l
    number_same Destroy l = session_same l
    number_same Leave l = id_same l
    number_same End l = refl

    context_same : (l : Kind) → (next_request S.top l payload s.client).context ≡ s.client.context
    context_same Assert = refl
    context_same Exchange = refl
    context_same Create = refl
    context_same Compound = refl
    context_same Destroy = refl
    context_same Leave = refl
    context_same End = refl

    place_same : (k l : Kind) → place_of k (next_request S.top l payload s.client) ≡ place_of k s.client
    place_same k l = λ t. record { context = context_same l t; number = number_same k l t }

    create_same : (l : Kind) → same_kind Create l ≡ false → (next_request S.top l payload s.client).create ≡ s.client.create
    create_same Assert e = refl
    create_same Exchange e = refl
    create_same Create e = absurd (grind arith)
    create_same Compound e = refl
    create_same Destroy e = refl
    create_same Leave e = refl
    create_same End e = refl

    compound_same : (l : Kind) → same_kind Compound l ≡ false → (next_request S.top l payload s.client).sequence ≡ s.client.sequence
    compound_same Assert e = refl
    compound_same Exchange e = refl
    compound_same Create e = refl
    compound_same Compound e = absurd (grind arith)
    compound_same Destroy e = refl
    compound_same Leave e = refl
    compound_same End e = refl

    sequence_other : (k l : Kind) → same_kind k l ≡ false → sequence_of k (next_request S.top l payload s.client) ≡ sequence_of k s.client
    sequence_other Assert l e = refl
    sequence_other Exchange l e = refl
    sequence_other Create l e = create_same l e
    sequence_other Compound l e = compound_same l e
    sequence_other Destroy l e = refl
    sequence_other Leave l e = refl
    sequence_other End l e = refl

    last_sent : (k : Kind) (x : N.Slot) → slot_of N s.server k (place_of k s.client) ≡ Some x → N.last x + 1 ≤ s.client.sent
    last_sent k x h = holds.0.slots (holder_of k) (number_of k s.client) x (slot_held N s.server k (place_of k s.client) x h).2

    sequence_next : may ≡ true → (k : Kind) (x : N.Slot) → slot_of N s.server k (place_of k s.client) ≡ Some x → sequence_of k (next_request S.top k payload s.client) ≡ sequence_of k s.client + 1
    sequence_next room Assert x h = absurd (grind arith)
    sequence_next room Exchange x h = absurd (grind arith)
    sequence_next room Destroy x h = absurd (grind arith)
    sequence_next room Leave x h = absurd (grind arith)
    sequence_next room End x h = absurd (grind arith)
    sequence_next room Create x h = let e = (i.fits Create).1 x h in let b = last_sent Create x h in grind (arith, nat_tests, e, b, room)
    sequence_next room Compound x h = let e = (i.fits Compound).1 x h in let b = last_sent Compound x h in grind (arith, nat_tests, e, b, room)

    asked_fresh : may ≡ true → Fresh N asked p
    asked_fresh room = record {
      awaited = refl;
      suits = grind (arith, room);
      begun = omega arith;
      xid = refl;
      unsaid = holds.0.unsaid (s.client.sent + 1) (omega arith);
      undone = holds.0.undone (s.client.sent + 1) (omega arith);
      fits = λ k e. (subst (Knows N s.server k) (sym (place_same k kind)) (i.fits k).0, λ x h. sequence_other k kind e ∙ (i.fits k).1 x (subst (λ n. slot_of N s.server k n ≡ Some x) (place_same k kind) h));
      place = place_same kind kind;
      later = sequence_next room kind;
      within = (i.fits kind).0;
      due = λ x h. let e = (i.fits kind).1 x h in let b = holds.0.slots (holder_of kind) (place_of kind s.client).number x (slot_held N s.server kind (place_of kind s.client) x h).2 in (e, grind (arith, e, b));
      same = newest_or (λ q. q.xid ≡ s.client.sent + 1 → q ≡ p) p s.sent (λ e. refl) (λ j q h e. let b = (holds.0.packets j q h).1 in absurd (grind (arith, b, e)));
      past = newest_or (λ q. (q.xid == s.client.sent + 1) ≡ false → Past N s.server q) p s.sent (λ e. absurd (grind (arith, nat_tests, e))) (λ j q h e. i.past j q h);
    }

    asked_holds : Holds N (cond may asked s)
    asked_holds = at may refl
      where
        at : (t : Bool) → may ≡ t → Holds N (cond t asked s)
        at true e = (asked_base e, fresh p (asked_fresh e))
        at false e = holds

  pub request_holds : (s : State S) → Holds N s → (kind : Kind) (payload : S.A) (awaited : Option (Packet S.A)) → s.client.awaited ≡ awaited → Holds N (requests S s kind payload awaited)
  request_holds s holds kind payload (Some p) e = at (nat_lt s.client.sent S.top && true)
    where
      at : (t : Bool) → Holds N (cond t s s)
      at true = holds
      at false = holds
  request_holds s holds kind payload None e = at holds.1
    where
      at : Phase N s → Holds N (requests S s kind payload None)
      at (idle i) = asked_holds s holds i kind payload
      at (fresh p f) = absurd (grind (arith, e, f.awaited))
      at (answered p o a) = absurd (grind (arith, e, a.awaited))

  module _ (s : State S) (holds : Holds N s) (p : Packet S.A) where
    abbrev more : State S
    more = record s { sent = p ∷ s.sent }

    more_base : S.suits p ≡ true → 1 ≤ p.xid → p.xid ≡ s.client.sent → Knows N s.server p.kind p.place → ((j : ℕ) (q : Packet S.A) → nth s.sent j ≡ Some q → q.xid ≡ p.xid → q ≡ p) → Base N more
    more_base suits begun xid within alone = record {
      good = holds.0.good;
      unsaid = holds.0.unsaid;
      undone = holds.0.undone;
      packets = newest_or (λ q. (1 ≤ q.xid) × (q.xid ≤ s.client.sent) × Knows N s.server q.kind q.place) p s.sent (begun, grind (arith, xid), within) holds.0.packets;
      slots = holds.0.slots;
      suited = newest_or (λ q. S.suits q ≡ true) p s.sent suits holds.0.suited;
      room = holds.0.room;
      same = both_same p s.sent (newest_or (λ q. q.xid ≡ p.xid → q ≡ p) p s.sent (λ e. refl) alone) holds.0.same;
      once = holds.0.once;
      at_first = holds.0.at_first;
      answered = holds.0.answered;
      taken = holds.0.taken;
      own = holds.0.own;
    }

    fresh_more : Fresh N s p → Holds N more
    fresh_more f = (
      more_base f.suits f.begun f.xid f.within f.same,
      fresh p (record {
        awaited = f.awaited;
        begun = f.begun;
        suits = f.suits;
        xid = f.xid;
        unsaid = f.unsaid;
        undone = f.undone;
        fits = f.fits;
        place = f.place;
        later = f.later;
        within = f.within;
        due = f.due;
        same = newest_or (λ q. q.xid ≡ p.xid → q ≡ p) p s.sent (λ e. refl) f.same;
        past = newest_or (λ q. (q.xid == p.xid) ≡ false → Past N s.server q) p s.sent (λ e. absurd (grind (arith, nat_tests, e))) f.past;
      }),
    )

    answered_more : (o : S.R) → Answered N s p o → Holds N more
    answered_more o a = (
      more_base a.suits a.begun a.xid a.within a.same,
      answered p o (record {
        awaited = a.awaited;
        begun = a.begun;
        suits = a.suits;
        xid = a.xid;
        context = a.context;
        opened = a.opened;
        first = a.first;
        fits = a.fits;
        within = a.within;
        same = newest_or (λ q. q.xid ≡ p.xid → q ≡ p) p s.sent (λ e. refl) a.same;
        past = newest_or (λ q. Past N s.server q) p s.sent a.mine a.past;
        keeps = a.keeps;
        mine = a.mine;
        did = a.did;
        lives = a.lives;
        lost = a.lost;
        promise = a.promise;
        packets = a.packets;
        alike = a.alike;
        promises = a.promises;
      }),
    )

  pub resend_holds : (s : State S) → Holds N s → (awaited : Option (Packet S.A)) → s.client.awaited ≡ awaited → Holds N (resends S s awaited)
  resend_holds s holds None e = holds
  resend_holds s holds (Some p) e = at holds.1
    where
      at : Phase N s → Holds N (resends S s (Some p))
      at (idle i) = absurd (grind (arith, e, i.awaited))
      at (fresh q f) = fresh_more s holds p (subst (Fresh N s) (grind (arith, e, f.awaited)) f)
      at (answered q o a) = answered_more s holds p o (subst (λ q. Answered N s q o) (grind (arith, e, a.awaited)) a)

  learned_sent : (k : Kind) (t : Tells) (c : Client S.A) → (learned k t c).sent ≡ c.sent
  learned_sent Assert (Known id next) c = refl
  learned_sent Assert (Made session) c = refl
  learned_sent Assert Ran c = refl
  learned_sent Assert (Granted context) c = refl
  learned_sent Assert Nothing c = refl
  learned_sent Exchange (Known id next) c = refl
  learned_sent Exchange (Made session) c = refl
  learned_sent Exchange Ran c = refl
  learned_sent Exchange (Granted context) c = refl
  learned_sent Exchange Nothing c = refl
  learned_sent Create (Known id next) c = refl
  learned_sent Create (Made session) c = refl
  learned_sent Create Ran c = refl
  learned_sent Create (Granted context) c = refl
  learned_sent Create Nothing c = refl
  learned_sent Compound t c = refl
  learned_sent Destroy t c = refl
  learned_sent Leave t c = refl
  learned_sent End t c = refl

  fits_cleared : (v : S.V) (c : Client S.A) → FitsAll N v c → FitsAll N v (record c { awaited = None })
  fits_cleared v c fits Assert = fits Assert
  fits_cleared v c fits Exchange = fits Exchange
  fits_cleared v c fits Create = fits Create
  fits_cleared v c fits Compound = fits Compound
  fits_cleared v c fits Destroy = fits Destroy
  fits_cleared v c fits Leave = fits Leave
  fits_cleared v c fits End = fits End

  module _ (s : State S) (holds : Holds N s) (j : ℕ) (r : Reply S.A S.R) (there : nth s.given j ≡ Some r) where
    -- where this packet is awaited, and whether the reply is to it
    abbrev back : Option (Packet S.A) → Bool → State S
    back w t = record s { client = cond t (settled S w r.outcome s.client) s.client; taken = cond t (noted S w r.outcome s.taken) s.taken }

    module _ (p : Packet S.A) (o : S.R) (a : Answered N s p o) (mine : r.packet.xid ≡ p.xid) where
      sent : (learned p.kind (S.tells p r.outcome) s.client).sent ≡ s.client.sent
      sent = learned_sent p.kind (S.tells p r.outcome) s.client

      abbrev mine_now : Reply S.A S.R
      mine_now = record { packet = p; outcome = r.outcome }

      mine_taken : owes_first S p (first_reply p.xid s.given) ≡ true → first_reply p.xid s.given ≡ Some r.outcome
      mine_taken owed =
          let owed' : owes p.kind (S.tells p o) ≡ true = subst (λ f. owes_first S p f ≡ true) a.first owed in
          a.first ∙ ap (λ o. Some o) (sym (a.alike j r there mine (grind (arith, owed'))))

      mine_own : is_result p.kind (S.tells p r.outcome) ≡ true → count p.xid s.acts ≡ 1
      mine_own e =
          let same = a.alike j r there mine (grind (arith, owes_result p.kind (S.tells p r.outcome) e)) in
          a.did (subst (λ o. is_result p.kind (S.tells p o) ≡ true) same e)

      back_holds : Holds N (back (Some p) true)
      back_holds = (
        record {
          good = holds.0.good;
          unsaid = λ xid l. holds.0.unsaid xid (subst (λ n. n < xid) sent l);
          undone = λ xid l. holds.0.undone xid (subst (λ n. n < xid) sent l);
          packets = λ j q h. let b = holds.0.packets j q h in (b.0, subst (λ n. q.xid ≤ n) (sym sent) b.1, b.2);
          slots = λ k i x h. subst (λ n. N.last x + 1 ≤ n) (sym sent) (holds.0.slots k i x h);
          suited = holds.0.suited;
          room = subst (λ n. n ≤ S.top) (sym sent) holds.0.room;
          same = holds.0.same;
          once = holds.0.once;
          at_first = holds.0.at_first;
          answered = newest_or (λ t. first_reply t.packet.xid s.given ≡ None → ⊥) mine_now s.taken (λ none. grind (arith, none, a.first)) holds.0.answered;
          taken = newest_or (λ t. owes_first S t.packet (first_reply t.packet.xid s.given) ≡ true → first_reply t.packet.xid s.given ≡ Some t.outcome) mine_now s.taken mine_taken holds.0.taken;
          own = newest_or (λ t. is_result t.packet.kind (S.tells t.packet t.outcome) ≡ true → count t.packet.xid s.acts ≡ 1) mine_now s.taken mine_own holds.0.own;
        },
        idle (record { awaited = refl; fits = fits_cleared s.server (learned p.kind (S.tells p r.outcome) s.client) (a.promises j r there mine); past = a.past }),
      )

    pub return_holds : Holds N (returns S s (Some r))
    return_holds = at holds.1
      where
        other : Holds N (back None false)
        other = holds

        at : Phase N s → Holds N (back s.client.awaited (takes r.packet.xid s.client.awaited))
        at (idle i) = subst (λ w. Holds N (back w (takes r.packet.xid w))) (sym i.awaited) holds
        at (fresh p f) = subst (λ w. Holds N (back w (takes r.packet.xid w))) (sym f.awaited) (go (p.xid == r.packet.xid) refl)
          where
            go : (t : Bool) → (p.xid == r.packet.xid) ≡ t → Holds N (back (Some p) t)
            go true e = absurd (given_first p.xid s.given j r there (grind (arith, nat_tests, e)) f.unsaid)
            go false e = holds
        at (answered p o a) = subst (λ w. Holds N (back w (takes r.packet.xid w))) (sym a.awaited) (go (p.xid == r.packet.xid) refl)
          where
            go : (t : Bool) → (p.xid == r.packet.xid) ≡ t → Holds N (back (Some p) t)
            go true e = back_holds p o a (grind (arith, nat_tests, e))
            go false e = holds

  module _ (laws : IsLawful N) where
    happens_holds : (s : State S) → Holds N s → (turn : Turn S) → Holds N (happens S s turn)
    happens_holds s holds (Next kind payload) = request_holds s holds kind payload s.client.awaited refl
    happens_holds s holds Resend = resend_holds s holds s.client.awaited refl
    happens_holds s holds (Arrive k moment) = at (nth s.sent k) refl
      where
        at : (p : Option (Packet S.A)) → nth s.sent k ≡ p → Holds N (arrives S s moment p)
        at None e = holds
        at (Some p) e = arrive_holds N laws s holds p k e moment
    happens_holds s holds (Return k) = at (nth s.given k) refl
      where
        at : (r : Option (Reply S.A S.R)) → nth s.given k ≡ r → Holds N (returns S s r)
        at None e = holds
        at (Some r) e = return_holds s holds k r e
    happens_holds s holds (Others event) = others N laws s event holds

    run_holds : (turns : List (Turn S)) (s : State S) → Holds N s → Holds N (run S turns s)
    run_holds [] s holds = holds
    run_holds (turn ∷ turns) s holds = run_holds turns (happens S s turn) (happens_holds s holds turn)

    -- Over every schedule, each request acts at most once, and the client takes the first reply.
    pub acts_once : (v : S.V) → IsBare N v → (turns : List (Turn S)) → ActsOnce S (run S turns (start S v))
    acts_once v bare turns = law N _ (run_holds turns (start S v) (starts N laws v bare)).0
