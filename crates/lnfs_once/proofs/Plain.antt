-- A request without a slot comes to the server.
use Rattle.std.proofs.Common.{◌≡◌, ◌⊎◌, inl, inr, ℕ, ◌+◌, ◌≤◌, Bool, true, false, cond, ◌||◌, ◌∷◌, Some, None, refl, sym, subst, arith}
use Rattle.std.specs.Prelude.{◌==◌}
use Rattle.std.proofs.lemmas.Bool.Decides.{nat_tests}
use Rattle.lnfs_once.specs.Client.{Packet, learned}
use Rattle.lnfs_once.specs.Server.{Served, Server}
use Rattle.lnfs_once.specs.Schedule.{State, nth}
use Rattle.lnfs_once.specs.Laws.{ClientRows, Holder, has_slot, slot_of, Knows, Gone, IsPlain, IsLawful}
use Rattle.lnfs_once.proofs.Invariant.{Phase, idle, fresh, answered, Fresh, Answered, Holds, owes, FitsAll}
use Rattle.lnfs_once.proofs.Keeps.{comes, no_slot, owes_plain, owes_result, base_kept, phase_kept}
use Rattle.lnfs_once.proofs.Told.{after, told, base_told, phase_told, first_told, fits_gone}
use Rattle.lnfs_once.proofs.Learned.{IsTrue, IsZero, learns}

module _ {S : Server} (N : ClientRows S) where
  -- its reply, once the server has changed
  module _ (s : State S) (q : Packet S.A) (plain : has_slot q.kind ≡ false) (j : ℕ) (there : nth s.sent j ≡ Some q) (o : S.R) (zero : IsZero N s.server) (is : IsTrue N s.server q.kind (S.tells q o)) (ended : Gone N s.server q.kind q.place) where
    gone : slot_of N s.server q.kind q.place ≡ None
    gone = no_slot N s.server q.kind q.place plain

    agrees : (p : Packet S.A) (first : S.R) → Answered N s p first → q.xid ≡ p.xid → (q ≡ p) × (((owes p.kind (S.tells p o) || owes p.kind (S.tells p first)) ≡ true → o ≡ first) × FitsAll N s.server (learned p.kind (S.tells p o) s.client))
    agrees p first a e =
        let same = a.same j q there e in
        let slotless : has_slot p.kind ≡ false = subst (λ (r : Packet S.A). has_slot r.kind ≡ false) same plain in
        let true_of : IsTrue N s.server p.kind (S.tells p o) = subst (λ (r : Packet S.A). IsTrue N s.server r.kind (S.tells r o)) same is in
        (same, (λ owed. absurd (grind (arith, owed, owes_plain p.kind (S.tells p o) slotless, owes_plain p.kind (S.tells p first) slotless)), learns N s.server p.kind (S.tells p o) s.client zero true_of a.fits))

    told_plain : Phase N s → Phase N (told N s q o)
    told_plain (idle i) = phase_told N s q o (idle i) (λ p f e. absurd (grind (arith, i.awaited, f.awaited))) agrees
    told_plain (answered p first a) = phase_told N s q o (answered p first a) (λ p' f e. given_none p' f) agrees
      where
        given_none : (p' : Packet S.A) → Fresh N s p' → ⊥
        given_none p' f = grind (arith, a.first, a.awaited, f.awaited, f.unsaid)
    told_plain (fresh p f) = at (q.xid == p.xid) refl
      where
        at : (t : Bool) → (q.xid == p.xid) ≡ t → Phase N (told N s q o)
        at false e = phase_told N s q o (fresh p f) (λ p' f' same. grind (arith, nat_tests, e, same, f.awaited, f'.awaited)) agrees
        at true e =
            let same : q ≡ p = f.same j q there (grind (arith, nat_tests, e)) in
            let mine : Fresh N s q = subst (Fresh N s) (sym same) f in
            answered q o (first_told N s q o mine (λ x h. absurd (grind (arith, gone, h)), ended) gone
            (λ owed. absurd (grind (arith, owed, owes_plain q.kind (S.tells q o) plain)))
            (λ result. grind (arith, owes_result q.kind (S.tells q o) result, owes_plain q.kind (S.tells q o) plain))
            (λ session kind made. grind (arith, kind, plain))
            (learns N s.server q.kind (S.tells q o) s.client zero is (fits_gone N s q o mine gone)))

  module _ (laws : IsLawful N) (s : State S) (holds : Holds N s) (q : Packet S.A) (j : ℕ) (there : nth s.sent j ≡ Some q) (m : S.M) (plain : has_slot q.kind ≡ false) where
    bounds : (1 ≤ q.xid) × (q.xid ≤ s.client.sent) × Knows N s.server q.kind q.place
    bounds = holds.0.packets j q there

    abbrev t : Served S.V S.R
    t = S.serve s.server m q

    law : IsPlain N s.server q t
    law = laws.plain s.server m q (comes N s holds.0 q j there) plain

    abbrev then : State S
    then = record s { server = t.state }

    slots : (h : Holder) (n : ℕ) (x : N.Slot) → N.row t.state h n ≡ Some x → N.last x + 1 ≤ s.client.sent
    slots h n x is = at (law.kept.new h n x is)
      where
        at : (N.row s.server h n ≡ Some x) ⊎ (N.last x ≡ 0) → N.last x + 1 ≤ s.client.sent
        at (inl before) = holds.0.slots h n x before
        at (inr unused) = grind (arith, unused, bounds.0, bounds.1)

    -- where a request was answered, this one is past
    two : Holds N then
    two = (
      base_kept N s t.state law.kept holds.0 slots,
      phase_kept N s t.state law.kept holds.0 (λ p o a. law.gentle (a.past j q there).1) holds.1,
    )

    is_true : IsTrue N t.state q.kind (S.tells q t.reply)
    is_true = record { known = law.known; made = λ session kind told. absurd (grind (arith, kind, plain)); granted = law.granted }

    pub plain_holds : Holds N (after s q t)
    plain_holds = subst (λ b. Holds N (record s { server = t.state; given = record { packet = q; outcome = t.reply } ∷ s.given; acts = cond b (record { packet = q; outcome = t.reply } ∷ s.acts) s.acts })) (sym law.acts)
        (base_told N then q t.reply two.0 bounds.1, told_plain then q plain j there t.reply (laws.zero t.state law.kept.good) is_true law.gone two.1)
