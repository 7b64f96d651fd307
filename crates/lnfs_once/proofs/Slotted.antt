-- CREATE_SESSION or a COMPOUND comes to the server, and does not act.
use Rattle.std.proofs.Common.{◌≡◌, ℕ, ◌≤◌, Bool, true, false, cond, ◌||◌, ◌∷◌, Option, Some, None, refl, sym, ◌∙◌, ap, subst, arith}
use Rattle.lnfs_once.specs.Client.{Packet, Nothing, learned}
use Rattle.lnfs_once.specs.Server.{Served, Server}
use Rattle.lnfs_once.specs.Schedule.{State, Reply, nth, is_result}
use Rattle.lnfs_once.specs.Laws.{ClientRows, has_slot, slot_of, Knows, Past, IsStill, Comes, IsLawful}
use Rattle.lnfs_once.proofs.Invariant.{answered, Fresh, Answered, Holds, owes, FitsAll}
use Rattle.lnfs_once.proofs.Keeps.{comes, slot_gone, owes_nothing, no_result, learn_nothing}
use Rattle.lnfs_once.proofs.Told.{after, told, base_told, phase_told, first_told, fits_gone}

module _ {S : Server} (N : ClientRows S) (laws : IsLawful N) (s : State S) (holds : Holds N s) (q : Packet S.A) (j : ℕ) (there : nth s.sent j ≡ Some q) (m : S.M) (slotted : has_slot q.kind ≡ true) where
  abbrev v : S.V
  v = s.server

  abbrev t : Served S.V S.R
  t = S.serve v m q

  bounds : (1 ≤ q.xid) × (q.xid ≤ s.client.sent) × Knows N v q.kind q.place
  bounds = holds.0.packets j q there

  came : Comes N v q
  came = comes N s holds.0 q j there

  -- what is still leaves its reply alone
  still_holds : IsStill N v t → Holds N (told N s q t.reply) → Holds N (after s q t)
  still_holds still told =
      let reply : Reply S.A S.R = record { packet = q; outcome = t.reply } in
      subst (λ b. Holds N (record s { server = t.state; given = reply ∷ s.given; acts = cond b (reply ∷ s.acts) s.acts })) (sym still.acts)
      (subst (λ w. Holds N (record s { server = w; given = reply ∷ s.given })) (sym still.state) told)

  is_still : (o : Option N.Slot) → slot_of N v q.kind q.place ≡ o → Past N v q → IsStill N v t
  is_still None e past = (laws.lost v m q came slotted e).0
  is_still (Some x) e past = laws.stale v m q x came slotted e (past.0 x e)

  abbrev Agree : Packet S.A → S.R → S.R → Type 0
  Agree p first o = ((owes p.kind (S.tells p o) || owes p.kind (S.tells p first)) ≡ true → o ≡ first) × FitsAll N v (learned p.kind (S.tells p o) s.client)

  -- a request that its slot is past
  pub past_holds : Past N v q → ((p : Packet S.A) → Fresh N s p → q.xid ≡ p.xid → ⊥) → Holds N (after s q t)
  past_holds past other = still_holds (is_still (slot_of N v q.kind q.place) refl past) (base_told N s q t.reply holds.0 bounds.1, phase_told N s q t.reply holds.1 other further)
    where
      same_first : (p : Packet S.A) (first : S.R) → Answered N s p first → (o : S.R) → o ≡ first → Agree p first o
      same_first p first a o is = (λ owed. is, subst (λ o. FitsAll N v (learned p.kind (S.tells p o) s.client)) (sym is) a.promise)

      agrees : (p : Packet S.A) (first : S.R) → Answered N s p first → q ≡ p → (o : Option N.Slot) → slot_of N v q.kind q.place ≡ o → Agree p first t.reply
      agrees p first a is None e =
          let reply : t.reply ≡ N.refusal p (N.there v p.place.context) = (laws.lost v m q came slotted e).1 ∙ ap (λ (r : Packet S.A). N.refusal r (N.there v r.place.context)) is in
          let tells : S.tells p t.reply ≡ Nothing = ap (S.tells p) reply ∙ laws.refused p (N.there v p.place.context) (subst (λ (r : Packet S.A). has_slot r.kind ≡ true) is slotted) in
          let gone : slot_of N v p.kind p.place ≡ None = subst (λ (r : Packet S.A). slot_of N v r.kind r.place ≡ None) is e in (
            λ owed. reply ∙ a.lost gone (first_owed (owes p.kind (S.tells p first)) refl tells owed),
            subst (λ x. FitsAll N v (learned p.kind x s.client)) (sym tells) (subst (FitsAll N v) (sym (learn_nothing p.kind s.client)) a.fits),
          )
        where
          first_owed : (b : Bool) → owes p.kind (S.tells p first) ≡ b → S.tells p t.reply ≡ Nothing → (owes p.kind (S.tells p t.reply) || owes p.kind (S.tells p first)) ≡ true → owes p.kind (S.tells p first) ≡ true
          first_owed true e tells owed = e
          first_owed false e tells owed = owes_nothing p.kind (S.tells p first) (grind (arith, e, ap (owes p.kind) tells, owed))
      agrees p first a is (Some x) e =
          let k = a.keeps x (subst (λ (r : Packet S.A). slot_of N v r.kind r.place ≡ Some x) is e) in
          same_first p first a t.reply (laws.retry v m q x first came slotted e (k.0 ∙ sym (ap (λ (r : Packet S.A). r.sequence) is)) (subst (λ (r : Packet S.A). N.Keeps x r first) (sym is) k.1))

      further : (p : Packet S.A) (first : S.R) → Answered N s p first → q.xid ≡ p.xid → (q ≡ p) × Agree p first t.reply
      further p first a e = let is = a.same j q there e in (is, agrees p first a is (slot_of N v q.kind q.place) refl)

  -- the awaited request, whose slot is gone
  pub gone_holds : Fresh N s q → slot_of N v q.kind q.place ≡ None → Holds N (after s q t)
  gone_holds f gone =
      let law = laws.lost v m q came slotted gone in
      let tells : S.tells q t.reply ≡ Nothing = ap (S.tells q) law.1 ∙ laws.refused q (N.there v q.place.context) slotted in
      still_holds law.0 (
        base_told N s q t.reply holds.0 bounds.1,
        answered q t.reply (first_told N s q t.reply f (λ x h. absurd (grind (arith, gone, h)), slot_gone N v q.kind q.place slotted) gone
            (λ owed. sym law.1)
            (λ result. no_result q.kind (subst (λ x. is_result q.kind x ≡ true) tells result))
            (λ session kind made. grind (arith, tells, made))
            (subst (λ x. FitsAll N v (learned q.kind x s.client)) (sym tells) (subst (FitsAll N v) (sym (learn_nothing q.kind s.client)) (fits_gone N s q t.reply f gone)))),
      )
