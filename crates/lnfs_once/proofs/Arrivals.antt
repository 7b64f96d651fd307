-- A packet comes to the server.
use Rattle.std.proofs.Common.{◌≡◌, ℕ, Bool, true, false, Option, Some, None, refl, sym, subst, arith}
use Rattle.std.specs.Prelude.{◌==◌}
use Rattle.std.proofs.lemmas.Bool.Decides.{nat_tests}
use Rattle.lnfs_once.specs.Client.{Packet}
use Rattle.lnfs_once.specs.Server.{Server}
use Rattle.lnfs_once.specs.Schedule.{State, nth, arrives}
use Rattle.lnfs_once.specs.Laws.{ClientRows, has_slot, slot_of, IsLawful}
use Rattle.lnfs_once.proofs.Invariant.{Phase, idle, fresh, answered, Fresh, Holds}
use Rattle.lnfs_once.proofs.Told.{after}
use Rattle.lnfs_once.proofs.Keeps.{comes}
use Rattle.lnfs_once.proofs.Plain.{plain_holds}
use Rattle.lnfs_once.proofs.Slotted.{past_holds, gone_holds}
use Rattle.lnfs_once.proofs.Acts.{acts_holds}

module _ {S : Server} (N : ClientRows S) (laws : IsLawful N) (s : State S) (holds : Holds N s) (q : Packet S.A) (j : ℕ) (there : nth s.sent j ≡ Some q) (m : S.M) where
  slotted_holds : has_slot q.kind ≡ true → Holds N (after s q (S.serve s.server m q))
  slotted_holds slotted = at holds.1
    where
      mine : Fresh N s q → (o : Option N.Slot) → slot_of N s.server q.kind q.place ≡ o → Holds N (after s q (S.serve s.server m q))
      mine f None gone = gone_holds N laws s holds q j there m slotted f gone
      mine f (Some x) is = acts_holds N laws s holds q j there f slotted x is (S.serve s.server m q)
          (laws.due s.server m q x (comes N s holds.0 q j there) slotted is (f.due x is).0)

      other : (p : Packet S.A) → Fresh N s p → (t : Bool) → (q.xid == p.xid) ≡ t → Holds N (after s q (S.serve s.server m q))
      other p f false e = past_holds N laws s holds q j there m slotted (f.past j q there e) (λ p' f' same. grind (arith, nat_tests, e, same, f.awaited, f'.awaited))
      other p f true e = mine (subst (Fresh N s) (sym (f.same j q there (grind (arith, nat_tests, e)))) f) (slot_of N s.server q.kind q.place) refl

      at : Phase N s → Holds N (after s q (S.serve s.server m q))
      at (idle i) = past_holds N laws s holds q j there m slotted (i.past j q there) (λ p f e. absurd (grind (arith, i.awaited, f.awaited)))
      at (answered p o a) = past_holds N laws s holds q j there m slotted (a.past j q there) (λ p' f e. absurd (grind (arith, a.first, a.awaited, f.awaited, f.unsaid)))
      at (fresh p f) = other p f (q.xid == p.xid) refl

  pub arrive_holds : Holds N (arrives S s m (Some q))
  arrive_holds = at (has_slot q.kind) refl
    where
      at : (t : Bool) → has_slot q.kind ≡ t → Holds N (after s q (S.serve s.server m q))
      at true e = slotted_holds e
      at false e = plain_holds N laws s holds q j there m e
