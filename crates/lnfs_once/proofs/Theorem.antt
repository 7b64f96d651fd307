-- The law, from what holds at each moment.
use Rattle.std.proofs.Common.{◌≡◌, ℕ, Bool, true, false, cond, suc, ◌&&◌, List, [], ◌∷◌, Some, None, refl, sym, subst, arith}
use Rattle.std.specs.Prelude.{◌==◌}
use Rattle.std.specs.List.{list_any}
use Rattle.std.proofs.lemmas.Bool.Decides.{nat_tests}
use Rattle.lnfs_once.specs.Client.{Kind, Assert, Exchange, Create, Compound, Destroy, Leave, End, Packet, Client, first_client}
use Rattle.lnfs_once.specs.Server.{Server}
use Rattle.lnfs_once.specs.Schedule.{State, Reply, nth, first_reply, is_made, is_owed_at, ActsOnce, start}
use Rattle.lnfs_once.specs.Laws.{ClientRows, Holder, Record, Session, IsBare, IsLawful}
use Rattle.lnfs_once.proofs.Invariant.{Base, idle, Fits, Holds, owes, owes_first}

-- what passes a test stands somewhere
any_nth : {X : Type 0} (q : X → Bool) (xs : List X) → list_any q xs ≡ true → (j : ℕ) × (x : X) × (nth xs j ≡ Some x) × (q x ≡ true)
any_nth {X = X} q [] h = absurd (grind arith)
any_nth {X = X} q (x ∷ xs) h = at (q x) refl (any_nth q xs)
  where
    at : (t : Bool) → q x ≡ t → (list_any q xs ≡ true → (j : ℕ) × (y : X) × (nth xs j ≡ Some y) × (q y ≡ true)) → (j : ℕ) × (y : X) × (nth (x ∷ xs) j ≡ Some y) × (q y ≡ true)
    at true e rest = (0, x, refl, e)
    at false e rest = let more = rest (grind (arith, h, e)) in (suc more.0, more.1, more.2, more.3)

module _ {S : Server} (N : ClientRows S) where
  owed_first : (s : State S) → Base N s → (p : Packet S.A) (k : Kind) → p.kind ≡ k → (first_reply p.xid s.given ≡ None → ⊥) → is_owed_at S k p s.acts ≡ true → owes_first S p (first_reply p.xid s.given) ≡ true
  owed_first s base p Assert kind answered owed = absurd (grind arith)
  owed_first s base p Exchange kind answered owed = absurd (grind arith)
  owed_first s base p Create kind answered owed =
      let there = any_nth (λ r. r.packet.xid == p.xid && is_made (S.tells p r.outcome)) s.acts owed in
      let r : Reply S.A S.R = there.1 in
      let same : r.packet.xid ≡ p.xid = grind (arith, nat_tests, there.3) in
      let made : is_made (S.tells p r.outcome) ≡ true = grind (arith, there.3) in
      let first : first_reply p.xid s.given ≡ Some r.outcome = subst (λ n. first_reply n s.given ≡ Some r.outcome) same (base.at_first there.0 r there.2) in
      subst (λ f. owes_first S p f ≡ true) (sym first) (subst (λ k. owes k (S.tells p r.outcome) ≡ true) (sym kind) made)
  owed_first s base p Compound kind answered owed = subst (λ f. owes_first S p f ≡ true) (sym (at (first_reply p.xid s.given) refl).1) (subst (λ k. owes k (S.tells p (at (first_reply p.xid s.given) refl).0) ≡ true) (sym kind) refl)
    where
      at : (f : _) → first_reply p.xid s.given ≡ f → (o : S.R) × (first_reply p.xid s.given ≡ Some o)
      at None e = absurd (answered e)
      at (Some o) e = (o, e)
  owed_first s base p Destroy kind answered owed = absurd (grind arith)
  owed_first s base p Leave kind answered owed = absurd (grind arith)
  owed_first s base p End kind answered owed = absurd (grind arith)

  pub law : (s : State S) → Base N s → ActsOnce S s
  law s base = record {
    same = base.same;
    once = base.once;
    at_first = base.at_first;
    own = base.own;
    taken = λ j r h owed. base.taken j r h (owed_first s base r.packet r.packet.kind refl (base.answered j r h) owed);
  }

  pub starts : IsLawful N → (v : S.V) → IsBare N v → Holds N (start S v)
  starts laws v bare = (
    record {
      good = bare.good;
      unsaid = λ xid l. refl;
      undone = λ xid l. refl;
      packets = λ j q h. grind arith;
      slots = λ h n x is. absurd (grind (arith, is, bare.rows h n));
      suited = λ j q h. grind arith;
      room = omega arith;
      same = λ j k p q a b e. grind arith;
      once = λ xid. omega arith;
      at_first = λ j r h. grind arith;
      answered = λ j r h. grind arith;
      taken = λ j r h. grind arith;
      own = λ j r h. grind arith;
    },
    idle (record { awaited = refl; fits = fit; past = λ j q h. grind arith }),
  )
    where
      nothing : Client S.A
      nothing = first_client

      bare_at : (h : Holder) (x : N.Slot) → cond (N.there v 0) (N.row v h 0) None ≡ Some x → ⊥
      bare_at h x = at (N.there v 0)
        where
          at : (b : Bool) → cond b (N.row v h 0) None ≡ Some x → ⊥
          at true e = grind (arith, e, bare.rows h 0)
          at false e = grind arith

      zero : (h : Holder) → N.Given v h 0
      zero h = (laws.zero v bare.good h).0

      fit : (k : Kind) → Fits N v nothing k
      fit Assert = ((zero Record, bare.met), λ x h. absurd (grind arith))
      fit Exchange = ((zero Record, bare.met), λ x h. absurd (grind arith))
      fit Create = ((zero Record, bare.met), λ x h. absurd (bare_at Record x h))
      fit Compound = ((zero Session, bare.met), λ x h. absurd (bare_at Session x h))
      fit Destroy = ((zero Session, bare.met), λ x h. absurd (grind arith))
      fit Leave = ((zero Record, bare.met), λ x h. absurd (grind arith))
      fit End = ((zero Record, bare.met), λ x h. absurd (grind arith))
