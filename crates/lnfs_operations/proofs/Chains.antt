-- Chains of tests: two that look alike, and the footprint of one from those of its ends.
use Rattle.std.proofs.Common.{◌≡◌, ℕ, Bool, true, false, cond, List, [], Option, Some, None, refl, sym, ap, ◌∙◌, arith}
use Rattle.std.specs.Prelude.{◌==◌}
use Rattle.std.specs.Str.{bytes_eq}
use Rattle.lnfs_world.specs.World.{Kept, World}
use Rattle.lnfs_world.specs.Erased.{erased}
use Rattle.lnfs_world.specs.Outcome.{Site, Place, Outcome, Act, Stands, View, IsFootprint}
use Rattle.lnfs_monitor.specs.Rules.{Asks, allows}
use Rattle.lnfs_arguments.specs.declared.statuses.TheConstants.{NFS4ERR_SEQ_FALSE_RETRY, NFS4ERR_SEQ_MISORDERED}
use Rattle.lnfs_operations.specs.declared.Gate.TheVariants.{Session}
use Rattle.lnfs_operations.specs.Chain.{Answer, refuse, demand, where_there}
use Rattle.lnfs_operations.specs.Judged.{where_asked}
use Rattle.lnfs_operations.specs.InOrder.{in_order}

-- ---- alike

pub demand_alike : {A : Type 0} (test : Bool) (refusal a b : Outcome A) → (test ≡ true → a ≡ b) → demand test refusal a ≡ demand test refusal b
demand_alike true refusal a b same = same refl
demand_alike false refusal a b same = refl

-- the same, where the tests come to the same
pub demand_agrees : {A : Type 0} (shown test : Bool) (refusal a b : Outcome A) → shown ≡ test → (test ≡ true → a ≡ b) → demand shown refusal a ≡ demand test refusal b
demand_agrees shown test refusal a b agree same = ap (λ t. demand t refusal a) agree ∙ demand_alike test refusal a b same

pub where_alike : {X A : Type 0} (o : Option X) (f g : X → Outcome A) (absent : Outcome A) → ((x : X) → o ≡ Some x → f x ≡ g x) → where_there o f absent ≡ where_there o g absent
where_alike None f g absent same = refl
where_alike (Some x) f g absent same = same x refl

-- behind a question that may come up, which then allowed it
pub asked_alike : {R : Type 0} (comes_up : Bool) (site : Site) (p : Place) (asks : Asks) (x y : Outcome (Answer R)) → ((comes_up ≡ true → allows site.dom p.subject asks ≡ true) → x ≡ y) → where_asked comes_up site p asks x ≡ where_asked comes_up site p asks y
asked_alike true site p asks x y same = demand_alike (allows site.dom p.subject asks) _ x y (λ allowed. same (λ up. allowed))
asked_alike false site p asks x y same = same (λ up. absurd (grind arith))

-- an operation that looks at what its subject sees alone
pub seen_view : {A : Type 0} (dom : ℕ → ℕ → Bool) (act : Act A) → ((p : Place) (w : World) → act p (erased dom p.subject w) ≡ act p w) → View dom act
seen_view dom act seen p a b sa sb e = sym (seen p a) ∙ ap (act p) e ∙ seen p b

-- the same, where that has to be known which stands
pub standing_view : {A : Type 0} (dom : ℕ → ℕ → Bool) (act : Act A) → ((p : Place) (w : World) → Stands dom p w → act p (erased dom p.subject w) ≡ act p w) → View dom act
standing_view dom act seen p a b sa sb e = sym (seen p a sa) ∙ ap (act p) e ∙ seen p b sb

-- ---- any outcome

pub demand_any : {A : Type 0} (P : Outcome A → Type 0) (test : Bool) (refusal next : Outcome A) → P refusal → (test ≡ true → P next) → P (demand test refusal next)
demand_any P true refusal next a b = b refl
demand_any P false refusal next a b = a

pub where_any : {X A : Type 0} (P : Outcome A → Type 0) (o : Option X) (found : X → Outcome A) (absent : Outcome A) → ((x : X) → o ≡ Some x → P (found x)) → P absent → P (where_there o found absent)
where_any P None found absent a b = b
where_any P (Some x) found absent a b = a x refl

-- ---- footprints

module _ {A : Type 0} (dom : ℕ → ℕ → Bool) (p : Place) (w : World) (stands : Stands dom p w) where
  -- an answer that leaves all as it was
  pub unchanged_footprint : (answer : A) → IsFootprint dom p w (record { answer = answer; place = p; changes = [] })
  unchanged_footprint answer = record { within = refl; place = stands.place; subject = refl }

  pub demand_footprint : (test : Bool) (refusal next : Outcome A) → IsFootprint dom p w refusal → (test ≡ true → IsFootprint dom p w next) → IsFootprint dom p w (demand test refusal next)
  demand_footprint test refusal next a b = demand_any (IsFootprint dom p w) test refusal next a b

  pub where_footprint : {X : Type 0} (o : Option X) (found : X → Outcome A) (absent : Outcome A) → ((x : X) → o ≡ Some x → IsFootprint dom p w (found x)) → IsFootprint dom p w absent → IsFootprint dom p w (where_there o found absent)
  where_footprint o found absent a b = where_any (IsFootprint dom p w) o found absent a b

-- what holds of each end of the test of a sequence holds of its outcome
pub in_order_any : {R : Type 0} (P : Outcome (Answer R) → Type 0) (p : Place) (last next : ℕ) (kept : Option Kept) (sequence : ℕ) (arguments : List ℕ) (again : List ℕ → Outcome (Answer R)) (new : Outcome (Answer R)) →
    ((status : ℕ) → P (refuse p Session status)) → ((k : Kept) → kept ≡ Some k → P (again k.reply)) → ((sequence == next) ≡ true → P new) → P (in_order p last next kept sequence arguments again new)
in_order_any {R} P p last next kept sequence arguments again new refused told is = at (sequence == last) kept refl
  where
    other : P (demand (sequence == next) (refuse p Session NFS4ERR_SEQ_MISORDERED) new)
    other = demand_any P (sequence == next) (refuse p Session NFS4ERR_SEQ_MISORDERED) new (refused NFS4ERR_SEQ_MISORDERED) is

    at : (b : Bool) (o : Option Kept) → kept ≡ o → P (where_there (cond b o None) (λ k. demand (bytes_eq k.arguments arguments) (refuse p Session NFS4ERR_SEQ_FALSE_RETRY) (again k.reply)) (demand (sequence == next) (refuse p Session NFS4ERR_SEQ_MISORDERED) new))
    at true None there = other
    at true (Some k) there = demand_any P (bytes_eq k.arguments arguments) (refuse p Session NFS4ERR_SEQ_FALSE_RETRY) (again k.reply) (refused NFS4ERR_SEQ_FALSE_RETRY) (λ same. told k there)
    at false o there = other
