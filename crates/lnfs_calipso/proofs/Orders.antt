-- Dominance is an order.
use Rattle.std.proofs.Common.{◌≡◌, ℕ, ◌≤◌, ◌==◌, ◌&&◌, true, leb, refl, sym, ◌∙◌, arith}
use Rattle.std.specs.List.{list_all}
use Rattle.std.proofs.lemmas.Bool.{eqb-true, eq-eqb, leb-true, le-leb, and_parts, and_from}
use Rattle.lnfs_calipso.specs.Label.{Label, IsLabel, has_comp, dominates}
use Rattle.lnfs_calipso.specs.Equality.{agree, same_parts}
use Rattle.lnfs_calipso.proofs.Members.{among, all_among, compartments-agree}

-- the three parts of dominance
record Above (a b : Label) : Type 0 where
  doi : a.doi ≡ b.doi
  sens : b.sens ≤ a.sens
  comps : (c : ℕ) → has_comp b.comps c ≡ true → has_comp a.comps c ≡ true

above : (a b : Label) → dominates a b ≡ true → Above a b
above a b h =
    let both = and_parts (a.doi == b.doi && leb b.sens a.sens) (list_all (has_comp a.comps) b.comps) h in
    let front = and_parts (a.doi == b.doi) (leb b.sens a.sens) both.0 in
    record { doi = eqb-true a.doi b.doi front.0; sens = leb-true b.sens a.sens front.1; comps = among a.comps b.comps both.1 }

dominating : (a b : Label) → Above a b → dominates a b ≡ true
dominating a b h =
    and_from (a.doi == b.doi && leb b.sens a.sens) (list_all (has_comp a.comps) b.comps)
    (and_from (a.doi == b.doi) (leb b.sens a.sens) (eq-eqb a.doi b.doi h.doi) (le-leb b.sens a.sens h.sens))
    (all_among a.comps b.comps h.comps)

pub dominates-reflexive : (a : Label) → dominates a a ≡ true
dominates-reflexive a = dominating a a (record { doi = refl; sens = omega arith; comps = λ c h. h })

pub dominates-transitive : (a b c : Label) → dominates a b ≡ true → dominates b c ≡ true → dominates a c ≡ true
dominates-transitive a b c h k =
    let p = above a b h in
    let q = above b c k in
    dominating a c (record { doi = p.doi ∙ q.doi; sens = omega (arith, p.sens, q.sens); comps = λ x i. p.comps x (q.comps x i) })

pub dominates-antisymmetric : (a b : Label) → IsLabel a → IsLabel b → dominates a b ≡ true → dominates b a ≡ true → a ≡ b
dominates-antisymmetric a b is has h k =
    let p = above a b h in
    let q = above b a k in
    same_parts a b p.doi (omega (arith, p.sens, q.sens))
    (is.comps ∙ compartments-agree (has_comp a.comps) (has_comp b.comps) (λ c l. agree (has_comp a.comps c) (has_comp b.comps c) (q.comps c) (p.comps c)) ∙ sym has.comps)
