-- Lemmas, no definitions: equality of labels is equality. They stand in specs/, since the laws of `==` on labels rest on
-- them.
use Rattle.std.proofs.Common.{◌≡◌, ◌==◌, ◌&&◌, Bool, true, false, refl, sym, ap, subst}
use Rattle.std.specs.Str.{bytes_eq}
use Rattle.std.specs.Cmp.{IsEquivalence}
use Rattle.std.proofs.lemmas.Bool.{eqb-true, eq-eqb, and_parts, and_from}
use Rattle.std.proofs.lemmas.Slice.Eq.{bytes_eq-Decides}
use Rattle.lnfs_calipso.specs.Label.{Label}
use Rattle.lnfs_calipso.specs.Same.{same_label}

pub agree : (x y : Bool) → (x ≡ true → y ≡ true) → (y ≡ true → x ≡ true) → x ≡ y
agree true true f g = refl
agree true false f g = sym (f refl)
agree false true f g = g refl
agree false false f g = refl

pub same_label-refl : (a : Label) → same_label a a ≡ true
same_label-refl a =
    and_from (a.doi == a.doi && a.sens == a.sens) (bytes_eq a.comps a.comps)
    (and_from (a.doi == a.doi) (a.sens == a.sens) (eq-eqb a.doi a.doi refl) (eq-eqb a.sens a.sens refl))
    ((bytes_eq-Decides a.comps a.comps).1 refl)

-- labels of equal parts are equal
pub same_parts : (a b : Label) → a.doi ≡ b.doi → a.sens ≡ b.sens → a.comps ≡ b.comps → a ≡ b
same_parts a b d s c i = record { doi = d i; sens = s i; comps = c i }

pub same_label-true : (a b : Label) → same_label a b ≡ true → a ≡ b
same_label-true a b h =
    let both = and_parts (a.doi == b.doi && a.sens == b.sens) (bytes_eq a.comps b.comps) h in
    let front = and_parts (a.doi == b.doi) (a.sens == b.sens) both.0 in
    same_parts a b (eqb-true a.doi b.doi front.0) (eqb-true a.sens b.sens front.1) ((bytes_eq-Decides a.comps b.comps).0 both.1)

same_label-symm : (a b : Label) → same_label a b ≡ same_label b a
same_label-symm a b =
    agree (same_label a b) (same_label b a) (λ h. subst (λ (x : Label). same_label x a ≡ true) (same_label-true a b h) (same_label-refl a))
    (λ h. subst (λ (x : Label). same_label x b ≡ true) (same_label-true b a h) (same_label-refl b))

-- what equality of labels has to be as a comparison
pub same_label-equivalence : IsEquivalence same_label
same_label-equivalence = record { refl = same_label-refl; symm = same_label-symm; congr = λ a b c h. ap (λ (x : Label). same_label x c) (same_label-true a b h) }
