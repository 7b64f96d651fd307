-- Look-ups in maps by a name, after a change at one name.
use Rattle.std.proofs.Common.{◌≡◌, ℕ, Bool, true, false, cond, List, Option, refl, sym, ap, ◌∙◌}
use Rattle.std.specs.declared.cmp.Ordering.{Ordering}
use Rattle.std.specs.Ordering.{is_eq, nat_cmp}
use Rattle.std.specs.Cmp.{eq_by_cmp_equiv}
use Rattle.std.specs.Cmp.Lexicographic.{slice_cmp}
use Rattle.std.specs.Str.{bytes_eq}
use Rattle.std.specs.Map.{KeepsOthers}
use Rattle.std.specs.BTreeMap.{BTreeMap, UpdatesBy, get_by}
use Rattle.std.specs.Global.{Vec}
use Rattle.std.proofs.lemmas.Cmp.{nat_list_cmp_total}
use Rattle.std.proofs.lemmas.Map.Text.{is_eq-slice_cmp}
use Rattle.lnfs_world.proofs.Keys.{bytes_same, bytes_turned}

abbrev pub name_cmp : Vec ℕ → Vec ℕ → Ordering
name_cmp a b = slice_cmp nat_cmp a.items b.items

abbrev pub at : {X : Type 0} → BTreeMap (Vec ℕ) X → List ℕ → Option X
at names name = get_by (λ k. slice_cmp nat_cmp name k.items) names

apart : (bs cs ks : List ℕ) → bytes_eq bs cs ≡ false → is_eq (slice_cmp nat_cmp bs ks) ≡ true → is_eq (slice_cmp nat_cmp cs ks) ≡ false
apart bs cs ks n y =
    let same : bs ≡ ks = bytes_same bs ks (sym (is_eq-slice_cmp bs ks) ∙ y) in
    is_eq-slice_cmp cs ks ∙ ap (bytes_eq cs) (sym same) ∙ bytes_turned cs bs ∙ n

module _ {X : Type 0} (m n : BTreeMap (Vec ℕ) X) (name : List ℕ) (w : Option X) (updates : UpdatesBy name_cmp (λ k. slice_cmp nat_cmp name k.items) m n w) where
  others : (o : List ℕ) → bytes_eq name o ≡ false → at n o ≡ at m o
  unfolding KeepsOthers
  others o differs = updates.3 _ (λ x y. (eq_by_cmp_equiv nat_list_cmp_total).congr o x.items y.items) (λ k. apart name o k.items differs)

  pub name_updated : (o : List ℕ) → at n o ≡ cond (bytes_eq name o) w (at m o)
  name_updated o = by (bytes_eq name o) refl
    where
      by : (b : Bool) → bytes_eq name o ≡ b → at n o ≡ cond b w (at m o)
      by true is = ap (at n) (sym (bytes_same name o is)) ∙ updates.1
      by false is = others o is

  -- what is read alike of both states of one name is read alike of all
  pub read_alike : {W : Type 0} (f : Option X → W) → f w ≡ f (at m name) → (o : List ℕ) → f (at n o) ≡ f (at m o)
  read_alike f same o = ap f (name_updated o) ∙ by (bytes_eq name o) refl
    where
      by : (b : Bool) → bytes_eq name o ≡ b → f (cond b w (at m o)) ≡ f (at m o)
      by true is = same ∙ ap (λ k. f (at m k)) (bytes_same name o is)
      by false is = refl
