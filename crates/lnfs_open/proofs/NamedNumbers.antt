-- Numbers by name, client and node after a change at one name.
use Rattle.std.proofs.Common.{◌≡◌, ℕ, Bool, true, false, cond, ◌&&◌, List, Option, None, refl, ap, ◌∙◌}
use Rattle.std.specs.Ordering.{nat_cmp}
use Rattle.std.specs.Cmp.Lexicographic.{slice_cmp}
use Rattle.std.specs.Str.{bytes_eq}
use Rattle.std.specs.BTreeMap.{BTreeMap, UpdatesBy}
use Rattle.std.specs.Global.{Vec}
use Rattle.lnfs_counts.proofs.Named.{name_cmp, at, name_updated, read_alike}
use Rattle.lnfs_open.specs.declared.owners.Matter.{Matter}
use Rattle.lnfs_open.specs.Owners.{number_in}

module _ (m n : BTreeMap (Vec ℕ) (BTreeMap Matter ℕ)) (name : List ℕ) (w : Option (BTreeMap Matter ℕ)) (updates : UpdatesBy name_cmp (λ k. slice_cmp nat_cmp name k.items) m n w) where
  pub number_updated : (o : List ℕ) (k : Matter) → number_in (at n o) k ≡ cond (bytes_eq name o) (number_in w k) (number_in (at m o) k)
  number_updated o k = ap (λ x. number_in x k) (name_updated m n name w updates o) ∙ by (bytes_eq name o)
    where
      by : (b : Bool) → number_in (cond b w (at m o)) k ≡ cond b (number_in w k) (number_in (at m o) k)
      by true = refl
      by false = refl

  -- a change by which its numbers stay
  pub number_stays : ((k : Matter) → number_in w k ≡ number_in (at m name) k) → (o : List ℕ) (k : Matter) → number_in (at n o) k ≡ number_in (at m o) k
  number_stays stays o k = read_alike m n name w updates (λ x. number_in x k) (stays k) o

pub put_by : (k b : Bool) (w x z : Option ℕ) → (b ≡ true → x ≡ z) → cond b (cond k w x) z ≡ cond (k && b) w z
put_by true true w x z same = refl
put_by false true w x z same = same refl
put_by true false w x z same = refl
put_by false false w x z same = refl

-- none is taken out where there is none
pub none_by : (k b : Bool) (z : Option ℕ) → (b ≡ true → z ≡ None) → z ≡ cond (k && b) None z
none_by true true z none = none refl
none_by false true z none = refl
none_by true false z none = refl
none_by false false z none = refl
