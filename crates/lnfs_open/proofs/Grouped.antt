-- Opens of a group.
use Rattle.std.proofs.Common.{◌≡◌, Bool, true, false, not, ◌||◌, List, [], ◌∷◌, Option, Some, None, refl, sym, ap, ◌∙◌, arith}
use Rattle.std.specs.Prelude.{IfSome, IfNone, is_some}
use Rattle.std.specs.List.{list_any, list_all}
use Rattle.std.proofs.lemmas.Bool.{false≢true}
use Rattle.lnfs_world.specs.Rows.{Rising}
use Rattle.lnfs_world.specs.World.{Id, Open, open_order, same_id}
use Rattle.lnfs_world.proofs.Rows.{all_weaker, all_none, any_found}
use Rattle.lnfs_counts.proofs.Rows as rows
use Rattle.lnfs_counts.proofs.Rows.{each_at, found_id}
use Rattle.lnfs_open.specs.declared.keys.Key.{Key}
use Rattle.lnfs_open.specs.Listed.{id_of}
use Rattle.lnfs_open.specs.Indexed.{own_id, open_at, passes}

pub some_weaker : {T : Type 0} (P Q : T → Type 0) (o : Option T) → ((x : T) → P x → Q x) → IfSome o P → IfSome o Q
some_weaker P Q None f h = tt
some_weaker P Q (Some x) f h = f x h

pub none_weaker : {T P Q : Type 0} (o : Option T) → (P → Q) → IfNone o P → IfNone o Q
none_weaker None f h = f h
none_weaker (Some x) f h = tt

module _ (opens : List Open) (test : Open → Bool) where
  pub there : (i : Id) → passes test (open_at opens i) ≡ true → list_any (λ o. same_id i o.id) opens ≡ true
  there i is = by (open_at opens i) refl is
    where
      by : (x : Option Open) → open_at opens i ≡ x → passes test x ≡ true → list_any (λ o. same_id i o.id) opens ≡ true
      by None at is = absurd (false≢true is)
      by (Some o) at is = any_found (λ y. same_id i y.id) (λ y. same_id i y.id) opens o at (found_id own_id opens i o at)

  -- no other open has its identifier
  pub only : Rising open_order opens → (i : Id) → passes test (open_at opens i) ≡ true → list_all (λ o. not (same_id i o.id) || test o) opens ≡ true
  only rising i is = by (open_at opens i) refl is
    where
      by : (x : Option Open) → open_at opens i ≡ x → passes test x ≡ true → list_all (λ o. not (same_id i o.id) || test o) opens ≡ true
      by None at is = absurd (false≢true is)
      by (Some o) at is = rows.only own_id test opens rising i o at is

  pub none : Rising open_order opens → ((i : Id) → passes test (open_at opens i) ≡ false) → list_any test opens ≡ false
  none rising fails = all_none test opens (all_weaker _ _ (λ o at. sym (ap (passes test) at) ∙ fails o.id) opens (each_at own_id opens rising))

-- an open of the group is there where one of an identifier is, and each of it is of the group
pub has : (test : Open → Bool) (i : Id) (opens : List Open) → list_any (λ o. same_id i o.id) opens ≡ true → list_all (λ o. not (same_id i o.id) || test o) opens ≡ true → list_any test opens ≡ true
has test i [] there all = there
has test i (x ∷ xs) there all = grind (arith, has test i xs)

pub is_any : (test : Open → Bool) (opens : List Open) (x : Option Key) → IfSome x (λ id. list_any (λ o. same_id (id_of id) o.id) opens ≡ true) → IfSome x (λ id. list_all (λ o. not (same_id (id_of id) o.id) || test o) opens ≡ true) → IfNone x (list_any test opens ≡ false) → is_some x ≡ list_any test opens
is_any test opens None there all none = sym none
is_any test opens (Some id) there all none = sym (has test (id_of id) opens there all)
