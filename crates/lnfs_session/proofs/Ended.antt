-- The end of a client's sessions, one after the other.
use Rattle.std.proofs.Common.{◌≡◌, Bool, true, false, not, ◌||◌, List, [], ◌∷◌, Option, Some, None, refl, ap, ◌∙◌, arith}
use Rattle.std.specs.Prelude.{map, find, option_map, is_some}
use Rattle.std.specs.List.{list_all, list_any}
use Rattle.std.specs.List.Sorted.{IsStrictlySortedBy}
use Rattle.std.specs.Map.{keys_of}
use Rattle.lnfs_world.specs.World as world
use Rattle.lnfs_world.specs.World.{same_id}
use Rattle.lnfs_world.proofs.Rows as rows
use Rattle.lnfs_world.proofs.Rows.{all_find}
use Rattle.lnfs_world.proofs.Keys.{id_itself}
use Rattle.lnfs_counts.proofs.Rows.{each_at, only}
use Rattle.lnfs_counts.proofs.Entries.{rising-entries}
use Rattle.lnfs_session.specs.declared.rows.SessionRef.{SessionRef}
use Rattle.lnfs_session.specs.declared.rows.Session.{Session}
use Rattle.lnfs_session.specs.Listed.{session_id_of, session_of}
use Rattle.lnfs_session.specs.Sessions.{own_id}
use Rattle.lnfs_session.proofs.Entries.{session_cmp, session_keys}

-- ---- whether there is one
pub some_seen : {X Y : Type 0} (f : X → Y) (o : Option X) → is_some o ≡ is_some (option_map f o)
some_seen f None = refl
some_seen f (Some x) = refl

pub none_is : {X : Type 0} (o : Option X) → is_some o ≡ false → o ≡ None
none_is None e = refl
none_is (Some x) e = absurd (cc)

pub some_is : {X : Type 0} (o : Option X) → is_some o ≡ true → (x : X) × (o ≡ Some x)
some_is None e = absurd (cc)
some_is (Some x) e = (x, refl)

module _ (p : world.Session → Bool) where
  -- no two sessions have one identifier
  pub only_one : (x : world.Session) (es : List (SessionRef × Session)) → IsStrictlySortedBy session_cmp (keys_of es) → find p (map session_of es) ≡ Some x → list_all (λ y. not (same_id x.id y.id) || p y) (map session_of es) ≡ true
  only_one x es sorted found =
      let rising = rising-entries session_id_of session_cmp session_keys session_of own_id (λ e. refl) es sorted in
      let at = all_find _ p (map session_of es) x (each_at own_id (map session_of es) rising) found in
      only own_id p (map session_of es) rising x.id x at.0 at.1

  -- the one that is found is there
  pub found_there : (i : world.Id) (xs : List world.Session) → Some i ≡ option_map (λ y. y.id) (find p xs) → list_any (λ y. same_id i y.id) xs ≡ true
  found_there i xs known = by (find p xs) refl known
    where
      by : (o : Option world.Session) → find p xs ≡ o → Some i ≡ option_map (λ y. y.id) o → list_any (λ y. same_id i y.id) xs ≡ true
      by None is known = absurd (cc)
      by (Some x) is known =
          let own : i ≡ x.id = cc in
          rows.any_found p (λ y. same_id i y.id) xs x is (ap (λ j. same_id j x.id) own ∙ id_itself x.id)

  any_found : (xs : List world.Session) → is_some (find p xs) ≡ list_any p xs
  any_found [] = refl
  any_found (x ∷ xs) = grind (arith, any_found xs)

  pub is_found : (o : Option SessionRef) (xs : List world.Session) → option_map session_id_of o ≡ option_map (λ y. y.id) (find p xs) → is_some o ≡ list_any p xs
  is_found o xs told = same o (find p xs) told ∙ any_found xs
    where
      same : (a : Option SessionRef) (b : Option world.Session) → option_map session_id_of a ≡ option_map (λ y. y.id) b → is_some a ≡ is_some b
      same None None e = refl
      same None (Some y) e = absurd (cc)
      same (Some i) None e = absurd (cc)
      same (Some i) (Some y) e = refl
