-- The facts of locks bear every tame change of the world.
use Rattle.std.proofs.Common.{◌≡◌, Bool, true, false, cond, ◌&&◌, ◌||◌, List, [], ◌∷◌, Option, Some, None, refl, sym, ap, ◌∙◌, subst, arith}
use Rattle.std.specs.Prelude.{◌==◌, find, is_some, nat_lt}
use Rattle.std.specs.List.{AllByRecursion, list_any}
use Rattle.std.specs.Str.{bytes_eq}
use Rattle.std.proofs.lemmas.Bool.{and_parts, and_from, false≢true}
use Rattle.std.proofs.lemmas.Bool.Decides.{nat_tests}
use Rattle.lnfs_world.specs.Facts.{same_opening}
use Rattle.lnfs_world.specs.Rows.{Apart}
use Rattle.lnfs_world.specs.Tame.{Tame, is_tame}
use Rattle.lnfs_world.specs.Within.{is_same_open}
use Rattle.lnfs_world.specs.World.{Id, Open, World, same_id, last_of, is_given}
use Rattle.lnfs_world.proofs.Keys.{id_same}
use Rattle.lnfs_world.proofs.Rows.{all_anyway, all_weaker, all_two, all_find, any_row, any_weaker}
use Rattle.lnfs_locks.specs.Locks.{Lock, Locks, Row, opening_id, is_live, locks_of}
use Rattle.lnfs_locks.specs.Facts.{IsUnder, are_doubles, LockFacts, AreKept}

any_is_found : {X : Type 0} (q : X → Bool) (xs : List X) → list_any q xs ≡ true → is_some (find q xs) ≡ true
any_is_found q [] there = absurd cc
any_is_found {X} q (x ∷ xs) there = at (q x) refl (any_is_found q xs)
  where
    at : (b : Bool) → q x ≡ b → (list_any q xs ≡ true → is_some (find q xs) ≡ true) → is_some (cond b (Some x) (find q xs)) ≡ true
    at true is rest = refl
    at false is rest = rest (grind (arith, is, there))

apart_weaker : (P : Lock → Type 0) (clash other : Lock → Lock → Bool) → ((x y : Lock) → P x → clash x y ≡ false → other x y ≡ false) → (xs : List Lock) → AllByRecursion P xs → Apart clash xs → Apart other xs
apart_weaker P clash other weaker [] all apart = tt
apart_weaker P clash other weaker (x ∷ xs) all apart = (all_weaker (λ y. clash x y ≡ false) (λ y. other x y ≡ false) (λ y none. weaker x y all.0 none) xs apart.0, apart_weaker P clash other weaker xs all.1 apart.1)

module _ (a b : World) (tame : Tame a b) where
  -- an open that a lock names was there before
  was_there : (i : Id) → is_given a.lasts.opens i ≡ true → (o : Open) → is_tame a o ≡ true → same_id i o.id ≡ true → list_any (λ x. is_same_open x o) a.opens ≡ true
  was_there i given o is same = at (nat_lt (last_of o.id.level a.lasts.opens) o.id.number) refl
    where
      at : (t : Bool) → nat_lt (last_of o.id.level a.lasts.opens) o.id.number ≡ t → list_any (λ x. is_same_open x o) a.opens ≡ true
      at true above = absurd (let id : i ≡ o.id = id_same i o.id same in let here : is_given a.lasts.opens o.id ≡ true = subst (λ j. is_given a.lasts.opens j ≡ true) id given in grind (arith, nat_tests, above, here))
      at false above = sym (ap (λ t. t || list_any (λ x. is_same_open x o) a.opens) above) ∙ is

  module _ (l : Lock) (given : is_given a.lasts.opens (opening_id l) ≡ true) where
    under_still : AllByRecursion (IsUnder l) a.opens → AllByRecursion (IsUnder l) b.opens
    under_still all = all_weaker (λ o. is_tame a o ≡ true) (IsUnder l) (λ o is same. from o (any_row (IsUnder l) (λ x. is_same_open x o) a.opens all (was_there (opening_id l) given o is same)) same) b.opens tame.opens
      where
        from : (o : Open) → (x : Open) × IsUnder l x × (is_same_open x o ≡ true) → same_id (opening_id l) o.id ≡ true → (o.client ≡ l.client) × (same_id l.node o.node ≡ true)
        from o x same =
            let parts = and_parts (same_id x.0.id o.id) (same_opening x.0 o) x.2 in
            let id : x.0.id ≡ o.id = id_same x.0.id o.id parts.0 in
            let more = and_parts (x.0.id.level == o.id.level) (x.0.client == o.client && (bytes_eq x.0.owner o.owner && same_id x.0.node o.node)) parts.1 in
            let client = and_parts (x.0.client == o.client) (bytes_eq x.0.owner o.owner && same_id x.0.node o.node) more.1 in
            let node = and_parts (bytes_eq x.0.owner o.owner) (same_id x.0.node o.node) client.1 in
            let told = x.1 (ap (λ (i : Id). same_id (opening_id l) i) id ∙ same) in
            let same_client = client.0 in
            let told_client = told.0 in
            (grind (arith, nat_tests, same_client, told_client), sym (ap (λ (i : Id). same_id l.node i) (id_same x.0.node o.node node.1)) ∙ told.1)

    live_still : is_live b l ≡ true → is_live a l ≡ true
    live_still live = at (find (λ o. same_id (opening_id l) o.id) b.opens) refl live
      where
        at : (f : Option Open) → find (λ o. same_id (opening_id l) o.id) b.opens ≡ f → is_some f ≡ true → is_live a l ≡ true
        at None none is = absurd cc
        at (Some o) found is =
            let there = all_find (λ x. is_tame a x ≡ true) (λ x. same_id (opening_id l) x.id) b.opens o tame.opens found in
            any_is_found (λ x. same_id (opening_id l) x.id) a.opens (any_weaker (λ x. is_same_open x o) (λ x. same_id (opening_id l) x.id) a.opens
            (all_anyway _ (λ x same. ap (λ (i : Id). same_id (opening_id l) i) (id_same x.id o.id (and_parts (same_id x.id o.id) (same_opening x o) same).0) ∙ there.1) a.opens)
            (was_there (opening_id l) given o there.0 there.1))

    apart_still : (y : Lock) → are_doubles a l y ≡ false → are_doubles b l y ≡ false
    apart_still y none = at (are_doubles b l y) refl
      where
        at : (t : Bool) → are_doubles b l y ≡ t → are_doubles b l y ≡ false
        at false is = is
        at true is =
            let parts = and_parts (same_id (opening_id l) (opening_id y)) (bytes_eq l.owner y.owner && is_live b l) is in
            let rest = and_parts (bytes_eq l.owner y.owner) (is_live b l) parts.1 in
            let was : are_doubles a l y ≡ true = and_from (same_id (opening_id l) (opening_id y)) (bytes_eq l.owner y.owner && is_live a l) parts.0 (and_from (bytes_eq l.owner y.owner) (is_live a l) rest.0 (live_still rest.1)) in
            absurd (false≢true (sym none ∙ was))

  given_still : (l : Lock) → is_given a.lasts.opens (opening_id l) ≡ true → is_given b.lasts.opens (opening_id l) ≡ true
  given_still l given = let rises = (tame.lasts l.id.level).opens in grind (arith, nat_tests, given, rises)

  pub facts_still : (own : Locks) → LockFacts a own → LockFacts b own
  facts_still own facts = record {
    rise = facts.rise;
    lasts_rise = facts.lasts_rise;
    given = facts.given;
    opening_given = all_weaker (λ l. is_given a.lasts.opens (opening_id l) ≡ true) (λ l. is_given b.lasts.opens (opening_id l) ≡ true) given_still own.locks facts.opening_given;
    under = all_two (λ l. is_given a.lasts.opens (opening_id l) ≡ true) (λ l. AllByRecursion (IsUnder l) a.opens) (λ l. AllByRecursion (IsUnder l) b.opens) (λ l given under. under_still l given under) own.locks facts.opening_given facts.under;
    apart = apart_weaker (λ l. is_given a.lasts.opens (opening_id l) ≡ true) (are_doubles a) (are_doubles b) (λ l y given none. apart_still l given y none) own.locks facts.opening_given facts.apart;
    owners = facts.owners;
    runs = facts.runs;
    locks = facts.locks;
    ranges = facts.ranges;
  }

pub kept_still : (a b : World) (rows : List Row) → Tame a b → AreKept a rows → AreKept b rows
kept_still a b rows tame kept = record { facts = facts_still a b tame (locks_of rows) kept.facts; order = kept.order }
