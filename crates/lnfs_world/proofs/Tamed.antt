-- Every change that a subject may make is tame.
use Rattle.std.proofs.Common.{◌≡◌, ◌≤◌, ℕ, Bool, true, false, List, [], ◌∷◌, refl, sym, subst, arith}
use Rattle.std.specs.Prelude.{filter, nat_lt}
use Rattle.std.specs.List.{AllByRecursion, list_any}
use Rattle.std.proofs.lemmas.Bool.Decides.{nat_tests}
use Rattle.std.specs.Str.{bytes_eq}
use Rattle.lnfs_world.specs.Rows.{inserted}
use Rattle.lnfs_world.specs.World.{Id, Open, Lasts, World, open_order, level_order, last_of}
use Rattle.lnfs_world.specs.Change.{Change, AddClient, SetClient, DropClient, AddSession, SetSession, DropSession, AddContext, DropContext, Make, Touch, Relabel, Link, Unlink, Drop, Move, AddOpen, SetOpen, EndOpen, apply, apply_all}
use Rattle.lnfs_world.specs.Within.{is_same_open}
use Rattle.lnfs_world.specs.Tame.{NoneFalls, is_tame, Tame}
use Rattle.lnfs_world.proofs.Within.{IsNew, IsWithin, AllWithin}
use Rattle.lnfs_world.proofs.Rows.{all_among, all_left, all_weaker, all_anyway, any_row, any_weaker}
use Rattle.lnfs_world.proofs.Sorted.{all_inserted}
use Rattle.lnfs_world.proofs.Keys.{id_same, bytes_same, bytes_itself, bytes_turned, last_of-inserted}

pub open_itself : (o : Open) → is_same_open o o ≡ true
open_itself o = grind (arith, nat_tests, bytes_itself o.owner)

open_turned : (a b : Open) → is_same_open a b ≡ true → is_same_open b a ≡ true
open_turned a b e = grind (arith, nat_tests, bytes_turned b.owner a.owner)

open_through : (a b c : Open) → is_same_open a b ≡ true → is_same_open b c ≡ true → is_same_open a c ≡ true
open_through a b c p q =
    let owner : a.owner ≡ b.owner = bytes_same a.owner b.owner (grind arith) in
    let owners : bytes_eq a.owner c.owner ≡ true = subst (λ o. bytes_eq o c.owner ≡ true) (sym owner) (grind arith) in
    grind (arith, nat_tests, owners)

none_falls : (level : ℕ) (l : Lasts) → NoneFalls level l l
none_falls level l = record { clients = omega arith; sessions = omega arith; contexts = omega arith; nodes = omega arith; opens = omega arith }

pub opens_tame : (w : World) → AllByRecursion (λ o. is_tame w o ≡ true) w.opens
opens_tame w = all_weaker _ _ (λ o among. grind (arith, among)) w.opens (all_among is_same_open open_itself w.opens)

-- nothing of opens and last numbers changes but that opens go
fewer_tame : (w after : World) (q : Open → Bool) → after.lasts ≡ w.lasts → after.opens ≡ filter q w.opens → Tame w after
fewer_tame w after q lasts opens = record {
  lasts = λ level. subst (λ l. NoneFalls level w.lasts l) (sym lasts) (none_falls level w.lasts);
  opens = subst (λ os. AllByRecursion (λ o. is_tame w o ≡ true) os) (sym opens) (all_left _ q w.opens (opens_tame w));
}

same_tame : (w after : World) → after.lasts ≡ w.lasts → after.opens ≡ w.opens → Tame w after
same_tame w after lasts opens = record {
  lasts = λ level. subst (λ l. NoneFalls level w.lasts l) (sym lasts) (none_falls level w.lasts);
  opens = subst (λ os. AllByRecursion (λ o. is_tame w o ≡ true) os) (sym opens) (opens_tame w);
}

pub tame_itself : (w : World) → Tame w w
tame_itself w = same_tame w w refl refl

rises : (s : ℕ) (i : Id) (lasts : List Id) (level : ℕ) → IsNew s lasts i → last_of level lasts ≤ last_of level (inserted level_order i lasts)
rises s i lasts level new = let own = new.own in let above = new.above in grind (arith, nat_tests, last_of-inserted i lasts level)

tame_before : (a b : World) (o : Open) → Tame a b → is_tame b o ≡ true → is_tame a o ≡ true
tame_before a b o tame is = at (nat_lt (last_of o.id.level b.lasts.opens) o.id.number) refl
  where
    at : (t : Bool) → nat_lt (last_of o.id.level b.lasts.opens) o.id.number ≡ t → is_tame a o ≡ true
    at true above = let falls = (tame.lasts o.id.level).opens in grind (arith, nat_tests)
    at false above =
        let there : list_any (λ x. is_same_open x o) b.opens ≡ true = grind (arith, above) in
        let x = any_row _ (λ x. is_same_open x o) b.opens tame.opens there in
        by_first x.0 x.1 x.2 (nat_lt (last_of x.0.id.level a.lasts.opens) x.0.id.number) refl
      where
        by_first : (x : Open) → is_tame a x ≡ true → is_same_open x o ≡ true → (t : Bool) → nat_lt (last_of x.id.level a.lasts.opens) x.id.number ≡ t → is_tame a o ≡ true
        by_first x tame_x same true above = let is : x.id ≡ o.id = id_same x.id o.id (grind arith) in grind (arith, nat_tests)
        by_first x tame_x same false above =
            let there : list_any (λ y. is_same_open y x) a.opens ≡ true = grind (arith, above) in
            let again : list_any (λ y. is_same_open y o) a.opens ≡ true = any_weaker (λ y. is_same_open y x) (λ y. is_same_open y o) a.opens (all_anyway _ (λ y p. open_through y x o p same) a.opens) there in
            grind (arith, again)

pub tame_through : (a b c : World) → Tame a b → Tame b c → Tame a c
tame_through a b c p q = record {
  lasts = λ level.
      let x = p.lasts level in
      let y = q.lasts level in
      record { clients = omega (arith, x.clients, y.clients); sessions = omega (arith, x.sessions, y.sessions); contexts = omega (arith, x.contexts, y.contexts); nodes = omega (arith, x.nodes, y.nodes); opens = omega (arith, x.opens, y.opens) };
  opens = all_weaker _ _ (λ o is. tame_before a b o p is) c.opens q.opens;
}

module _ (dom : ℕ → ℕ → Bool) (s : ℕ) where
  pub tamed : (c : Change) (w : World) → IsWithin dom s w c → Tame w (apply c w)
  tamed (AddClient row) w within = record { lasts = λ level. record { clients = rises s row.id w.lasts.clients level within.0; sessions = omega arith; contexts = omega arith; nodes = omega arith; opens = omega arith }; opens = opens_tame w }
  tamed (SetClient row) w within = same_tame w _ refl refl
  tamed (DropClient client) w within = fewer_tame w _ _ refl refl
  tamed (AddSession row) w within = record { lasts = λ level. record { clients = omega arith; sessions = rises s row.id w.lasts.sessions level within.0; contexts = omega arith; nodes = omega arith; opens = omega arith }; opens = opens_tame w }
  tamed (SetSession row) w within = same_tame w _ refl refl
  tamed (DropSession session) w within = same_tame w _ refl refl
  tamed (AddContext row) w within = record { lasts = λ level. record { clients = omega arith; sessions = omega arith; contexts = rises s row.id w.lasts.contexts level within; nodes = omega arith; opens = omega arith }; opens = opens_tame w }
  tamed (DropContext context) w within = same_tame w _ refl refl
  tamed (Make node entry) w within = record { lasts = λ level. record { clients = omega arith; sessions = omega arith; contexts = omega arith; nodes = rises s node.id w.lasts.nodes level within.new; opens = omega arith }; opens = opens_tame w }
  tamed (Touch node inner) w within = same_tame w _ refl refl
  tamed (Relabel node label inner) w within = same_tame w _ refl refl
  tamed (Link entry) w within = same_tame w _ refl refl
  tamed (Unlink entry) w within = same_tame w _ refl refl
  tamed (Drop entry) w within = fewer_tame w _ _ refl refl
  tamed (Move entry other) w within = same_tame w _ refl refl
  tamed (AddOpen row) w within =
      let own = within.new.own in
      let above = within.new.above in
      record {
        lasts = λ level. record { clients = omega arith; sessions = omega arith; contexts = omega arith; nodes = omega arith; opens = rises s row.id w.lasts.opens level within.new };
        opens = all_inserted open_order _ row w.opens (grind (arith, nat_tests)) (opens_tame w);
      }
  tamed (SetOpen row) w within =
      let there : list_any (λ x. is_same_open x row) w.opens ≡ true = any_weaker (is_same_open row) (λ x. is_same_open x row) w.opens (all_anyway _ (λ x e. open_turned row x e) w.opens) within.there in
      record {
        lasts = λ level. none_falls level w.lasts;
        opens = all_inserted open_order _ row w.opens (grind (arith, there)) (opens_tame w);
      }
  tamed (EndOpen opening) w within = fewer_tame w _ _ refl refl

  pub tamed_all : (cs : List Change) (w : World) → AllWithin dom s w cs → Tame w (apply_all cs w)
  tamed_all [] w within = same_tame w w refl refl
  tamed_all (c ∷ cs) w within = tame_through w (apply c w) (apply_all cs (apply c w)) (tamed c w within.0) (tamed_all cs (apply c w) within.1)
