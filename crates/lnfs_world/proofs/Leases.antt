-- Leases: what a subject looks at of them, and the opens that give way where they are over.
use Rattle.std.proofs.Common.{◌≡◌, ℕ, Bool, true, false, cond, not, ◌&&◌, ◌||◌, List, [], ◌∷◌, Option, Some, refl, sym, ap, subst, ◌∙◌, arith}
use Rattle.std.specs.Prelude.{◌==◌, filter, option_and_then}
use Rattle.std.specs.List.{AllByRecursion, list_any}
use Rattle.std.specs.declared.cmp.Ordering.TheVariants.{Less}
use Rattle.std.proofs.lemmas.Bool.{and_parts}
use Rattle.std.proofs.lemmas.Bool.Decides.{nat_tests}
use Rattle.lnfs_calipso.specs.Label.{IsPreorderWithBottom}
use Rattle.lnfs_types.specs.declared.event.Moment.{Moment}
use Rattle.lnfs_world.specs.Rows.{inserted, Rising}
use Rattle.lnfs_world.specs.World.{Id, Client, Open, World, open_order, same_id}
use Rattle.lnfs_world.specs.Erased.{erased}
use Rattle.lnfs_world.specs.Change.{EndOpen, apply, apply_all}
use Rattle.lnfs_world.specs.Leases.{is_over, over_at}
use Rattle.lnfs_world.specs.Opens.{is_own, clashes, client_of, conflicts, gives_way, that_give_way, ended}
use Rattle.lnfs_world.specs.Within.{all_within}
use Rattle.lnfs_world.proofs.Keys.{id_itself}
use Rattle.lnfs_world.proofs.Rows.{all_anyway, all_filter, all_two, all_weaker, any-kept, filter-kept}
use Rattle.lnfs_world.proofs.Sorted.{all_inserted}
use Rattle.lnfs_world.proofs.ChangedNames.{Beside}
use Rattle.lnfs_world.proofs.Views.{client_at-seen}

-- ---- what is looked at

module _ (dom : ℕ → ℕ → Bool) (s : ℕ) (w : World) (moment : Moment) where
  abbrev shown : Id → Bool
  shown = over_at (erased dom s w).clients moment

  abbrev found : Id → Bool
  found = over_at w.clients moment

  -- leases of clients that the subject sees
  pub over_at-seen : (i : Id) → dom s i.level ≡ true → shown i ≡ found i
  over_at-seen i above = ap (λ (o : Option Client). is_over moment.secs (option_and_then (λ c. c.seen) o)) (client_at-seen dom s i above w.clients)

  -- opens that the subject sees, as no others stand in its way
  pub conflicts_seen : (own : Option (Id × List ℕ)) (node : Id) (access deny : ℕ) → conflicts dom s own node access deny shown (erased dom s w).opens ≡ conflicts dom s own node access deny found w.opens
  conflicts_seen own node access deny = any-kept _ _ _ _ w.opens (all_anyway _ (λ o. (
    (λ is. (and_parts _ _ (and_parts (same_id node o.node) _ is).1).0),
    (λ above. let same = over_at-seen (client_of o) above in λ k. same_id node o.node && (dom s o.id.level && (not (is_own own node o) && (clashes access deny o && not (same k))))),
  )) w.opens)

  module _ (lattice : IsPreorderWithBottom dom) (own : Id × List ℕ) (node : Id) (access deny : ℕ) where
    -- at an open of the subject's own level
    alike : (o : Open) → (same_id node o.node && gives_way s own node access deny shown o) ≡ (same_id node o.node && gives_way s own node access deny found o)
    alike o = at (o.id.level == s) refl
      where
        at : (b : Bool) → (o.id.level == s) ≡ b → (same_id node o.node && (b && (not (is_own (Some own) node o) && (clashes access deny o && shown (client_of o))))) ≡ (same_id node o.node && (b && (not (is_own (Some own) node o) && (clashes access deny o && found (client_of o)))))
        at true is =
            let same = over_at-seen (client_of o) (grind (arith, nat_tests, is, lattice.reflexive s)) in
            λ k. same_id node o.node && (true && (not (is_own (Some own) node o) && (clashes access deny o && same k)))
        at false is = refl

    pub give_way_seen : that_give_way s own node access deny shown (erased dom s w).opens ≡ that_give_way s own node access deny found w.opens
    give_way_seen =
        filter-kept _ _ (λ o. same_id node o.node && gives_way s own node access deny shown o) (λ o is. above o (and_parts _ _ (and_parts (same_id node o.node) _ is).1).0) (λ o is. refl) (λ o. refl) w.opens
        ∙ (λ k. filter (λ o. alike o k) w.opens)
      where
        above : (o : Open) → (o.id.level == s) ≡ true → dom s o.id.level ≡ true
        above o is = grind (arith, nat_tests, is, lattice.reflexive s)

-- ---- what is changed

-- those that give way are of the subject's level
pub give_way_own : (s : ℕ) (own : Id × List ℕ) (node : Id) (access deny : ℕ) (over : Id → Bool) (opens : List Open) → AllByRecursion (λ o. (o.id.level == s) ≡ true) (that_give_way s own node access deny over opens)
give_way_own s own node access deny over opens =
    all_weaker _ _ (λ o is. (and_parts _ _ (and_parts (same_id node o.node) _ is.0).1).0) _ (all_filter (λ o. Unit {0}) (λ o. same_id node o.node && gives_way s own node access deny over o) opens (all_anyway _ (λ o. tt) opens))

-- a subject may end those of its level
pub ended_within : (dom : ℕ → ℕ → Bool) (s : ℕ) (opens : List Open) (w : World) → AllByRecursion (λ o. (o.id.level == s) ≡ true) opens → all_within dom s w (ended opens) ≡ true
ended_within dom s [] w own = refl
ended_within dom s (o ∷ opens) w own = let here = own.0 in grind (arith, here, ended_within dom s opens (apply_all (ended (o ∷ [])) w) own.1)

-- all but opens is left
pub ended_beside : (opens : List Open) (w : World) → Beside w (apply_all (ended opens) w)
ended_beside [] w = record { clients = refl; sessions = refl }
ended_beside (o ∷ opens) w = let rest = ended_beside opens (apply_all (ended (o ∷ [])) w) in record { clients = rest.clients; sessions = rest.sessions }

pub ended_nodes : (opens : List Open) (w : World) → (apply_all (ended opens) w).nodes ≡ w.nodes
ended_nodes [] w = refl
ended_nodes (o ∷ opens) w = ended_nodes opens (apply_all (ended (o ∷ [])) w)

-- ---- what is left

module _ {X : Type 0} where
  all_pass : (xs : List X) → filter (λ x. true) xs ≡ xs
  all_pass [] = refl
  all_pass (x ∷ xs) = ap (λ ys. x ∷ ys) (all_pass xs)

  filter_twice : (p q : X → Bool) (xs : List X) → filter p (filter q xs) ≡ filter (λ x. q x && p x) xs
  filter_twice p q [] = refl
  filter_twice p q (x ∷ xs) = grind (arith, filter_twice p q xs)

  filter_agree : (p q : X → Bool) (xs : List X) → AllByRecursion (λ x. p x ≡ q x) xs → filter p xs ≡ filter q xs
  filter_agree p q [] all = refl
  filter_agree p q (x ∷ xs) all = grind (arith, all.0, filter_agree p q xs all.1)

neither : (a b : Bool) → (not a && not b) ≡ not (a || b)
neither true b = refl
neither false b = refl

-- whether an open is one of some, by its identifier
abbrev pub is_one_of : List Open → Open → Bool
is_one_of opens o = list_any (λ x. same_id x.id o.id) opens

-- those of other identifiers
pub ended_opens : (opens : List Open) (w : World) → (apply_all (ended opens) w).opens ≡ filter (λ o. not (is_one_of opens o)) w.opens
ended_opens [] w = sym (all_pass w.opens)
ended_opens (x ∷ opens) w =
    ended_opens opens (apply (EndOpen x.id) w)
    ∙ filter_twice (λ o. not (is_one_of opens o)) (λ o. not (same_id x.id o.id)) w.opens
    ∙ (λ k. filter (λ o. neither (same_id x.id o.id) (is_one_of opens o) k) w.opens)

module _ (q : Open → Bool) where
  -- those that pass have other identifiers than one that comes before them
  none_before : (o : Open) (opens : List Open) → AllByRecursion (λ y. open_order o y ≡ Less) opens → is_one_of (filter q opens) o ≡ false
  none_before o [] after = refl
  none_before o (y ∷ opens) after = grind (arith, nat_tests, none_before o opens after.1, after.0)

  -- an open that is there is one of those that pass where it passes
  one_that_passes : (opens : List Open) → Rising open_order opens → AllByRecursion (λ o. is_one_of (filter q opens) o ≡ q o) opens
  one_that_passes [] rise = tt
  one_that_passes (o ∷ opens) rise = (here (q o) refl, all_two _ _ _ (λ y before told. later (q o) y before told) opens rise.0 (one_that_passes opens rise.1))
    where
      here : (b : Bool) → q o ≡ b → is_one_of (cond b (o ∷ filter q opens) (filter q opens)) o ≡ q o
      here true is = grind (arith, id_itself o.id, is)
      here false is = none_before o opens rise.0 ∙ sym is

      later : (b : Bool) (y : Open) → open_order o y ≡ Less → is_one_of (filter q opens) y ≡ q y → is_one_of (cond b (o ∷ filter q opens) (filter q opens)) y ≡ q y
      later true y before told =
          let apart : same_id o.id y.id ≡ false = grind (arith, nat_tests, before) in
          ap (λ b. b || is_one_of (filter q opens) y) apart ∙ told
      later false y before told = told

  none_passes : (row : Open) (opens : List Open) → AllByRecursion (λ x. same_id x.id row.id ≡ true → q x ≡ false) opens → is_one_of (filter q opens) row ≡ false
  none_passes row [] apart = refl
  none_passes row (x ∷ opens) apart = grind (arith, apart.0, none_passes row opens apart.1)

  -- Where those that pass end, the others are left; also where a row was set before, which doesn't pass, nor did one of its
  -- identifier.
  pub ended_left : (w : World) → Rising open_order w.opens → (apply_all (ended (filter q w.opens)) w).opens ≡ filter (λ o. not (q o)) w.opens
  ended_left w rise = ended_opens (filter q w.opens) w ∙ filter_agree _ _ w.opens (all_weaker _ _ (λ o told. ap not told) w.opens (one_that_passes w.opens rise))

  pub ended_behind : (row : Open) (opens : List Open) (v : World) → Rising open_order opens → v.opens ≡ inserted open_order row opens → q row ≡ false → AllByRecursion (λ x. same_id x.id row.id ≡ true → q x ≡ false) opens →
      (apply_all (ended (filter q opens)) v).opens ≡ filter (λ o. not (q o)) v.opens
  ended_behind row opens v rise set none apart =
      ended_opens (filter q opens) v
      ∙ filter_agree _ _ v.opens (subst (AllByRecursion (λ o. not (is_one_of (filter q opens) o) ≡ not (q o))) (sym set)
      (all_inserted open_order (λ o. not (is_one_of (filter q opens) o) ≡ not (q o)) row opens (ap not (none_passes row opens apart ∙ sym none))
      (all_weaker _ _ (λ o told. ap not told) opens (one_that_passes opens rise))))
