-- The opens of a node by its group, and by all opens.
use Rattle.std.proofs.Common.{◌≡◌, ℕ, Bool, true, false, cond, ◌&&◌, ◌||◌, List, [], ◌∷◌, Option, Some, None, refl, sym, ap, subst, ◌∙◌, arith}
use Rattle.std.specs.Prelude.{is_some, ◌==◌, ◌<◌}
use Rattle.std.specs.Ordering.{is_eq}
use Rattle.std.specs.Map.{lookup}
use Rattle.std.specs.BTreeMap.{is_at, get}
use Rattle.std.specs.List.{AllByRecursion, list_any}
use Rattle.lnfs_world.specs.Rows.{Rising}
use Rattle.lnfs_world.specs.World.{Id, Open, open_order, same_id}
use Rattle.lnfs_world.proofs.Rows.{all_weaker, any_weaker, any_row, any_found}
use Rattle.lnfs_world.proofs.Keys.{same_truth, id_same, id_itself}
use Rattle.std.proofs.lemmas.Bool.{false≢true}
use Rattle.std.proofs.lemmas.Bool.Decides.{nat_tests}
use Rattle.lnfs_counts.proofs.Rows.{each_at, found_id}
use Rattle.lnfs_open.specs.declared.groups.Groups.{Groups}
use Rattle.lnfs_open.specs.declared.groups.Member.{Member}
use Rattle.lnfs_open.specs.Listed.{id_of}
use Rattle.lnfs_open.specs.Groups.{place_cmp, place_of, holds}
use Rattle.lnfs_open.specs.Indexed.{own_id, open_at, passes}
use Rattle.lnfs_open.proofs.Places.{place_same}
use Rattle.lnfs_open.specs.declared.keys.Key.{Key}
use Rattle.lnfs_open.specs.declared.tallies.Layer.{Layer}
use Rattle.lnfs_open.specs.declared.tallies.Tally.{Tally}
use Rattle.lnfs_open.specs.declared.tallies.Tallies.{Tallies}
use Rattle.lnfs_open.specs.Tallies.{layer_cmp, layer_of, tally_in, tally_of, in_layer, AreTallied}
use Rattle.lnfs_open.proofs.Layers.{told, same_layer, layer_same}
use Rattle.lnfs_open.proofs.Tallying.{positive}
use Rattle.lnfs_open.proofs.Runs.{is_member, is_of_node}

abbrev Places : Type 0
Places = List (Member × Unit {0})

same_place : (p q : Member) → is_eq (place_cmp p q) ≡ (same_id (id_of p.group) (id_of q.group) && same_id (id_of p.id) (id_of q.id))
same_place p q = place_same (id_of p.group) (id_of p.id) (id_of q.group) (id_of q.id)

itself : (p : Member) → is_eq (place_cmp p p) ≡ true
itself p = same_place p p ∙ grind (arith, id_itself (id_of p.group), id_itself (id_of p.id))

-- each place is in the map
each_there : (es : Places) → AllByRecursion (λ e. is_some (lookup (is_at (place_cmp e.0)) es) ≡ true) es
each_there [] = tt
each_there (e ∷ es) = (
  ap (λ b. is_some (cond b (Some e.1) (lookup (is_at (place_cmp e.0)) es))) (itself e.0),
  all_weaker _ _ (λ x there. by x (is_eq (place_cmp x.0 e.0)) there) es (each_there es),
)
  where
    by : (x : Member × Unit {0}) (b : Bool) → is_some (lookup (is_at (place_cmp x.0)) es) ≡ true → is_some (cond b (Some e.1) (lookup (is_at (place_cmp x.0)) es)) ≡ true
    by x true there = refl
    by x false there = there

-- one that is in the map is among the places
among : (t : Member → Bool) (p : Member) → t p ≡ true → (es : Places) → is_some (lookup (is_at (place_cmp p)) es) ≡ true → list_any (λ e. t e.0) es ≡ true
among t p passes [] there = there
among t p passes (e ∷ es) there = by (is_eq (place_cmp p e.0)) refl there (among t p passes es)
  where
    by : (b : Bool) → is_eq (place_cmp p e.0) ≡ b → is_some (cond b (Some e.1) (lookup (is_at (place_cmp p)) es)) ≡ true → (is_some (lookup (is_at (place_cmp p)) es) ≡ true → list_any (λ x. t x.0) es ≡ true) → list_any (λ x. t x.0) (e ∷ es) ≡ true
    by true is there rest =
        let both = sym (same_place p e.0) ∙ is in
        let group : id_of p.group ≡ id_of e.0.group = id_same (id_of p.group) (id_of e.0.group) (grind (arith, both)) in
        let own : id_of p.id ≡ id_of e.0.id = id_same (id_of p.id) (id_of e.0.id) (grind (arith, both)) in
        let here : t e.0 ≡ true = (λ i. t (place_of (sym group i) (sym own i))) ∙ passes in
        grind (arith, here)
    by false is there rest = grind (arith, rest there)

module _ (opens : List Open) (rise : Rising open_order opens) (nodes : Groups) (told : (n i : Id) → holds nodes n i ≡ passes (λ o. same_id n o.node) (open_at opens i)) (node : Id) (t : Open → Bool) where
  from_places : list_any (λ e. same_id node (id_of e.0.group) && passes t (open_at opens (id_of e.0.id))) nodes.places.entries ≡ true → list_any (λ o. same_id node o.node && t o) opens ≡ true
  from_places some =
      let row = any_row _ (λ e. same_id node (id_of e.0.group) && passes t (open_at opens (id_of e.0.id))) nodes.places.entries (each_there nodes.places.entries) some in
      by row.0.0 row.1 row.2 (open_at opens (id_of row.0.0.id)) refl
    where
      by : (p : Member) → is_some (lookup (is_at (place_cmp p)) nodes.places.entries) ≡ true → (same_id node (id_of p.group) && passes t (open_at opens (id_of p.id))) ≡ true → (x : Option Open) → open_at opens (id_of p.id) ≡ x → list_any (λ o. same_id node o.node && t o) opens ≡ true
      by p there both None at =
          let none : passes t (open_at opens (id_of p.id)) ≡ false = ap (passes t) at in
          absurd (grind (arith, both, none))
      by p there both (Some o) at =
          let test : t o ≡ true = ap (passes t) (sym at) ∙ grind (arith, both) in
          let group : node ≡ id_of p.group = id_same node (id_of p.group) (grind (arith, both)) in
          let of : same_id (id_of p.group) o.node ≡ true = ap (passes (λ x. same_id (id_of p.group) x.node)) (sym at) ∙ sym (told (id_of p.group) (id_of p.id)) ∙ there in
          let here : same_id node o.node ≡ true = ap (λ n. same_id n o.node) group ∙ of in
          any_found (λ x. same_id (id_of p.id) x.id) (λ x. same_id node x.node && t x) opens o at (grind (arith, here, test))

  from_opens : list_any (λ o. same_id node o.node && t o) opens ≡ true → list_any (λ e. same_id node (id_of e.0.group) && passes t (open_at opens (id_of e.0.id))) nodes.places.entries ≡ true
  from_opens some =
      let row = any_row _ (λ o. same_id node o.node && t o) opens (each_at own_id opens rise) some in
      let o = row.0 in
      let here : same_id node o.node ≡ true = grind (arith, row.2) in
      let test : t o ≡ true = grind (arith, row.2) in
      let held : holds nodes node o.id ≡ true = told node o.id ∙ ap (passes (λ x. same_id node x.node)) row.1 ∙ here in
      let passing : passes t (open_at opens o.id) ≡ true = ap (passes t) row.1 ∙ test in
      among (λ p. same_id node (id_of p.group) && passes t (open_at opens (id_of p.id))) (place_of node o.id) (grind (arith, id_itself node, passing)) nodes.places.entries held

  pub any-places : list_any (λ e. same_id node (id_of e.0.group) && passes t (open_at opens (id_of e.0.id))) nodes.places.entries ≡ list_any (λ o. same_id node o.node && t o) opens
  any-places = same_truth _ _ from_places from_opens

turned : (a b : Id) → same_id a b ≡ same_id b a
turned a b = grind (arith, nat_tests)

and_assoc : (a b c : Bool) → ((a && b) && c) ≡ (a && (b && c))
and_assoc true b c = refl
and_assoc false b c = refl

-- the places of a level, by the opens of the level
pub any-members : (opens : List Open) → Rising open_order opens → (nodes : Groups) → ((n i : Id) → holds nodes n i ≡ passes (λ o. same_id n o.node) (open_at opens i)) → (node : Key) (level : ℕ) (t : Open → Bool) → list_any (λ e. is_member node level e.0 && passes t (open_at opens (id_of e.0.id))) nodes.places.entries ≡ list_any (λ o. in_layer (id_of node) level o && t o) opens
any-members opens rise nodes told node level t =
    (λ i. list_any (λ e. by_place e i) nodes.places.entries)
    ∙ any-places opens rise nodes told (id_of node) (λ o. o.id.level == level && t o)
    ∙ (λ i. list_any (λ o. by_open o i) opens)
  where
    at : (i : Id) (x : Option Open) → open_at opens i ≡ x → (i.level == level && passes t x) ≡ passes (λ o. o.id.level == level && t o) x
    at i None is = grind arith
    at i (Some o) is = ap (λ (j : Id). j.level == level && t o) (id_same i o.id (found_id own_id opens i o is))

    by_place : (e : Member × Unit {0}) → (is_member node level e.0 && passes t (open_at opens (id_of e.0.id))) ≡ (same_id (id_of node) (id_of e.0.group) && passes (λ o. o.id.level == level && t o) (open_at opens (id_of e.0.id)))
    by_place e = and_assoc (same_id (id_of node) (id_of e.0.group)) (e.0.id.level == level) (passes t (open_at opens (id_of e.0.id))) ∙ ap (λ b. same_id (id_of node) (id_of e.0.group) && b) (at (id_of e.0.id) (open_at opens (id_of e.0.id)) refl)

    by_open : (o : Open) → (same_id (id_of node) o.node && (o.id.level == level && t o)) ≡ (in_layer (id_of node) level o && t o)
    by_open o = (λ i. turned (id_of node) o.node i && (o.id.level == level && t o)) ∙ sym (and_assoc (same_id o.node (id_of node)) (o.id.level == level) (t o))

-- ---- by the tallies of a node's levels

same_key : (p q : Layer) → is_eq (layer_cmp p q) ≡ true → p ≡ q
same_key p q is = same_layer p q (sym (layer_same p q) ∙ is)

-- a tally that is in the map is among the entries
among_layers : (t : Layer × Tally → Bool) (p : Layer) (v : Tally) → t (p, v) ≡ true → (es : List (Layer × Tally)) → lookup (is_at (layer_cmp p)) es ≡ Some v → list_any t es ≡ true
among_layers t p v passes [] there = absurd (cc)
among_layers t p v passes (e ∷ es) there = by (is_eq (layer_cmp p e.0)) refl there (among_layers t p v passes es)
  where
    by : (b : Bool) → is_eq (layer_cmp p e.0) ≡ b → cond b (Some e.1) (lookup (is_at (layer_cmp p)) es) ≡ Some v → (lookup (is_at (layer_cmp p)) es ≡ Some v → list_any t es ≡ true) → list_any t (e ∷ es) ≡ true
    by true is there rest =
        let key : e.0 ≡ p = sym (same_key p e.0 is) in
        let value : e.1 ≡ v = cc in
        let here : t e ≡ true = (λ i. t (key i, value i)) ∙ passes in
        grind (arith, here)
    by false is there rest = grind (arith, rest there)

module _ (opens : List Open) (rise : Rising open_order opens) (tallies : Tallies) (tallied : AreTallied opens tallies) (node : Key) (may : ℕ → Tally → Bool) (t : Open → Bool)
    (certain : (o : Open) → open_at opens o.id ≡ Some o → t o ≡ true → may o.id.level (tally_of opens o.node o.id.level) ≡ true) where
  abbrev stops_in : Layer × Tally → Bool
  stops_in e = is_of_node node e.0 && (may e.0.level e.1 && list_any (λ o. in_layer (id_of node) e.0.level o && t o) opens)

  from_layers : (es : List (Layer × Tally)) → list_any stops_in es ≡ true → list_any (λ o. same_id (id_of node) o.node && t o) opens ≡ true
  from_layers [] some = absurd (false≢true some)
  from_layers (e ∷ es) some = by (stops_in e) refl (from_layers es)
    where
      wider : (xs : List Open) → AllByRecursion (λ o. (in_layer (id_of node) e.0.level o && t o) ≡ true → (same_id (id_of node) o.node && t o) ≡ true) xs
      wider [] = tt
      wider (o ∷ xs) = ((λ both. grind (arith, both, turned (id_of node) o.node)), wider xs)

      by : (b : Bool) → stops_in e ≡ b → (list_any stops_in es ≡ true → list_any (λ o. same_id (id_of node) o.node && t o) opens ≡ true) → list_any (λ o. same_id (id_of node) o.node && t o) opens ≡ true
      by true is rest = any_weaker (λ o. in_layer (id_of node) e.0.level o && t o) (λ o. same_id (id_of node) o.node && t o) opens (wider opens) (grind (arith, is))
      by false is rest = rest (ap (λ b. b || list_any stops_in es) (sym is) ∙ some)

  from_all : list_any (λ o. same_id (id_of node) o.node && t o) opens ≡ true → list_any stops_in tallies.layers.entries ≡ true
  from_all some =
      let row = any_row _ (λ o. same_id (id_of node) o.node && t o) opens (each_at own_id opens rise) some in
      let o = row.0 in
      let here : same_id (id_of node) o.node ≡ true = grind (arith, row.2) in
      let test : t o ≡ true = grind (arith, row.2) in
      let same : id_of node ≡ o.node = id_same (id_of node) o.node here in
      let member : in_layer (id_of node) o.id.level o ≡ true = grind (arith, nat_tests, turned (id_of node) o.node, here) in
      let inside : list_any (λ x. in_layer (id_of node) o.id.level x && t x) opens ≡ true = any_found (λ x. same_id o.id x.id) (λ x. in_layer (id_of node) o.id.level x && t x) opens o row.1 (grind (arith, member, test)) in
      let tally = tallied (id_of node) o.id.level in
      let some : 0 < (tally_of opens (id_of node) o.id.level).opens = positive o.id o opens rise row.1 (in_layer (id_of node) o.id.level) member in
      let may_be : may o.id.level (tally_of opens (id_of node) o.id.level) ≡ true = ap (λ n. may o.id.level (tally_of opens n o.id.level)) same ∙ certain o row.1 test in
      by o inside (get layer_cmp tallies.layers (layer_of (id_of node) o.id.level)) refl (subst (λ (x : Tally). 0 < x.opens) (sym tally) some) (ap (may o.id.level) tally ∙ may_be)
    where
      by : (o : Open) → list_any (λ x. in_layer (id_of node) o.id.level x && t x) opens ≡ true → (x : Option Tally) → get layer_cmp tallies.layers (layer_of (id_of node) o.id.level) ≡ x → 0 < (tally_in x).opens → may o.id.level (tally_in x) ≡ true → list_any stops_in tallies.layers.entries ≡ true
      by o inside None is some may_be = absurd (omega (arith, some))
      by o inside (Some v) is some may_be = among_layers stops_in (layer_of (id_of node) o.id.level) v (grind (arith, id_itself (id_of node), inside, may_be)) tallies.layers.entries is

  pub any-layers : list_any stops_in tallies.layers.entries ≡ list_any (λ o. same_id (id_of node) o.node && t o) opens
  any-layers = same_truth _ _ (from_layers tallies.layers.entries) from_all

-- a test of a node's opens that reads the node from the open
pub by_node : (node : Id) (t : Id → Open → Bool) (opens : List Open) → list_any (λ o. same_id node o.node && t o.node o) opens ≡ list_any (λ o. same_id node o.node && t node o) opens
by_node node t [] = refl
by_node node t (o ∷ opens) = (λ i. here i || by_node node t opens i)
  where
    at : (b : Bool) → same_id node o.node ≡ b → (b && t o.node o) ≡ (b && t node o)
    at true is = ap (λ n. t n o) (sym (id_same node o.node is))
    at false is = refl

    here : (same_id node o.node && t o.node o) ≡ (same_id node o.node && t node o)
    here = at (same_id node o.node) refl
