-- Changes of opens, and of what is behind them, keep what holds of opens.
use Rattle.std.proofs.Common.{◌≡◌, ℕ, Bool, true, false, not, ◌&&◌, List, Option, sym, ◌∙◌, subst, arith}
use Rattle.std.specs.Prelude.{filter, is_some}
use Rattle.std.specs.List.{AllByRecursion, list_any}
use Rattle.std.proofs.lemmas.Bool.Decides.{nat_tests}
use Rattle.lnfs_world.specs.Rows.{inserted}
use Rattle.lnfs_world.specs.World.{Id, Client, Open, open_order, level_order, same_id, is_given}
use Rattle.lnfs_world.specs.Change.{is_open_of}
use Rattle.lnfs_world.specs.Facts.{OpenFacts, has_confirmed, is_good_open, same_opening}
use Rattle.lnfs_world.specs.Within.{is_same_open}
use Rattle.lnfs_world.proofs.Within.{IsNew}
use Rattle.lnfs_world.proofs.Rows.{all_weaker, all_two, all_filter, all_left, any_row}
use Rattle.lnfs_world.proofs.Sorted.{all_inserted, rising_filter}
use Rattle.lnfs_world.proofs.Apart.{apart_filter}
use Rattle.lnfs_world.proofs.Keys.{id_same, id_turned, bytes_turned}
use Rattle.lnfs_world.proofs.KeptClients.{row_rises, lasts_rise, rows_given, row_apart, confirmed_left}

pub openings_turn : (a b : Open) → same_opening a b ≡ same_opening b a
openings_turn a b = grind (arith, nat_tests, bytes_turned a.owner b.owner, id_turned a.node b.node)

module _ (dom : ℕ → ℕ → Bool) where
  -- other clients, or other labels
  pub opens_stay : (old new : List Client) (before after : Id → Option ℕ) (opens : List Open) (lasts : List Id) → ((level number : ℕ) → has_confirmed old level number ≡ true → has_confirmed new level number ≡ true) → ((i : Id) → is_some (before i) ≡ true → is_some (after i) ≡ true) → OpenFacts dom old before opens lasts → OpenFacts dom new after opens lasts
  opens_stay old new before after opens lasts clients labels facts = record {
    rise = facts.rise;
    lasts_rise = facts.lasts_rise;
    given = facts.given;
    behind = all_weaker _ _ (λ o was. clients o.id.level o.client was) opens facts.behind;
    nodes = all_weaker _ _ (λ o good. grind (arith, labels o.node)) opens facts.nodes;
    apart = facts.apart;
  }

  -- opens that are left
  pub opens_left : (clients : List Client) (label : Id → Option ℕ) (opens : List Open) (lasts : List Id) (q : Open → Bool) → OpenFacts dom clients label opens lasts → OpenFacts dom clients label (filter q opens) lasts
  opens_left clients label opens lasts q facts = record {
    rise = rising_filter open_order q opens facts.rise;
    lasts_rise = facts.lasts_rise;
    given = all_left _ q opens facts.given;
    behind = all_left _ q opens facts.behind;
    nodes = all_left _ q opens facts.nodes;
    apart = apart_filter same_opening q opens facts.apart;
  }

  pub opens_of_others : (clients : List Client) (label : Id → Option ℕ) (opens : List Open) (lasts : List Id) (client : Id) → OpenFacts dom clients label opens lasts → OpenFacts dom (filter (λ c. not (same_id client c.id)) clients) label (filter (λ o. not (is_open_of client o)) opens) lasts
  opens_of_others clients label opens lasts client facts =
      let left = opens_left clients label opens lasts (λ o. not (is_open_of client o)) facts in
      record {
        rise = left.rise;
        lasts_rise = left.lasts_rise;
        given = left.given;
        behind = all_weaker _ _ (λ o both. confirmed_left client clients o.id.level o.client (grind (arith, both.0)) both.1) _ (all_filter _ (λ o. not (is_open_of client o)) opens facts.behind);
        nodes = left.nodes;
        apart = left.apart;
      }

  pub opens_of_other_nodes : (clients : List Client) (before after : Id → Option ℕ) (opens : List Open) (lasts : List Id) (node : Id) → ((i : Id) → same_id node i ≡ false → is_some (before i) ≡ true → is_some (after i) ≡ true) → OpenFacts dom clients before opens lasts → OpenFacts dom clients after (filter (λ o. not (same_id node o.node)) opens) lasts
  opens_of_other_nodes clients before after opens lasts node labels facts =
      let left = opens_left clients before opens lasts (λ o. not (same_id node o.node)) facts in
      record {
        rise = left.rise;
        lasts_rise = left.lasts_rise;
        given = left.given;
        behind = left.behind;
        nodes = all_weaker _ _ (λ o both. grind (arith, both.0, both.1, labels o.node)) _ (all_filter _ (λ o. not (same_id node o.node)) opens facts.nodes);
        apart = left.apart;
      }

  pub add_open : (s : ℕ) (clients : List Client) (label : Id → Option ℕ) (opens : List Open) (lasts : List Id) (row : Open) → OpenFacts dom clients label opens lasts → IsNew s lasts row.id → has_confirmed clients row.id.level row.client ≡ true → is_good_open dom label row ≡ true → AllByRecursion (λ o. same_opening row o ≡ false) opens → OpenFacts dom clients label (inserted open_order row opens) (inserted level_order row.id lasts)
  add_open s clients label opens lasts row facts new behind good alone = record {
    rise = row_rises (λ o. o.id) row opens facts.rise;
    lasts_rise = lasts_rise row.id lasts facts.lasts_rise;
    given = rows_given (λ o. o.id) s row opens lasts new facts.given;
    behind = all_inserted open_order _ row opens behind facts.behind;
    nodes = all_inserted open_order _ row opens good facts.nodes;
    apart = row_apart same_opening (λ o. o.id) row opens openings_turn facts.rise (all_weaker _ _ (λ o none. grind (arith, none)) opens alone) facts.apart;
  }

  -- another state of an open that is there
  pub set_open : (clients : List Client) (label : Id → Option ℕ) (opens : List Open) (lasts : List Id) (row : Open) → OpenFacts dom clients label opens lasts → list_any (is_same_open row) opens ≡ true → AllByRecursion (λ o. (same_opening row o && not (same_id row.id o.id)) ≡ false) opens → OpenFacts dom clients label (inserted open_order row opens) lasts
  set_open clients label opens lasts row facts there alone =
      let all = all_two _ _ (λ o. (is_given lasts o.id ≡ true) × ((has_confirmed clients o.id.level o.client ≡ true) × (is_good_open dom label o ≡ true))) (λ o g b. (g, b)) opens facts.given (all_two _ _ (λ o. (has_confirmed clients o.id.level o.client ≡ true) × (is_good_open dom label o ≡ true)) (λ o b n. (b, n)) opens facts.behind facts.nodes) in
      let old = any_row _ (is_same_open row) opens all there in
      let same : row.id ≡ old.0.id = id_same row.id old.0.id (grind (arith, old.2)) in
      let node : row.node ≡ old.0.node = id_same row.node old.0.node (grind (arith, old.2)) in
      let client : row.client ≡ old.0.client = grind (arith, nat_tests, old.2) in
      let given : is_given lasts row.id ≡ true = subst (λ i. is_given lasts i ≡ true) (sym same) old.1.0 in
      let behind : has_confirmed clients row.id.level row.client ≡ true = (λ i. has_confirmed clients (same i).level (client i)) ∙ old.1.1.0 in
      let good : is_good_open dom label row ≡ true = (λ i. dom (same i).level (node i).level && is_some (label (node i))) ∙ old.1.1.1 in
      record {
        rise = row_rises (λ o. o.id) row opens facts.rise;
        lasts_rise = facts.lasts_rise;
        given = all_inserted open_order _ row opens given facts.given;
        behind = all_inserted open_order _ row opens behind facts.behind;
        nodes = all_inserted open_order _ row opens good facts.nodes;
        apart = row_apart same_opening (λ o. o.id) row opens openings_turn facts.rise alone facts.apart;
      }
