-- The opens that stay where a client goes.
use Rattle.std.proofs.Common.{◌≡◌, ℕ, false, List, ◌++◌, Option, Some, None, refl, arith}
use Rattle.std.specs.Prelude.{find}
use Rattle.std.specs.List.{list_any}
use Rattle.std.specs.Option.{option_map}
use Rattle.lnfs_world.specs.World.{Client, Open, World, client_at}
use Rattle.lnfs_world.specs.Change.{Change, DropClient, apply, apply_all, is_open_of}
use Rattle.lnfs_world.proofs.Rows.{all_none, all_weaker, all_find, all_anyway}
use Rattle.lnfs_world.proofs.Views.{found_by_id}
use Rattle.lnfs_operations.specs.ExchangeId.{is_pending, dropped}
use Rattle.lnfs_counts.proofs.Rows.{none_filtered}
use Rattle.lnfs_operations.proofs.ExchangeIdLaws.{other_client}
use Rattle.lnfs_engine.specs.Stores.{opens_left}
use Rattle.lnfs_engine.specs.Behind.{OpensBehind}

-- a client goes, if one does, before changes that leave opens
pub dropped_opens : (o : Option Client) (cs : List Change) (w : World) → ((v : World) → (apply_all cs v).opens ≡ v.opens) → (apply_all (dropped o ++ cs) w).opens ≡ opens_left (option_map (λ (c : Client). c.id) o) w.opens
dropped_opens None cs w stay = stay w
dropped_opens (Some c) cs w stay = stay (apply (DropClient c.id) w)

module _ (clients : List Client) (opens : List Open) (behind : OpensBehind clients opens) where
  -- no open is of a client that isn't confirmed
  none_pending : (level : ℕ) (owner : List ℕ) (c : Client) → find (is_pending level owner) clients ≡ Some c → list_any (is_open_of c.id) opens ≡ false
  none_pending level owner c found =
      let pending = (all_find (λ c. Unit {0}) (is_pending level owner) clients c (all_anyway _ (λ c. tt) clients) found).1 in
      let unconfirmed : c.confirmed ≡ false = grind (arith, pending) in
      let there : client_at clients c.id ≡ Some c = found_by_id (λ c. c.id) (is_pending level owner) clients c behind.rise found in
      all_none (is_open_of c.id) opens (all_weaker _ _ (λ o known. other_client clients c there unconfirmed o.id.level o.client known) opens behind.behind)

  pub pending_left : (level : ℕ) (owner : List ℕ) (o : Option Client) → find (is_pending level owner) clients ≡ o → opens_left (option_map (λ (c : Client). c.id) o) opens ≡ opens
  pending_left level owner None found = refl
  pending_left level owner (Some c) found = none_filtered (is_open_of c.id) opens (none_pending level owner c found)
