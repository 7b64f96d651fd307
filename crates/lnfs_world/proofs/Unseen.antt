-- What a level that does not dominate the subject sees stays.
use Rattle.std.proofs.Common.{◌≡◌, ℕ, Bool, false, not, List, Some, refl, sym, ◌∙◌, ap, arith}
use Rattle.std.specs.Prelude.{filter}
use Rattle.std.proofs.lemmas.Bool.Decides.{nat_tests}
use Rattle.lnfs_calipso.specs.Label.{IsPreorderWithBottom}
use Rattle.lnfs_world.specs.Rows.{inserted, kept}
use Rattle.lnfs_world.specs.World.{Id, Inner, Node, Entry, World, id_order, node_order, entry_order, level_order, same_id, label_at}
use Rattle.lnfs_world.specs.Erased.{sees, erased, lasts_seen}
use Rattle.lnfs_world.specs.Tree.{same_entry}
use Rattle.lnfs_world.specs.Change.{Change, AddClient, SetClient, DropClient, AddSession, SetSession, DropSession, AddContext, DropContext, Make, Touch, Relabel, Link, Unlink, Drop, Move, AddOpen, SetOpen, EndOpen, apply, touched, without_entry, is_session_of, is_open_of}
use Rattle.lnfs_world.specs.Facts.{Facts}
use Rattle.lnfs_world.proofs.Within.{IsWithin}
use Rattle.lnfs_world.proofs.Rows.{updated_same, updated_unseen, filter_unseen, all_anyway, all_weaker}
use Rattle.lnfs_world.proofs.Sorted.{inserted_unseen}
use Rattle.lnfs_world.proofs.Keys.{id_equal, id_same, level_same, level_equal, entry_place}
use Rattle.lnfs_world.proofs.Nodes.{label_at-touched, label_at-relabelled, label_at-made, label_at-dropped, nodes_seen, node_of_label}
use Rattle.lnfs_world.proofs.Determined.{world_same, lasts_same, entries_agree}

module _ (dom : ℕ → ℕ → Bool) (lattice : IsPreorderWithBottom dom) (level s : ℕ) (apart : dom level s ≡ false) where
  own_hidden : (i : Id) → i.level ≡ s → dom level i.level ≡ false
  own_hidden i own = ap (dom level) own ∙ apart

  -- a row of the subject's level that is set
  row_unseen : {X : Type 0} (key : X → Id) (row : X) (xs : List X) → (key row).level ≡ s → kept (λ x. dom level (key x).level) (λ x. x) (inserted (λ a b. id_order (key a) (key b)) row xs) ≡ kept (λ x. dom level (key x).level) (λ x. x) xs
  row_unseen key row xs own = inserted_unseen (λ a b. id_order (key a) (key b)) _ _ row (λ x e. level_same dom level (key row) (key x) (id_equal (key row) (key x) e)) (own_hidden (key row) own) xs

  last_unseen : (i : Id) (lasts : List Id) → i.level ≡ s → lasts_seen dom level (inserted level_order i lasts) ≡ lasts_seen dom level lasts
  last_unseen i lasts own = inserted_unseen level_order _ _ i (λ x e. ap (dom level) (sym (level_equal i x e))) (own_hidden i own) lasts

  -- rows of the subject's level that go
  rows_stay : {X : Type 0} (key : X → Id) (q : X → Bool) (xs : List X) → ((x : X) → q x ≡ false → (key x).level ≡ s) → kept (λ x. dom level (key x).level) (λ x. x) (filter q xs) ≡ kept (λ x. dom level (key x).level) (λ x. x) xs
  rows_stay key q xs own = filter_unseen _ _ q xs (all_anyway _ (λ x. grind (arith, own x, own_hidden (key x))) xs)

  own_unseen : (i : Id) (nodes : List Node) → label_at nodes i ≡ Some s → sees dom level nodes i ≡ false
  own_unseen i nodes own = grind arith

  nodes_touched : (i : Id) (inner : Inner) (nodes : List Node) → label_at nodes i ≡ Some s → nodes_seen dom level (touched i inner nodes) ≡ nodes_seen dom level nodes
  nodes_touched i inner nodes own =
      let (n, found, label) = node_of_label dom i s nodes own in
      updated_same _ _ (λ n. same_id i n.id) (λ n. record n { inner = inner }) n refl (grind arith) nodes found

  -- entries of a directory whose label is the subject's level
  entry_unseen : (nodes : List Node) (entry : Entry) (entries : List Entry) → sees dom level nodes entry.directory ≡ false → kept (λ e. sees dom level nodes e.directory) (λ e. e) (inserted entry_order entry entries) ≡ kept (λ e. sees dom level nodes e.directory) (λ e. e) entries
  entry_unseen nodes entry entries hidden = inserted_unseen entry_order _ _ entry (λ x tie. ap (sees dom level nodes) (sym (entry_place entry x tie).0)) hidden entries

  entries_stay : (nodes : List Node) (entry : Entry) (entries : List Entry) → label_at nodes entry.directory ≡ Some s → kept (λ e. sees dom level nodes e.directory) (λ e. e) (without_entry entry entries) ≡ kept (λ e. sees dom level nodes e.directory) (λ e. e) entries
  entries_stay nodes entry entries own = filter_unseen _ _ (λ e. not (same_entry entry e)) entries (all_anyway _ (λ e. grind (arith, nat_tests, own_unseen entry.directory nodes own, id_same entry.directory e.directory)) entries)

  -- sees nothing of a new node, in which there is nothing yet
  made_unseen : (node : Node) (nodes : List Node) (d : Id) → node.id.level ≡ s → sees dom level (inserted node_order node nodes) d ≡ sees dom level nodes d
  made_unseen node nodes d home = grind (arith, nat_tests, label_at-made node d nodes)

  pub stays : (c : Change) (w : World) → Facts dom w → IsWithin dom s w c → erased dom level (apply c w) ≡ erased dom level w
  stays (AddClient row) w facts within = world_same _ _ (row_unseen (λ c. c.id) row w.clients within.0.own) refl refl refl refl refl (lasts_same _ _ (last_unseen row.id w.lasts.clients within.0.own) refl refl refl refl)
  stays (SetClient row) w facts within = world_same _ _ (row_unseen (λ c. c.id) row w.clients within.own) refl refl refl refl refl refl
  stays (DropClient client) w facts within = world_same _ _
      (rows_stay (λ c. c.id) (λ c. not (same_id client c.id)) w.clients (λ c gone. grind (arith, nat_tests)))
      (rows_stay (λ x. x.id) (λ x. not (is_session_of client x)) w.sessions (λ x gone. grind (arith, nat_tests)))
      refl refl refl
      (rows_stay (λ o. o.id) (λ o. not (is_open_of client o)) w.opens (λ o gone. grind (arith, nat_tests)))
      refl
  stays (AddSession row) w facts within = world_same _ _ refl (row_unseen (λ x. x.id) row w.sessions within.0.own) refl refl refl refl (lasts_same _ _ refl (last_unseen row.id w.lasts.sessions within.0.own) refl refl refl)
  stays (SetSession row) w facts within = world_same _ _ refl (row_unseen (λ x. x.id) row w.sessions within.own) refl refl refl refl refl
  stays (DropSession session) w facts within = world_same _ _ refl (rows_stay (λ x. x.id) (λ x. not (same_id session x.id)) w.sessions (λ x gone. grind (arith, nat_tests))) refl refl refl refl refl
  stays (AddContext row) w facts within = world_same _ _ refl refl (row_unseen (λ x. x.id) row w.contexts within.own) refl refl refl (lasts_same _ _ refl refl (last_unseen row.id w.lasts.contexts within.own) refl refl)
  stays (DropContext context) w facts within = world_same _ _ refl refl (rows_stay (λ x. x.id) (λ x. not (same_id context x.id)) w.contexts (λ x gone. grind (arith, nat_tests))) refl refl refl refl
  stays (Make node entry) w facts within =
      let hidden : sees dom level (inserted node_order node w.nodes) entry.directory ≡ false = made_unseen node w.nodes entry.directory within.new.own ∙ own_unseen entry.directory w.nodes within.adds.own in
      world_same _ _ refl refl refl
      (inserted_unseen node_order _ _ node (λ x e. level_same dom level node.id x.id (id_equal node.id x.id e)) (own_hidden node.id within.new.own) w.nodes)
      (entry_unseen (inserted node_order node w.nodes) entry w.entries hidden ∙ entries_agree dom level _ _ (λ d. made_unseen node w.nodes d within.new.own) w.entries)
      refl
      (lasts_same _ _ refl refl refl (last_unseen node.id w.lasts.nodes within.new.own) refl)
  stays (Touch i inner) w facts within = world_same _ _ refl refl refl
      (nodes_touched i inner w.nodes within.own)
      (entries_agree dom level _ _ (λ d. grind (arith, label_at-touched i inner d w.nodes)) w.entries)
      refl refl
  stays (Relabel i label inner) w facts within = world_same _ _ refl refl refl
      (updated_unseen _ _ (λ n. same_id i n.id) (λ n. record n { label = label; inner = inner }) (λ n. refl) (λ n e. level_same dom level i n.id e ∙ own_hidden i within.home) w.nodes)
      (entries_agree dom level _ _ (λ d. let home = within.home in grind (arith, nat_tests, label_at-relabelled i label inner d w.nodes)) w.entries)
      refl refl
  stays (Link entry) w facts within = world_same _ _ refl refl refl refl (entry_unseen w.nodes entry w.entries (own_unseen entry.directory w.nodes within.adds.own)) refl refl
  stays (Unlink entry) w facts within = world_same _ _ refl refl refl refl (entries_stay w.nodes entry w.entries within.directory) refl refl
  stays (Drop entry) w facts within =
      let home = within.home in
      world_same _ _ refl refl refl
      (filter_unseen _ _ (λ n. not (same_id entry.node n.id)) w.nodes (all_anyway _ (λ n. grind (arith, nat_tests)) w.nodes))
      (entries_agree dom level _ _ (λ d. grind (arith, nat_tests, label_at-dropped entry.node d w.nodes)) (without_entry entry w.entries) ∙ entries_stay w.nodes entry w.entries within.directory)
      (filter_unseen _ _ (λ o. not (same_id entry.node o.node)) w.opens (all_weaker _ _ (λ o good. grind (arith, nat_tests, lattice.transitive level o.id.level s)) w.opens facts.opens.nodes))
      refl
  stays (Move entry other) w facts within = world_same _ _ refl refl refl refl
      (entry_unseen w.nodes other (without_entry entry w.entries) (own_unseen other.directory w.nodes within.adds.own) ∙ entries_stay w.nodes entry w.entries within.from)
      refl refl
  stays (AddOpen row) w facts within = world_same _ _ refl refl refl refl refl (row_unseen (λ o. o.id) row w.opens within.new.own) (lasts_same _ _ refl refl refl refl (last_unseen row.id w.lasts.opens within.new.own))
  stays (SetOpen row) w facts within = world_same _ _ refl refl refl refl refl (row_unseen (λ o. o.id) row w.opens within.own) refl
  stays (EndOpen opening) w facts within = world_same _ _ refl refl refl refl refl (rows_stay (λ o. o.id) (λ o. not (same_id opening o.id)) w.opens (λ o gone. grind (arith, nat_tests))) refl
