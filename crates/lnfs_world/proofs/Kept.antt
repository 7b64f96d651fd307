-- A change by a subject keeps the facts.
use Rattle.std.proofs.Common.{◌≡◌, ℕ, Bool, true, not, ◌||◌, List, ◌∙◌, ap, arith}
use Rattle.std.specs.Prelude.{filter, is_some}
use Rattle.lnfs_calipso.specs.Label.{IsPreorderWithBottom}
use Rattle.lnfs_world.specs.Rows.{inserted}
use Rattle.lnfs_world.specs.World.{Id, Client, World, client_order, node_order, same_id, client_at, label_at}
use Rattle.lnfs_world.specs.Change.{Change, AddClient, SetClient, DropClient, AddSession, SetSession, DropSession, AddContext, DropContext, Make, Touch, Relabel, Link, Unlink, Drop, Move, AddOpen, SetOpen, EndOpen, apply, touched, relabelled}
use Rattle.lnfs_world.specs.Facts.{Facts, ClientFacts, is_confirmed}
use Rattle.lnfs_world.proofs.Within.{IsWithin}
use Rattle.lnfs_world.proofs.Keys.{id_turned}
use Rattle.lnfs_world.proofs.Nodes.{label_at-touched, label_at-relabelled, label_at-made, label_at-dropped}
use Rattle.lnfs_world.proofs.KeptClients.{client_absent, add_client, set_client, drop_client, confirmed_stay, sessions_stay, sessions_left, add_session, set_session, drop_session, add_context, drop_context}
use Rattle.lnfs_world.proofs.KeptNodes.{touch_node, relabel_node, make_node, link_node, unlink_node, drop_node, move_node}
use Rattle.lnfs_world.proofs.KeptOpens.{opens_stay, opens_left, opens_of_others, opens_of_other_nodes, add_open, set_open}

module _ (dom : ℕ → ℕ → Bool) (lattice : IsPreorderWithBottom dom) (s : ℕ) where
  -- a record that is set, where a confirmed one stays so
  keeps_client : (row : Client) (w : World) (lasts : List Id) → Facts dom w → (row.confirmed || not (is_confirmed (client_at w.clients row.id))) ≡ true → ClientFacts (inserted client_order row w.clients) lasts → Facts dom (record w { clients = inserted client_order row w.clients; lasts = record w.lasts { clients = lasts } })
  keeps_client row w lasts facts stays clients =
      let stay = confirmed_stay row w.clients stays in
      record {
        clients = clients;
        sessions = sessions_stay w.clients (inserted client_order row w.clients) w.sessions w.lasts.sessions stay facts.sessions;
        contexts = facts.contexts;
        nodes = facts.nodes;
        opens = opens_stay dom w.clients (inserted client_order row w.clients) (label_at w.nodes) (label_at w.nodes) w.opens w.lasts.opens stay (λ i is. is) facts.opens;
      }

  pub keeps : (c : Change) (w : World) → Facts dom w → IsWithin dom s w c → Facts dom (apply c w)
  keeps (AddClient row) w facts within =
      let absent = client_absent s w.clients w.lasts.clients facts.clients row.id within.0 in
      keeps_client row w _ facts (grind (arith, absent)) (add_client s w.clients w.lasts.clients row facts.clients within.0 within.1)
  keeps (SetClient row) w facts within = keeps_client row w w.lasts.clients facts within.stays (set_client w.clients w.lasts.clients row facts.clients within.there within.alone)
  keeps (DropClient client) w facts within = record {
    clients = drop_client w.clients w.lasts.clients client facts.clients;
    sessions = sessions_left w.clients w.sessions w.lasts.sessions client facts.sessions;
    contexts = facts.contexts;
    nodes = facts.nodes;
    opens = opens_of_others dom w.clients (label_at w.nodes) w.opens w.lasts.opens client facts.opens;
  }
  keeps (AddSession row) w facts within = record {
    clients = facts.clients;
    sessions = add_session s w.clients w.sessions w.lasts.sessions row facts.sessions within.0 within.1;
    contexts = facts.contexts;
    nodes = facts.nodes;
    opens = facts.opens;
  }
  keeps (SetSession row) w facts within = record {
    clients = facts.clients;
    sessions = set_session w.clients w.sessions w.lasts.sessions row facts.sessions within.there within.behind;
    contexts = facts.contexts;
    nodes = facts.nodes;
    opens = facts.opens;
  }
  keeps (DropSession session) w facts within = record {
    clients = facts.clients;
    sessions = drop_session w.clients w.sessions w.lasts.sessions session facts.sessions;
    contexts = facts.contexts;
    nodes = facts.nodes;
    opens = facts.opens;
  }
  keeps (AddContext row) w facts within = record {
    clients = facts.clients;
    sessions = facts.sessions;
    contexts = add_context s w.contexts w.lasts.contexts row facts.contexts within;
    nodes = facts.nodes;
    opens = facts.opens;
  }
  keeps (DropContext context) w facts within = record {
    clients = facts.clients;
    sessions = facts.sessions;
    contexts = drop_context w.contexts w.lasts.contexts context facts.contexts;
    nodes = facts.nodes;
    opens = facts.opens;
  }
  keeps (Make node entry) w facts within = record {
    clients = facts.clients;
    sessions = facts.sessions;
    contexts = facts.contexts;
    nodes = make_node dom lattice s w node entry facts.nodes within;
    opens = opens_stay dom w.clients w.clients (label_at w.nodes) (label_at (inserted node_order node w.nodes)) w.opens w.lasts.opens (λ l n is. is) (λ i there. grind (arith, label_at-made node i w.nodes)) facts.opens;
  }
  keeps (Touch node inner) w facts within = record {
    clients = facts.clients;
    sessions = facts.sessions;
    contexts = facts.contexts;
    nodes = touch_node dom lattice s w.nodes w.entries w.lasts.nodes node inner facts.nodes within.cookies;
    opens = opens_stay dom w.clients w.clients (label_at w.nodes) (label_at (touched node inner w.nodes)) w.opens w.lasts.opens (λ l n is. is) (λ i there. ap is_some (label_at-touched node inner i w.nodes) ∙ there) facts.opens;
  }
  keeps (Relabel node label inner) w facts within = record {
    clients = facts.clients;
    sessions = facts.sessions;
    contexts = facts.contexts;
    nodes = relabel_node dom lattice s w w.lasts.nodes node label inner facts.nodes within;
    opens = opens_stay dom w.clients w.clients (label_at w.nodes) (label_at (relabelled node label inner w.nodes)) w.opens w.lasts.opens (λ l n is. is) (λ i there. grind (arith, label_at-relabelled node label inner i w.nodes)) facts.opens;
  }
  keeps (Link entry) w facts within = record {
    clients = facts.clients;
    sessions = facts.sessions;
    contexts = facts.contexts;
    nodes = link_node dom lattice s w w.lasts.nodes entry facts.nodes within;
    opens = facts.opens;
  }
  keeps (Unlink entry) w facts within = record {
    clients = facts.clients;
    sessions = facts.sessions;
    contexts = facts.contexts;
    nodes = unlink_node dom lattice s w w.lasts.nodes entry facts.nodes within;
    opens = facts.opens;
  }
  keeps (Drop entry) w facts within = record {
    clients = facts.clients;
    sessions = facts.sessions;
    contexts = facts.contexts;
    nodes = drop_node dom lattice s w w.lasts.nodes entry facts.nodes within;
    opens = opens_of_other_nodes dom w.clients (label_at w.nodes) (label_at (filter (λ n. not (same_id entry.node n.id)) w.nodes)) w.opens w.lasts.opens entry.node (λ i apart there. grind (arith, label_at-dropped entry.node i w.nodes, id_turned entry.node i)) facts.opens;
  }
  keeps (Move entry other) w facts within = record {
    clients = facts.clients;
    sessions = facts.sessions;
    contexts = facts.contexts;
    nodes = move_node dom lattice s w entry other facts within;
    opens = facts.opens;
  }
  keeps (AddOpen row) w facts within = record {
    clients = facts.clients;
    sessions = facts.sessions;
    contexts = facts.contexts;
    nodes = facts.nodes;
    opens =
        let new = within.new in
        let own = new.own in
        let home = within.home in
        let node = within.node in
        add_open dom s w.clients (label_at w.nodes) w.opens w.lasts.opens row facts.opens new within.behind (grind arith) within.alone;
  }
  keeps (SetOpen row) w facts within = record {
    clients = facts.clients;
    sessions = facts.sessions;
    contexts = facts.contexts;
    nodes = facts.nodes;
    opens = set_open dom w.clients (label_at w.nodes) w.opens w.lasts.opens row facts.opens within.there within.alone;
  }
  keeps (EndOpen opening) w facts within = record {
    clients = facts.clients;
    sessions = facts.sessions;
    contexts = facts.contexts;
    nodes = facts.nodes;
    opens = opens_left dom w.clients (label_at w.nodes) w.opens w.lasts.opens (λ o. not (same_id opening o.id)) facts.opens;
  }
