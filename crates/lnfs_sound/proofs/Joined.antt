-- All lists of a world together.
use Rattle.std.proofs.Common.{◌≡◌, ◌&&◌, List, [], ◌∷◌, refl, sym, ap, ◌∙◌, map, arith}
use Rattle.std.specs.Prelude.{is_some}
use Rattle.lnfs_world.specs.World.{Id as RowId, Node, Open, label_at}
use Rattle.lnfs_world.specs.Facts.{is_good_open}
use Rattle.lnfs_world.specs.Outcome.{Site}
use Rattle.lnfs_world.proofs.Rows.{all_weaker}
use Rattle.lnfs_operations.specs.Bounds.{IsSound}
use Rattle.lnfs_rows.specs.declared.numbers.Id.{Id}
use Rattle.lnfs_rows.specs.declared.lists.Lists.{Lists}
use Rattle.lnfs_rows.specs.World.{world_of}
use Rattle.lnfs_decide.proofs.LastNumbers.{given_rise}
use Rattle.lnfs_fit.specs.Fits.{AreFit}
use Rattle.lnfs_fit.specs.RowsOf.{ids_of, AreIdsOf}
use Rattle.lnfs_sound.specs.Parts.{is_among, has_node, AreClients, AreSessions, AreContexts, AreOpens}

among_labelled : (nodes : List Node) (i : RowId) → is_among (map (λ n. n.id) nodes) i ≡ is_some (label_at nodes i)
among_labelled [] i = refl
among_labelled (n ∷ nodes) i = grind (arith, among_labelled nodes i)

module _ (site : Site) (lists : Lists) (node_ids : List Id) (are : AreIdsOf (λ n. n.id) (world_of lists).nodes node_ids) where
  node_told : (o : Open) → has_node site.dom (ids_of node_ids) o.id o.node ≡ is_good_open site.dom (label_at (world_of lists).nodes) o
  node_told o =
      let told : is_among (ids_of node_ids) o.node ≡ is_some (label_at (world_of lists).nodes o.node) = ap (λ is. is_among is o.node) are ∙ among_labelled (world_of lists).nodes o.node in
      ap (λ b. site.dom o.id.level o.node.level && b) told

  pub sound : AreClients site lists.lasts.clients.items (world_of lists).clients → AreSessions site (world_of lists).clients lists.lasts.sessions.items (world_of lists).sessions → AreContexts site lists.lasts.contexts.items (world_of lists).contexts → AreFit site lists.lasts.nodes.items (world_of lists).nodes (world_of lists).entries → AreOpens site (world_of lists).clients (ids_of node_ids) lists.lasts.opens.items (world_of lists).opens → IsSound site (world_of lists)
  sound clients sessions contexts nodes opens = record {
    facts = record {
      clients = clients.facts;
      sessions = sessions.facts;
      contexts = contexts.facts;
      nodes = nodes.facts;
      opens = record {
        rise = opens.rise;
        lasts_rise = given_rise lists.lasts.opens.items;
        given = opens.given;
        behind = opens.others.behind;
        nodes = all_weaker _ _ (λ o there. sym (node_told o) ∙ there) (world_of lists).opens opens.others.nodes;
        apart = opens.others.apart;
      };
    };
    bounds = record {
      sizes = record { sessions = sessions.sizes; clients = clients.sizes; nodes = nodes.sizes };
      rows = record {
        clients = clients.bounds;
        sessions = sessions.bounds;
        contexts = contexts.bounds;
        nodes = nodes.bounds;
        entries = nodes.entry_bounds;
        opens = opens.bounds;
        lasts = record {
          clients = clients.lasts;
          sessions = sessions.lasts;
          contexts = contexts.lasts;
          nodes = nodes.lasts;
          opens = opens.lasts;
        };
      };
      counts = record { clients = clients.few; sessions = sessions.few; opens = opens.few; names = nodes.names };
    };
  }

  module _ (is : IsSound site (world_of lists)) where
    pub clients_of_sound : AreClients site lists.lasts.clients.items (world_of lists).clients
    clients_of_sound = record { facts = is.facts.clients; sizes = is.bounds.sizes.clients; bounds = is.bounds.rows.clients; lasts = is.bounds.rows.lasts.clients; few = is.bounds.counts.clients }

    pub sessions_of_sound : AreSessions site (world_of lists).clients lists.lasts.sessions.items (world_of lists).sessions
    sessions_of_sound = record { facts = is.facts.sessions; sizes = is.bounds.sizes.sessions; bounds = is.bounds.rows.sessions; lasts = is.bounds.rows.lasts.sessions; few = is.bounds.counts.sessions }

    pub contexts_of_sound : AreContexts site lists.lasts.contexts.items (world_of lists).contexts
    contexts_of_sound = record { facts = is.facts.contexts; bounds = is.bounds.rows.contexts; lasts = is.bounds.rows.lasts.contexts }

    pub nodes_of_sound : AreFit site lists.lasts.nodes.items (world_of lists).nodes (world_of lists).entries
    nodes_of_sound = record { facts = is.facts.nodes; sizes = is.bounds.sizes.nodes; bounds = is.bounds.rows.nodes; entry_bounds = is.bounds.rows.entries; names = is.bounds.counts.names; lasts = is.bounds.rows.lasts.nodes }

    pub opens_of_sound : AreOpens site (world_of lists).clients (ids_of node_ids) lists.lasts.opens.items (world_of lists).opens
    opens_of_sound = record {
      rise = is.facts.opens.rise;
      given = is.facts.opens.given;
      others = record {
        behind = is.facts.opens.behind;
        nodes = all_weaker _ _ (λ o there. node_told o ∙ there) (world_of lists).opens is.facts.opens.nodes;
        apart = is.facts.opens.apart;
      };
      bounds = is.bounds.rows.opens;
      lasts = is.bounds.rows.lasts.opens;
      few = is.bounds.counts.opens;
    }
