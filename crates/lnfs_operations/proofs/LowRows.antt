-- Where labels are carried alone all rows stay of level 0: what a subject of level 0 may change, with labels that are given of
-- level 0.
use Rattle.std.proofs.Common.{◌≡◌, ℕ, Bool, List, [], ◌∷◌, ◌++◌, refl, sym, subst}
use Rattle.std.specs.List.{AllByRecursion}
use Rattle.lnfs_world.specs.World.{Id, Client, Session, Context, Node, Open, World, client_order, session_order, context_order, node_order, open_order, level_order}
use Rattle.lnfs_world.specs.Rows.{inserted}
use Rattle.lnfs_world.specs.Change.{Change, AddClient, SetClient, DropClient, AddSession, SetSession, DropSession, AddContext, DropContext, Make, Touch, Relabel, Link, Unlink, Drop, Move, AddOpen, SetOpen, EndOpen, apply, apply_all}
use Rattle.lnfs_world.specs.Opens.{ended}
use Rattle.lnfs_world.proofs.Rows.{all_left, all_updated}
use Rattle.lnfs_world.proofs.Sorted.{all_inserted}
use Rattle.lnfs_world.proofs.Within.{IsWithin, AllWithin}
use Rattle.lnfs_operations.specs.Carried.{LastsLow, AllLow}

abbrev IsLowNode : Node → Type 0
IsLowNode n = (n.id.level ≡ 0) × (n.label ≡ 0)

-- the label that a change gives to a node
abbrev pub GivesLow : Change → Type 0
GivesLow (Make node entry) = node.label ≡ 0
GivesLow (Relabel node label inner) = label ≡ 0
GivesLow c = Unit {0}

abbrev pub AllGiveLow : List Change → Type 0
AllGiveLow [] = Unit {0}
AllGiveLow (c ∷ cs) = GivesLow c × AllGiveLow cs

-- ---- rows of a kind, and the last of their numbers

module _ (w : World) (low : AllLow w) where
  low_clients : (clients : List Client) (lasts : List Id) → AllByRecursion (λ c. c.id.level ≡ 0) clients → AllByRecursion (λ i. i.level ≡ 0) lasts → AllLow (record w { clients = clients; lasts = record w.lasts { clients = lasts } })
  low_clients clients lasts rows last = record {
    clients = rows;
    sessions = low.sessions;
    contexts = low.contexts;
    nodes = low.nodes;
    opens = low.opens;
    lasts = record { clients = last; sessions = low.lasts.sessions; contexts = low.lasts.contexts; nodes = low.lasts.nodes; opens = low.lasts.opens };
  }

  low_sessions : (sessions : List Session) (lasts : List Id) → AllByRecursion (λ x. x.id.level ≡ 0) sessions → AllByRecursion (λ i. i.level ≡ 0) lasts → AllLow (record w { sessions = sessions; lasts = record w.lasts { sessions = lasts } })
  low_sessions sessions lasts rows last = record {
    clients = low.clients;
    sessions = rows;
    contexts = low.contexts;
    nodes = low.nodes;
    opens = low.opens;
    lasts = record { clients = low.lasts.clients; sessions = last; contexts = low.lasts.contexts; nodes = low.lasts.nodes; opens = low.lasts.opens };
  }

  low_contexts : (contexts : List Context) (lasts : List Id) → AllByRecursion (λ x. x.id.level ≡ 0) contexts → AllByRecursion (λ i. i.level ≡ 0) lasts → AllLow (record w { contexts = contexts; lasts = record w.lasts { contexts = lasts } })
  low_contexts contexts lasts rows last = record {
    clients = low.clients;
    sessions = low.sessions;
    contexts = rows;
    nodes = low.nodes;
    opens = low.opens;
    lasts = record { clients = low.lasts.clients; sessions = low.lasts.sessions; contexts = last; nodes = low.lasts.nodes; opens = low.lasts.opens };
  }

  low_nodes : (nodes : List Node) (lasts : List Id) → AllByRecursion IsLowNode nodes → AllByRecursion (λ i. i.level ≡ 0) lasts → AllLow (record w { nodes = nodes; lasts = record w.lasts { nodes = lasts } })
  low_nodes nodes lasts rows last = record {
    clients = low.clients;
    sessions = low.sessions;
    contexts = low.contexts;
    nodes = rows;
    opens = low.opens;
    lasts = record { clients = low.lasts.clients; sessions = low.lasts.sessions; contexts = low.lasts.contexts; nodes = last; opens = low.lasts.opens };
  }

  low_opens : (opens : List Open) (lasts : List Id) → AllByRecursion (λ o. o.id.level ≡ 0) opens → AllByRecursion (λ i. i.level ≡ 0) lasts → AllLow (record w { opens = opens; lasts = record w.lasts { opens = lasts } })
  low_opens opens lasts rows last = record {
    clients = low.clients;
    sessions = low.sessions;
    contexts = low.contexts;
    nodes = low.nodes;
    opens = rows;
    lasts = record { clients = low.lasts.clients; sessions = low.lasts.sessions; contexts = low.lasts.contexts; nodes = low.lasts.nodes; opens = last };
  }

-- other names, and other rows of some kinds that go with a row
low_with : (w v : World) → AllLow w → v.lasts ≡ w.lasts → AllByRecursion (λ c. c.id.level ≡ 0) v.clients → AllByRecursion (λ x. x.id.level ≡ 0) v.sessions → v.contexts ≡ w.contexts → AllByRecursion IsLowNode v.nodes → AllByRecursion (λ o. o.id.level ≡ 0) v.opens → AllLow v
low_with w v low lasts clients sessions contexts nodes opens = record {
  clients = clients;
  sessions = sessions;
  contexts = subst (AllByRecursion (λ (x : Context). x.id.level ≡ 0)) (sym contexts) low.contexts;
  nodes = nodes;
  opens = opens;
  lasts = subst LastsLow (sym lasts) low.lasts;
}

-- ---- a change

last_low : (i : Id) (lasts : List Id) → i.level ≡ 0 → AllByRecursion (λ i. i.level ≡ 0) lasts → AllByRecursion (λ i. i.level ≡ 0) (inserted level_order i lasts)
last_low i lasts own all = all_inserted level_order (λ i. i.level ≡ 0) i lasts own all

module _ (dom : ℕ → ℕ → Bool) where
  low_change : (c : Change) (w : World) → IsWithin dom 0 w c → GivesLow c → AllLow w → AllLow (apply c w)
  low_change (AddClient row) w within given low = low_clients w low _ _ (all_inserted client_order (λ c. c.id.level ≡ 0) row w.clients within.0.own low.clients) (last_low row.id w.lasts.clients within.0.own low.lasts.clients)
  low_change (SetClient row) w within given low = low_clients w low _ w.lasts.clients (all_inserted client_order (λ c. c.id.level ≡ 0) row w.clients within.own low.clients) low.lasts.clients
  low_change (DropClient client) w within given low =
      low_with w _ low refl (all_left (λ (c : Client). c.id.level ≡ 0) _ w.clients low.clients) (all_left (λ (x : Session). x.id.level ≡ 0) _ w.sessions low.sessions) refl low.nodes (all_left (λ (o : Open). o.id.level ≡ 0) _ w.opens low.opens)
  low_change (AddSession row) w within given low = low_sessions w low _ _ (all_inserted session_order (λ x. x.id.level ≡ 0) row w.sessions within.0.own low.sessions) (last_low row.id w.lasts.sessions within.0.own low.lasts.sessions)
  low_change (SetSession row) w within given low = low_sessions w low _ w.lasts.sessions (all_inserted session_order (λ x. x.id.level ≡ 0) row w.sessions within.own low.sessions) low.lasts.sessions
  low_change (DropSession session) w within given low = low_sessions w low _ w.lasts.sessions (all_left (λ (x : Session). x.id.level ≡ 0) _ w.sessions low.sessions) low.lasts.sessions
  low_change (AddContext row) w within given low = low_contexts w low _ _ (all_inserted context_order (λ x. x.id.level ≡ 0) row w.contexts within.own low.contexts) (last_low row.id w.lasts.contexts within.own low.lasts.contexts)
  low_change (DropContext context) w within given low = low_contexts w low _ w.lasts.contexts (all_left (λ (x : Context). x.id.level ≡ 0) _ w.contexts low.contexts) low.lasts.contexts
  low_change (Make node entry) w within given low =
      low_with (record w { nodes = inserted node_order node w.nodes; lasts = record w.lasts { nodes = inserted level_order node.id w.lasts.nodes } }) _
      (low_nodes w low _ _ (all_inserted node_order IsLowNode node w.nodes (within.new.own, given) low.nodes) (last_low node.id w.lasts.nodes within.new.own low.lasts.nodes))
      refl low.clients low.sessions refl (all_inserted node_order IsLowNode node w.nodes (within.new.own, given) low.nodes) low.opens
  low_change (Touch node inner) w within given low = low_nodes w low _ w.lasts.nodes (all_updated IsLowNode _ _ w.nodes (λ n is own. own) low.nodes) low.lasts.nodes
  low_change (Relabel node label inner) w within given low = low_nodes w low _ w.lasts.nodes (all_updated IsLowNode _ _ w.nodes (λ n is own. (own.0, given)) low.nodes) low.lasts.nodes
  low_change (Link entry) w within given low = low_with w _ low refl low.clients low.sessions refl low.nodes low.opens
  low_change (Unlink entry) w within given low = low_with w _ low refl low.clients low.sessions refl low.nodes low.opens
  low_change (Drop entry) w within given low = low_with w _ low refl low.clients low.sessions refl (all_left IsLowNode _ w.nodes low.nodes) (all_left (λ (o : Open). o.id.level ≡ 0) _ w.opens low.opens)
  low_change (Move entry other) w within given low = low_with w _ low refl low.clients low.sessions refl low.nodes low.opens
  low_change (AddOpen row) w within given low = low_opens w low _ _ (all_inserted open_order (λ o. o.id.level ≡ 0) row w.opens within.new.own low.opens) (last_low row.id w.lasts.opens within.new.own low.lasts.opens)
  low_change (SetOpen row) w within given low = low_opens w low _ w.lasts.opens (all_inserted open_order (λ o. o.id.level ≡ 0) row w.opens within.own low.opens) low.lasts.opens
  low_change (EndOpen opening) w within given low = low_opens w low _ w.lasts.opens (all_left (λ (o : Open). o.id.level ≡ 0) _ w.opens low.opens) low.lasts.opens

  pub low_changes : (cs : List Change) (w : World) → AllWithin dom 0 w cs → AllGiveLow cs → AllLow w → AllLow (apply_all cs w)
  low_changes [] w within given low = low
  low_changes (c ∷ cs) w within given low = low_changes cs (apply c w) within.1 given.1 (low_change c w within.0 given.0 low)

-- ---- lists of changes

pub joined_low : (first then : List Change) → AllGiveLow first → AllGiveLow then → AllGiveLow (first ++ then)
joined_low [] then a b = b
joined_low (c ∷ first) then a b = (a.0, joined_low first then a.1 b)

pub ended_low : (opens : List Open) → AllGiveLow (ended opens)
ended_low [] = tt
ended_low (o ∷ opens) = (tt, ended_low opens)
