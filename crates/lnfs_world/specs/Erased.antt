-- What a level sees of a world: the rows of the levels that it dominates, the nodes whose home it
-- dominates, and the names in directories whose label it dominates.
use Rattle.std.specs.Prelude.{ℕ, Bool, false, cond, ◌&&◌, List, [], Option, Some, None}
use Rattle.lnfs_world.specs.Rows.{kept}
use Rattle.lnfs_world.specs.World.{Id, Kind, Inner, Node, World, label_at}

abbrev pub dominates_label : (ℕ → ℕ → Bool) → ℕ → Option ℕ → Bool
dominates_label dom level None = false
dominates_label dom level (Some label) = dom level label

-- Whether a level sees what a node holds. A node's label dominates its home, so the second test
-- implies the first.
abbrev pub sees : (ℕ → ℕ → Bool) → ℕ → List Node → Id → Bool
sees dom level nodes i = dom level i.level && dominates_label dom level (label_at nodes i)

abbrev pub blank : Inner
blank = record {
  stored = None;
  mode = 0;
  content = [];
  change = 0;
  accessed = record { secs = 0; nanos = 0 };
  metadata = record { secs = 0; nanos = 0 };
  modified = record { secs = 0; nanos = 0 };
  cookies = 0;
}

-- A node whose label isn't dominated shows its identifier, kind, label and verifier alone.
abbrev pub shrunk : (ℕ → ℕ → Bool) → ℕ → Node → Node
shrunk dom level n = record n { inner = cond (dom level n.label) n.inner blank }

-- what of a node every level sees that dominates its home
pub record Outer : Type 0 where
  pub kind : Kind
  pub label : ℕ
  pub verifier : Option (List ℕ)

abbrev pub outer_of : Node → Outer
outer_of n = record { kind = n.kind; label = n.label; verifier = n.verifier }

abbrev pub lasts_seen : (ℕ → ℕ → Bool) → ℕ → List Id → List Id
lasts_seen dom level lasts = kept (λ i. dom level i.level) (λ i. i) lasts

abbrev pub erased : (ℕ → ℕ → Bool) → ℕ → World → World
erased dom level w = record {
  clients = kept (λ c. dom level c.id.level) (λ c. c) w.clients;
  sessions = kept (λ x. dom level x.id.level) (λ x. x) w.sessions;
  contexts = kept (λ x. dom level x.id.level) (λ x. x) w.contexts;
  nodes = kept (λ n. dom level n.id.level) (shrunk dom level) w.nodes;
  entries = kept (λ e. sees dom level w.nodes e.directory) (λ e. e) w.entries;
  opens = kept (λ o. dom level o.id.level) (λ o. o) w.opens;
  lasts = record {
    clients = lasts_seen dom level w.lasts.clients;
    sessions = lasts_seen dom level w.lasts.sessions;
    contexts = lasts_seen dom level w.lasts.contexts;
    nodes = lasts_seen dom level w.lasts.nodes;
    opens = lasts_seen dom level w.lasts.opens;
  };
}
