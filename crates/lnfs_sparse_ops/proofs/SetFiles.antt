-- What is set of files, their data or their time of access, one after the other. All else of a world stays.
use Rattle.std.proofs.Common.{◌≡◌, ◌≤◌, ℕ, Bool, true, false, cond, ◌&&◌, List, [], ◌∷◌, ◌++◌, length, Option, Some, refl, sym, ap, subst, ◌∙◌, arith}
use Rattle.std.specs.Prelude.{◌==◌, IfSome, nat_le}
use Rattle.std.specs.Option.{option_map}
use Rattle.std.proofs.lemmas.Bool.{false≢true}
use Rattle.std.proofs.lemmas.Bool.Decides.{nat_tests}
use Rattle.lnfs_types.specs.declared.limits.TheConstants.{LABEL_LIMIT}
use Rattle.lnfs_calipso.specs.Label.{IsPreorderWithBottom}
use Rattle.lnfs_world.specs.World.{Id, Stored, Inner, Node, Lasts, World, same_id, node_at, label_at}
use Rattle.lnfs_world.specs.Change.{Change, Touch, touched, apply, apply_all}
use Rattle.lnfs_world.specs.Facts.{Facts}
use Rattle.lnfs_world.specs.Within.{is_within, all_within}
use Rattle.lnfs_world.specs.Outcome.{Site}
use Rattle.lnfs_world.proofs.ChangedNames.{Beside, touch_within, own_label, own_cookies}
use Rattle.lnfs_world.proofs.Keys.{id_same}
use Rattle.lnfs_world.proofs.Nodes.{label_at-touched}
use Rattle.lnfs_world.proofs.Rows.{all_find}
use Rattle.lnfs_world.proofs.Within.{within_all}
use Rattle.lnfs_operations.specs.Bounds.{InnerBounds, NodeBounds, RowBounds, Bounds}
use Rattle.lnfs_operations.specs.Carried.{AllLow}
use Rattle.lnfs_operations.specs.Extra.{Untouched}
use Rattle.lnfs_operations.specs.Lookup.{is_link}
use Rattle.lnfs_operations.specs.Sizes.{NodeFits, Sizes}
use Rattle.lnfs_operations.proofs.BoundChanges.{Brings, AllBring, keeps_rows, all_keep}
use Rattle.lnfs_operations.proofs.LowRows.{AllGiveLow, low_changes}
use Rattle.lnfs_operations.proofs.NodeBounds.{touch_brings}
use Rattle.lnfs_operations.proofs.ReadingRows.{all_found}
use Rattle.lnfs_operations.proofs.StoredLabels.{AllHave, changes_have}

-- a change that sets what a file at the subject's label holds
pub record Sets (s : ℕ) (w : World) (c : Change) : Type 0 where
  pub node : Node
  pub inner : Inner
  pub is : c ≡ Touch node.id inner
  pub found : node_at w.nodes node.id ≡ Some node
  pub own : (s == node.label) ≡ true
  pub link : is_link node.kind ≡ false
  pub stored : inner.stored ≡ node.inner.stored
  pub cookies : inner.cookies ≡ node.inner.cookies
  pub bounds : InnerBounds node.kind node.inner → InnerBounds node.kind inner

-- each in the world that the ones before leave
abbrev pub AllSet : (s : ℕ) → World → List Change → Type 0
AllSet s w [] = Unit {0}
AllSet s w (c ∷ cs) = Sets s w c × AllSet s (apply c w) cs

pub sets_joined : (s : ℕ) (first then : List Change) (w : World) → AllSet s w first → AllSet s (apply_all first w) then → AllSet s w (first ++ then)
sets_joined s [] then w a b = b
sets_joined s (c ∷ first) then w a b = (a.0, sets_joined s first then (apply c w) a.1 b)

-- ---- a node that is touched

pub node_touched : (i : Id) (inner : Inner) (n : Node) (nodes : List Node) → node_at nodes i ≡ Some n → node_at (touched i inner nodes) i ≡ Some (record n { inner = inner })
node_touched i inner n [] found = absurd (grind (arith, found))
node_touched i inner n (m ∷ nodes) found = at (λ later. node_touched i inner n nodes later) (same_id i m.id) refl found
  where
    at : (node_at nodes i ≡ Some n → node_at (touched i inner nodes) i ≡ Some (record n { inner = inner })) → (b : Bool) → same_id i m.id ≡ b → cond b (Some m) (node_at nodes i) ≡ Some n → node_at (cond b (record m { inner = inner } ∷ nodes) (m ∷ touched i inner nodes)) i ≡ Some (record n { inner = inner })
    at rest true is e = ap (λ b. cond b (Some (record m { inner = inner })) (node_at nodes i)) is ∙ ap (option_map (λ (x : Node). record x { inner = inner })) e
    at rest false is e = ap (λ b. cond b (Some m) (node_at (touched i inner nodes) i)) is ∙ rest e

pub other_node : (i : Id) (inner : Inner) (d : Id) (nodes : List Node) → same_id d i ≡ false → node_at (touched i inner nodes) d ≡ node_at nodes d
other_node i inner d [] other = refl
other_node i inner d (m ∷ nodes) other = at (other_node i inner d nodes other) (same_id i m.id) refl
  where
    at : node_at (touched i inner nodes) d ≡ node_at nodes d → (b : Bool) → same_id i m.id ≡ b → node_at (cond b (record m { inner = inner } ∷ nodes) (m ∷ touched i inner nodes)) d ≡ cond (same_id d m.id) (Some m) (node_at nodes d)
    at rest true is =
        let apart : same_id d m.id ≡ false = subst (λ (j : Id). same_id d j ≡ false) (id_same i m.id is) other in
        ap (λ b. cond b (Some (record m { inner = inner })) (node_at nodes d)) apart ∙ sym (ap (λ b. cond b (Some m) (node_at nodes d)) apart)
    at rest false is = ap (λ o. cond (same_id d m.id) (Some m) o) rest

-- ---- what may be changed

module _ (dom : ℕ → ℕ → Bool) (s : ℕ) where
  set_within : (c : Change) (w : World) → Sets s w c → is_within dom s w c ≡ true
  set_within c w is =
      let same = is.cookies in
      let more : nat_le is.node.inner.cookies is.inner.cookies ≡ true = grind (arith, nat_tests, same) in
      subst (λ x. is_within dom s w x ≡ true) (sym is.is)
      (touch_within dom s w is.node.id is.inner is.node.inner.cookies (own_label s w.nodes is.node.id is.node is.found is.own) (own_cookies w.nodes is.node.id is.node is.found) more)

  pub all_set_within : (cs : List Change) (w : World) → AllSet s w cs → all_within dom s w cs ≡ true
  all_set_within [] w all = refl
  all_set_within (c ∷ cs) w all =
      let here = set_within c w all.0 in
      let rest = all_set_within cs (apply c w) all.1 in
      λ k. here k && rest k

-- ---- what stays

-- all of a world but what nodes hold
pub record Stays (w v : World) : Type 0 where
  pub clients : v.clients ≡ w.clients
  pub sessions : v.sessions ≡ w.sessions
  pub contexts : v.contexts ≡ w.contexts
  pub entries : v.entries ≡ w.entries
  pub opens : v.opens ≡ w.opens
  pub lasts : v.lasts ≡ w.lasts
  pub labels : (i : Id) → label_at v.nodes i ≡ label_at w.nodes i

set_stays : (s : ℕ) (c : Change) (w : World) → Sets s w c → Stays w (apply c w)
set_stays s c w is = subst (λ x. Stays w (apply x w)) (sym is.is) (record {
  clients = refl;
  sessions = refl;
  contexts = refl;
  entries = refl;
  opens = refl;
  lasts = refl;
  labels = λ i. label_at-touched is.node.id is.inner i w.nodes;
})

pub all_stay : (s : ℕ) (cs : List Change) (w : World) → AllSet s w cs → Stays w (apply_all cs w)
all_stay s [] w all = record { clients = refl; sessions = refl; contexts = refl; entries = refl; opens = refl; lasts = refl; labels = λ i. refl }
all_stay s (c ∷ cs) w all =
    let first = set_stays s c w all.0 in
    let then = all_stay s cs (apply c w) all.1 in
    record {
      clients = then.clients ∙ first.clients;
      sessions = then.sessions ∙ first.sessions;
      contexts = then.contexts ∙ first.contexts;
      entries = then.entries ∙ first.entries;
      opens = then.opens ∙ first.opens;
      lasts = then.lasts ∙ first.lasts;
      labels = λ i. then.labels i ∙ first.labels i;
    }

pub stays_beside : (w v : World) → Stays w v → Beside w v
stays_beside w v is = record { clients = is.clients; sessions = is.sessions }

pub stays_untouched : (w v : World) → Stays w v → Untouched w v
stays_untouched w v is = record {
  clients = is.clients;
  sessions = is.sessions;
  contexts = is.contexts;
  last_clients = ap (λ (l : Lasts). l.clients) is.lasts;
  last_sessions = ap (λ (l : Lasts). l.sessions) is.lasts;
  last_contexts = ap (λ (l : Lasts). l.contexts) is.lasts;
  labels = λ i l m here there. (let same = is.labels i in cc);
  new = λ i m none there. (let same = is.labels i in absurd (grind (arith, same, none, there)));
}

-- ---- bounds

node_fits : (s : ℕ) (w : World) (c : Change) (is : Sets s w c) → NodeFits is.node → NodeFits (record is.node { inner = is.inner })
node_fits s w c is fits = record {
  stored = subst (λ (o : Option Stored). IfSome o (λ stored. length stored.bytes ≤ LABEL_LIMIT)) (sym is.stored) fits.stored;
  text = λ link. absurd (false≢true (sym is.link ∙ link));
}

set_sizes : (s : ℕ) (c : Change) (w : World) → Sets s w c → Sizes w → Sizes (apply c w)
set_sizes s c w is sizes = subst (λ x. Sizes (apply x w)) (sym is.is) (record {
  sessions = sizes.sessions;
  clients = sizes.clients;
  nodes = all_found NodeFits (λ m. same_id is.node.id m.id) (λ m. record m { inner = is.inner }) w.nodes is.node is.found
      (node_fits s w c is (all_find NodeFits (λ m. same_id is.node.id m.id) w.nodes is.node sizes.nodes is.found).0) sizes.nodes;
})

all_sizes : (s : ℕ) (cs : List Change) (w : World) → AllSet s w cs → Sizes w → Sizes (apply_all cs w)
all_sizes s [] w all sizes = sizes
all_sizes s (c ∷ cs) w all sizes = all_sizes s cs (apply c w) all.1 (set_sizes s c w all.0 sizes)

set_brings : (site : Site) (s : ℕ) (c : Change) (w : World) → Sets s w c → RowBounds site w → Brings site w c
set_brings site s c w is rows =
    let before = (all_find (NodeBounds site) (λ m. same_id is.node.id m.id) w.nodes is.node rows.nodes is.found).0 in
    subst (Brings site w) (sym is.is) (touch_brings site w is.node.id is.inner is.node.kind (ap (option_map (λ (m : Node). m.kind)) is.found) (is.bounds before.inner))

all_bring : (site : Site) (s : ℕ) (cs : List Change) (w : World) → AllSet s w cs → RowBounds site w → AllBring site w cs
all_bring site s [] w all rows = tt
all_bring site s (c ∷ cs) w all rows =
    let brings = set_brings site s c w all.0 rows in
    (brings, all_bring site s cs (apply c w) all.1 (keeps_rows site c w brings rows))

pub all_set_bounds : (site : Site) → IsPreorderWithBottom site.dom → (s : ℕ) (cs : List Change) (w : World) → Facts site.dom w → AllSet s w cs → Bounds site w → Bounds site (apply_all cs w)
all_set_bounds site lattice s cs w facts all bounds =
    let kept = all_keep site lattice s cs w facts (within_all site.dom s cs w (all_set_within site.dom s cs w all)) (all_bring site s cs w all bounds.rows) (record { rows = bounds.rows; counts = bounds.counts }) in
    record { sizes = all_sizes s cs w all bounds.sizes; rows = kept.rows; counts = kept.counts }

-- ---- labels that are carried

gives_low : (s : ℕ) (cs : List Change) (w : World) → AllSet s w cs → AllGiveLow cs
gives_low s [] w all = tt
gives_low s (c ∷ cs) w all = ((subst (λ x. AllGiveLow (x ∷ [])) (sym all.0.is) (tt, tt)).0, gives_low s cs (apply c w) all.1)

pub all_set_low : (dom : ℕ → ℕ → Bool) (cs : List Change) (w : World) → AllSet 0 w cs → AllLow w → AllLow (apply_all cs w)
all_set_low dom cs w all low = low_changes dom cs w (within_all dom 0 cs w (all_set_within dom 0 cs w all)) (gives_low 0 cs w all) low

pub all_set_have : (Q : Id → Option Stored → Type 0) (s : ℕ) (cs : List Change) (w : World) → AllSet s w cs → AllHave Q w → AllHave Q (apply_all cs w)
all_set_have Q s [] w all have = have
all_set_have Q s (c ∷ cs) w all have = all_set_have Q s cs (apply c w) all.1 (at all.0)
  where
    at : Sets s w c → AllHave Q (apply c w)
    at is =
        let here : Q is.node.id is.node.inner.stored = have is.node.id is.node.inner.stored (ap (option_map (λ (m : Node). m.inner.stored)) is.found) in
        let gives : Q is.node.id is.inner.stored = subst (Q is.node.id) (sym is.stored) here in
        subst (λ x. AllHave Q (apply x w)) (sym is.is) (changes_have Q (Touch is.node.id is.inner ∷ []) w (gives, tt) have)
