-- A size and a mode that are set: what refuses them, what the tree does of them, and what becomes of the totals.
use Rattle.std.proofs.Common.{◌≡◌, ◌<◌, refl, ap, sym, subst, ◌∙◌, ℕ, Bool, true, false, not, cond, List, [], ◌∷◌, length, Option, Some, None, Result, Ok, Err, arith}
use Rattle.std.specs.Prelude.{◌||◌, nat_le, is_some}
use Rattle.std.proofs.lemmas.Bool.Decides.{nat_tests}
use Rattle.lnfs_types.specs.declared.event.Moment.{Moment}
use Rattle.lnfs_attrs.specs.declared.bitmap.Bitmap.{Bitmap}
use Rattle.lnfs_arguments.specs.declared.stateid.StateId.{StateId}
use Rattle.lnfs_arguments.specs.declared.statuses.TheConstants.{NFS4ERR_FBIG, NFS4ERR_DQUOT}
use Rattle.lnfs_world.specs.World.{Id, Kind, File, Inner, Node, World, node_at}
use Rattle.lnfs_world.specs.Names.{size_of}
use Rattle.lnfs_world.specs.Usage.{bytes_of}
use Rattle.lnfs_world.specs.Change.{Touch, apply, apply_all}
use Rattle.lnfs_world.specs.Effects.{sized, data_changed}
use Rattle.lnfs_world.specs.Outcome.{Site, Place, Outcome}
use Rattle.lnfs_world.proofs.Seen.{node_at-id}
use Rattle.lnfs_monitor.specs.Rules.{Write}
use Rattle.lnfs_operations.specs.declared.Gate.TheVariants.{Namespace, Quota}
use Rattle.lnfs_operations.specs.declared.Refusal.{Refusal}
use Rattle.lnfs_world.specs.declared.numbers.TheConstants.{MOST_FILE}
use Rattle.lnfs_operations.specs.Chain.{Answer, refuse, done, demand}
use Rattle.lnfs_operations.specs.Chain as chain
use Rattle.lnfs_operations.specs.StateIds.{Writing, where_usable}
use Rattle.lnfs_operations.specs.Files.{passes_quota, where_fitting}
use Rattle.lnfs_operations.specs.SetAttr.{where_size, size_set, mode_set, values_written, values_set}
use Rattle.lnfs_content.proofs.Bytes.{length-sized}
use Rattle.lnfs_tree.specs.declared.node.TreeError.{TreeError}
use Rattle.lnfs_tree.specs.declared.node.TreeError.TheVariants.{FBig, Memory}
use Rattle.lnfs_tree.specs.Rows.{Rows, kind_of, of_file, on_file}
use Rattle.lnfs_tree.specs.Changed.{Doing, Does, test, sets_data, set_size_of, ran}
use Rattle.lnfs_tree.specs.Places.{world_of}
use Rattle.lnfs_tree.proofs.Opened.{row_touched, touched_twice}
use Rattle.lnfs_quota.specs.declared.quota.Row.{Row}
use Rattle.lnfs_quota.specs.Quota.{resized}
use Rattle.lnfs_quota.specs.Totals.{AreTotals}
use Rattle.lnfs_open.specs.Lists.{Lists}
use Rattle.lnfs_nodes.specs.declared.held.Held.{Held}
use Rattle.lnfs_nodes.specs.Trees.{Holds, refusal_of, denial}
use Rattle.lnfs_nodes.proofs.Refusing.{asked, asked_denied}
use Rattle.lnfs_files.specs.Worlds.{with_files}
use Rattle.lnfs_files.specs.Tests.{passed, refusal_in, tested}
use Rattle.lnfs_files.specs.Setting.{unlabelled}
use Rattle.lnfs_files.proofs.Stages.{goes_on, refuses, tells_next, tells_why, demand_stage}
use Rattle.lnfs_files.proofs.StateIds.{usable_tested}
use Rattle.lnfs_files.proofs.Labels.{sure}

-- ---- what refuses a size

-- a test before another
pub two_stages : {R : Type 0} (p : Place) (r : Option chain.Refusal) (o x next : Outcome (Answer R)) (told y : Outcome (Answer (Unit {0}))) → o ≡ tested p r x → told ≡ tested p r y → x ≡ tested p (refusal_in y) next → o ≡ tested p (refusal_in told) next
two_stages p None o x next told y a b e = a ∙ e ∙ ap (λ (z : Outcome (Answer (Unit {0}))). tested p (refusal_in z) next) (sym b)
two_stages p (Some why) o x next told y a b e = a ∙ ap (λ (z : Outcome (Answer (Unit {0}))). tested p (refusal_in z) next) (sym b)

module _ (site : Site) (p : Place) (w : World) (n : Node) (size : ℕ) where
  pub fitting_tested : {R : Type 0} (next : Outcome (Answer R)) → where_fitting site p w n size next ≡ tested p (refusal_in (where_fitting site p w n size (passed p))) next
  fitting_tested next =
      demand_stage p next (nat_le size MOST_FILE) Namespace NFS4ERR_FBIG (demand (not (passes_quota site w n size)) (refuse p Quota NFS4ERR_DQUOT) next) (demand (not (passes_quota site w n size)) (refuse p Quota NFS4ERR_DQUOT) (passed p))
      (demand_stage p next (not (passes_quota site w n size)) Quota NFS4ERR_DQUOT next (passed p) refl)

  abbrev fitting : Bool → Bool → Option chain.Refusal
  fitting a q = refusal_in (demand a (refuse p Namespace NFS4ERR_FBIG) (demand (not q) (refuse p Quota NFS4ERR_DQUOT) (passed p)))

  pub too_big : nat_le size MOST_FILE ≡ false → Some (record { gate = Namespace; status = NFS4ERR_FBIG }) ≡ refusal_in (where_fitting site p w n size (passed p))
  too_big a = sym (ap (λ (b : Bool). fitting b (passes_quota site w n size)) a)

  pub past_limit : nat_le size MOST_FILE ≡ true → passes_quota site w n size ≡ true → Some (record { gate = Quota; status = NFS4ERR_DQUOT }) ≡ refusal_in (where_fitting site p w n size (passed p))
  past_limit a q = sym (ap (λ (b : Bool). fitting b (passes_quota site w n size)) a ∙ ap (fitting true) q)

  pub has_room : nat_le size MOST_FILE ≡ true → passes_quota site w n size ≡ false → None ≡ refusal_in (where_fitting site p w n size (passed p))
  has_room a q = sym (ap (λ (b : Bool). fitting b (passes_quota site w n size)) a ∙ ap (fitting true) q)

  module _ (id : StateId) where
    abbrev usable : Option chain.Refusal
    usable = refusal_in (where_usable site p w n id Writing (passed p))

    abbrev sizing : Option chain.Refusal
    sizing = refusal_in (where_size site id p w n (Some size) (passed p))

    pub not_usable : (why : chain.Refusal) → Some why ≡ usable → Some why ≡ sizing
    not_usable why e = tells_why p (where_size site id p w n (Some size) (passed p)) (where_fitting site p w n size (passed p)) usable (usable_tested p w n id (where_fitting site p w n size (passed p)) site Writing) why e

    pub by_size : (x : Option chain.Refusal) → None ≡ usable → x ≡ refusal_in (where_fitting site p w n size (passed p)) → x ≡ sizing
    by_size x e same = tells_next p (where_size site id p w n (Some size) (passed p)) (where_fitting site p w n size (passed p)) usable (usable_tested p w n id (where_fitting site p w n size (passed p)) site Writing) x e same

pub size_tested : {R : Type 0} (site : Site) (id : StateId) (p : Place) (w : World) (n : Node) (size : Option ℕ) (next : Outcome (Answer R)) → where_size site id p w n size next ≡ tested p (refusal_in (where_size site id p w n size (passed p))) next
size_tested site id p w n None next = refl
size_tested site id p w n (Some size) next =
    two_stages p (refusal_in (where_usable site p w n id Writing (passed p)))
    (where_size site id p w n (Some size) next) (where_fitting site p w n size next) next
    (where_size site id p w n (Some size) (passed p)) (where_fitting site p w n size (passed p))
    (usable_tested p w n id (where_fitting site p w n size next) site Writing)
    (usable_tested p w n id (where_fitting site p w n size (passed p)) site Writing)
    (fitting_tested site p w n size next)

pub too_many : (size most : ℕ) → most < size → nat_le size most ≡ false
too_many size most e = grind (arith, nat_tests, e)

-- ---- attributes but the label

module _ (site : Site) (id : StateId) (at : Place) (w : World) (n : Node) (size mode : Option ℕ) (set : Bitmap) where
  abbrev asks : Option chain.Refusal
  asks = cond (is_some size || is_some mode) (denial site at.subject (Write n.label)) None

  abbrev last : Outcome (Answer Bitmap)
  last = done at set (values_written at n (unlabelled size mode))

  pub not_asked : (why : Refusal) → Some (refusal_of why) ≡ asks → values_set site id at w n (unlabelled size mode) set ≡ refuse at why.gate why.status
  not_asked why e = asked_denied (is_some size || is_some mode) site at (Write n.label) (where_size site id at w n size last) why e

  pub not_sized : None ≡ asks → (why : Refusal) → Some (refusal_of why) ≡ refusal_in (where_size site id at w n size (passed at)) → values_set site id at w n (unlabelled size mode) set ≡ refuse at why.gate why.status
  not_sized may why e =
      asked (is_some size || is_some mode) site at (Write n.label) (where_size site id at w n size last) may
      ∙ refuses at (where_size site id at w n size last) last (refusal_in (where_size site id at w n size (passed at))) (size_tested site id at w n size last) (refusal_of why) e

  pub values_done : None ≡ asks → None ≡ refusal_in (where_size site id at w n size (passed at)) → values_set site id at w n (unlabelled size mode) set ≡ last
  values_done may e =
      asked (is_some size || is_some mode) site at (Write n.label) (where_size site id at w n size last) may
      ∙ goes_on at (where_size site id at w n size last) last (refusal_in (where_size site id at w n size (passed at))) (size_tested site id at w n size last) e

-- what is asked, by what is held
pub asks_held : (site : Site) (s : ℕ) (size mode : Option ℕ) (sized writes : Bool) (label held : ℕ) → sized ≡ is_some size → writes ≡ (sized || is_some mode) → held ≡ label
    → cond writes (denial site s (Write held)) None ≡ cond (is_some size || is_some mode) (denial site s (Write label)) None
asks_held site s size mode sized writes label held a b e =
    ap (λ (x : Bool). cond x (denial site s (Write held)) None) (b ∙ ap (λ (x : Bool). x || is_some mode) a)
    ∙ ap (λ (l : ℕ). cond (is_some size || is_some mode) (denial site s (Write l)) None) e

-- ---- what the tree does

module _ (t u : Rows) (i : Id) (n : Node) (moment : Moment) (at : node_at t.nodes i ≡ Some n) where
  abbrev sizes : ℕ → Doing (Unit {0})
  sizes size = sets_data moment n (sized size n.inner.content)

  sizes_told : (size : ℕ) → n.kind ≡ File → nat_le size MOST_FILE ≡ true → set_size_of t i size moment ≡ Ok (sizes size)
  sizes_told size kind fit =
      ap (λ (o : Option Node). on_file o (λ m. test (nat_le size MOST_FILE) FBig (Ok (sets_data moment m (sized size m.inner.content))))) at
      ∙ ap (λ (k : Kind). of_file k (test (nat_le size MOST_FILE) FBig (Ok (sizes size)))) kind
      ∙ ap (λ (b : Bool). test b FBig (Ok (sizes size))) fit

  pub sized_so : (size : ℕ) → n.kind ≡ File → nat_le size MOST_FILE ≡ true → (r : Result (Unit {0}) TreeError) → (r ≡ Err Memory → ⊥) → Does {A = Unit {0}} {B = Unit {0}} (λ r. r) (set_size_of t i size moment) t u r → u ≡ ran (Touch n.id (data_changed moment (sized size n.inner.content) n.inner) ∷ []) t
  sized_so size kind fit r calm does =
      sure {A = Unit {0}} {B = Unit {0}} (λ r. r) (sizes size) t u r calm
      (subst (λ (d : Result (Doing (Unit {0})) TreeError). Does {A = Unit {0}} {B = Unit {0}} (λ r. r) d t u r) (sizes_told size kind fit) does)

-- one change after another of the same node is the last
module _ (t u : Rows) (n : Node) (a : Inner) (first : u ≡ ran (Touch n.id a ∷ []) t) where
  pub still_there : node_at t.nodes n.id ≡ Some n → node_at u.nodes n.id ≡ Some (record n { inner = a })
  still_there at = ap (λ (r : Rows). node_at r.nodes n.id) first ∙ row_touched n.id a t.nodes n at

  pub twice : (v : Rows) (b : Inner) → v ≡ ran (Touch n.id b ∷ []) u → v ≡ ran (Touch n.id b ∷ []) t
  twice v b second =
      second ∙ ap (ran (Touch n.id b ∷ [])) first
      ∙ ap (λ (nodes : List Node). record t { nodes = nodes }) (touched_twice n.id b a t.nodes)

-- a world with the files takes it so
pub told_by : (rest : World) (t u : Rows) (s : Lists) (i : Id) (inner : Inner) → u ≡ ran (Touch i inner ∷ []) t → apply_all (Touch i inner ∷ []) (with_files rest t s) ≡ with_files rest u s
told_by rest t u s i inner is = ap (λ (x : Rows). with_files rest x s) (sym is)

-- ---- a file that is held

pub held_kind : (t : Rows) (n : Node) (h : Held) → Holds t n h → kind_of h.facts.kind ≡ File → n.kind ≡ File
held_kind t n h holds kind = sym holds.tells.kind ∙ kind

pub held_size : (t : Rows) (n : Node) (h : Held) → Holds t n h → kind_of h.facts.kind ≡ File → h.facts.size ≡ length n.inner.content
held_size t n h holds kind = holds.tells.size ∙ ap (size_of t.entries n) (held_kind t n h holds kind)

pub held_bytes : (t : Rows) (n : Node) (h : Held) → Holds t n h → kind_of h.facts.kind ≡ File → bytes_of n n.kind ≡ h.facts.size
held_bytes t n h holds kind = ap (bytes_of n) (held_kind t n h holds kind) ∙ sym (held_size t n h holds kind)

pub sized_bytes : (n : Node) (moment : Moment) (size : ℕ) → n.kind ≡ File → bytes_of (record n { inner = data_changed moment (sized size n.inner.content) n.inner }) n.kind ≡ size
sized_bytes n moment size kind = ap (bytes_of (record n { inner = data_changed moment (sized size n.inner.content) n.inner })) kind ∙ length-sized size n.inner.content

pub sized_totals : (rows : List Row) (t u : Rows) (n : Node) (h : Held) (holds : Holds t n h) (moment : Moment) (size : ℕ) → kind_of h.facts.kind ≡ File
    → u ≡ ran (Touch n.id (data_changed moment (sized size n.inner.content) n.inner) ∷ []) t
    → AreTotals (resized rows n.label (bytes_of n n.kind) (bytes_of (record n { inner = data_changed moment (sized size n.inner.content) n.inner }) n.kind)) (apply (Touch n.id (data_changed moment (sized size n.inner.content) n.inner)) (world_of t)).nodes
    → AreTotals (resized rows h.facts.label.0 h.facts.size size) u.nodes
sized_totals rows t u n h holds moment size kind is law =
    subst (λ (x : Rows). AreTotals (resized rows h.facts.label.0 h.facts.size size) x.nodes) (sym is)
    (subst (λ (label : ℕ). AreTotals (resized rows label h.facts.size size) after) (sym holds.tells.label)
    (subst (λ (old : ℕ). AreTotals (resized rows n.label old size) after) (held_bytes t n h holds kind)
    (subst (λ (new : ℕ). AreTotals (resized rows n.label (bytes_of n n.kind) new) after) (sized_bytes n moment size (held_kind t n h holds kind)) law)))
  where
    after : List Node
    after = (apply (Touch n.id (data_changed moment (sized size n.inner.content) n.inner)) (world_of t)).nodes

-- whatever keeps the bytes leaves the totals
pub touched_totals : (rows : List Row) (t u : Rows) (i : Id) (inner : Inner) → u ≡ ran (Touch i inner ∷ []) t → AreTotals rows (apply (Touch i inner) (world_of t)).nodes → AreTotals rows u.nodes
touched_totals rows t u i inner is law = subst (λ (x : Rows). AreTotals rows x.nodes) (sym is) law

-- ---- a node that is there

pub node_there : (o : Option Node) → is_some o ≡ true → (n : Node) × (o ≡ Some n)
node_there (Some n) e = (n, refl)
node_there None e = absurd cc

pub found_itself : (t : Rows) (i : Id) (n : Node) → node_at t.nodes i ≡ Some n → node_at t.nodes n.id ≡ Some n
found_itself t i n e = ap (node_at t.nodes) (node_at-id i t.nodes n e) ∙ e

-- ---- a size and a mode, one after the other

module _ (at : Place) (t : Rows) (n : Node) where
  -- a mode that is set of a node that has its new size
  pub size_then_mode : (u v : Rows) (i : Id) (size mode : ℕ) → i ≡ n.id → node_at t.nodes n.id ≡ Some n → u ≡ ran (Touch n.id (size_set at n (Some size)) ∷ []) t
      → ((m : Node) → node_at u.nodes i ≡ Some m → v ≡ ran (Touch m.id (mode_set at (Some mode) m.inner) ∷ []) u)
      → v ≡ ran (Touch n.id (mode_set at (Some mode) (size_set at n (Some size))) ∷ []) t
  size_then_mode u v i size mode same there first law =
      twice t u n (size_set at n (Some size)) first v (mode_set at (Some mode) (size_set at n (Some size)))
      (law (record n { inner = size_set at n (Some size) }) (ap (node_at u.nodes) same ∙ still_there t u n (size_set at n (Some size)) first there))

  pub mode_told : (rest : World) (v : Rows) (s : Lists) (size : Option ℕ) (mode : ℕ) → v ≡ ran (Touch n.id (mode_set at (Some mode) (size_set at n size)) ∷ []) t → apply_all (values_written at n (unlabelled size (Some mode))) (with_files rest t s) ≡ with_files rest v s
  mode_told rest v s None mode is = told_by rest t v s n.id (mode_set at (Some mode) n.inner) is
  mode_told rest v s (Some size) mode is = told_by rest t v s n.id (mode_set at (Some mode) (size_set at n (Some size))) is

  pub size_told : (rest : World) (u : Rows) (s : Lists) (size : ℕ) → u ≡ ran (Touch n.id (size_set at n (Some size)) ∷ []) t → apply_all (values_written at n (unlabelled (Some size) None)) (with_files rest t s) ≡ with_files rest u s
  size_told rest u s size is = told_by rest t u s n.id (size_set at n (Some size)) is
