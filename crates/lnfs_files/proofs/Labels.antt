-- A label that is set, and a tree that sets it.
use Rattle.std.proofs.Common.{◌≡◌, refl, ap, sym, subst, ◌∙◌, ℕ, Bool, true, false, not, cond, List, [], ◌∷◌, length, Option, Some, None, Result, Ok, Err}
use Rattle.std.specs.Prelude.{◌&&◌, ◌||◌, ◌==◌, option_map, is_some}
use Rattle.std.specs.List.{AllByRecursion}
use Rattle.lnfs_types.specs.declared.event.Moment.{Moment}
use Rattle.lnfs_attrs.specs.declared.bitmap.Bitmap.{Bitmap}
use Rattle.lnfs_arguments.specs.declared.statuses.TheConstants.{NFS4ERR_NOTEMPTY}
use Rattle.lnfs_world.specs.World.{Id, Kind, File, Directory, SymbolicLink, Stored, Inner, Node, Entry, World, same_id, node_at, directory_at, is_directory}
use Rattle.lnfs_world.specs.Tree.{holds_names, joins, is_some_directory, Tree}
use Rattle.lnfs_world.specs.Facts.{NodeFacts}
use Rattle.lnfs_world.specs.Usage.{bytes_of}
use Rattle.lnfs_world.specs.Change.{Change, Touch, Relabel, apply_all}
use Rattle.lnfs_world.specs.Effects.{attributes_changed}
use Rattle.lnfs_world.specs.Outcome.{Site, Place, Outcome}
use Rattle.lnfs_world.proofs.Keys.{id_same}
use Rattle.lnfs_world.proofs.Seals.{unseal}
use Rattle.lnfs_monitor.specs.Rules.{Write}
use Rattle.lnfs_operations.specs.declared.Gate.TheVariants.{Namespace}
use Rattle.lnfs_operations.specs.Chain.{Answer, refuse, done, demand}
use Rattle.lnfs_operations.specs.Judged.{where_allowed}
use Rattle.lnfs_operations.specs.Shown.{label_shown}
use Rattle.lnfs_operations.specs.SetAttr.{same_spelling, respelled, raised}
use Rattle.lnfs_tree.specs.Rows.{Rows}
use Rattle.lnfs_tree.specs.Changed.{Doing, Does, on_node, test, raise_of, ran}
use Rattle.lnfs_tree.specs.declared.node.TreeError.{TreeError}
use Rattle.lnfs_tree.specs.declared.node.TreeError.TheVariants.{NotEmpty, Memory}
use Rattle.lnfs_open.specs.Lists.{Lists}
use Rattle.lnfs_nodes.specs.Trees.{denial}
use Rattle.lnfs_nodes.proofs.Tests.{allowed}
use Rattle.lnfs_files.specs.Worlds.{with_files}
use Rattle.lnfs_files.specs.Acts.{Succeeds}

-- ---- what a tree does that has no error but want of memory

pub sure : {A B : Type 0} (seen : A → B) (doing : Doing B) (t u : Rows) (r : Result A TreeError) → (r ≡ Err Memory → ⊥) → Does seen (Ok doing) t u r → u ≡ ran doing.changes t
sure seen doing t u (Ok a) calm does = does.1
sure seen doing t u (Err Memory) calm does = absurd (calm refl)
sure seen doing t u (Err e) calm does = absurd does

-- a success, where a world with the files takes the changes as the tree does
pub succeeds : {R : Type 0} (told : R) (p : Place) (rest : World) (t u : Rows) (s : Lists) (changes : List Change) → apply_all changes (with_files rest t s) ≡ with_files rest (ran changes t) s → u ≡ ran changes t → Succeeds told p rest t u s s (done p told changes)
succeeds told p rest t u s changes same is = record { answer = refl; place = refl; world = same ∙ ap (λ (x : Rows). with_files rest x s) (sym is) }

-- a content that keeps its bytes
pub same_bytes : (n : Node) (inner : Inner) → inner.content ≡ n.inner.content → bytes_of (record n { inner = inner }) n.kind ≡ bytes_of n n.kind
same_bytes n inner e = at n.kind
  where
    at : (kind : Kind) → bytes_of (record n { inner = inner }) kind ≡ bytes_of n kind
    at File = ap (λ (bytes : List ℕ). length bytes) e
    at Directory = refl
    at SymbolicLink = refl

-- ---- as it is spelled

module _ (site : Site) (at : Place) (n : Node) (spelled : Stored) (set : Bitmap) (told : ℕ) (label : told ≡ n.label) (may_write : None ≡ denial site at.subject (Write told)) where
  may : None ≡ denial site at.subject (Write n.label)
  may = may_write ∙ ap (λ (l : ℕ). denial site at.subject (Write l)) label

  pub same : same_spelling (label_shown site at n) spelled ≡ true → where_allowed site at (Write n.label) (respelled site at n spelled set) ≡ done at set []
  same is = allowed site at (Write n.label) (respelled site at n spelled set) may ∙ ap (λ (b : Bool). cond b (done at set []) (done at set (Touch n.id (attributes_changed at.moment (record n.inner { stored = Some spelled })) ∷ []))) is

  pub other : same_spelling (label_shown site at n) spelled ≡ false → where_allowed site at (Write n.label) (respelled site at n spelled set) ≡ done at set (Touch n.id (attributes_changed at.moment (record n.inner { stored = Some spelled })) ∷ [])
  other is = allowed site at (Write n.label) (respelled site at n spelled set) may ∙ ap (λ (b : Bool). cond b (done at set []) (done at set (Touch n.id (attributes_changed at.moment (record n.inner { stored = Some spelled })) ∷ []))) is

-- ---- by its level

module _ (at : Place) (w : World) (n : Node) (told level : ℕ) (set : Bitmap) (label : told ≡ n.label) where
  -- whether it has the level, by the label that is told of it
  has_level : (b : Bool) → (level == told) ≡ b → (level == n.label) ≡ b
  has_level b is = sym (ap (λ (l : ℕ). level == l) label) ∙ is

  abbrev relabelling : Outcome (Answer Bitmap)
  relabelling = done at set (Relabel n.id level (attributes_changed at.moment n.inner) ∷ [])

  abbrev by : Bool → Bool → Outcome (Answer Bitmap)
  by same full = cond same (done at set []) (demand (not full) (refuse at Namespace NFS4ERR_NOTEMPTY) relabelling)

  pub raised_same : (level == told) ≡ true → raised at w n level set ≡ done at set []
  raised_same is = ap (λ (b : Bool). by b (is_directory n.kind && holds_names w.entries n.id)) (has_level true is)

  steps : (full : Bool) → (level == told) ≡ false → (is_directory n.kind && holds_names w.entries n.id) ≡ full → raised at w n level set ≡ by false full
  steps full is has = ap (λ (b : Bool). by b (is_directory n.kind && holds_names w.entries n.id)) (has_level false is) ∙ ap (by false) has

  pub raised_full : (level == told) ≡ false → (is_directory n.kind && holds_names w.entries n.id) ≡ true → raised at w n level set ≡ refuse at Namespace NFS4ERR_NOTEMPTY
  raised_full is has = steps true is has

  pub raised_so : (level == told) ≡ false → holds_names w.entries n.id ≡ false → raised at w n level set ≡ relabelling
  raised_so is has = steps false is (ap (λ (b : Bool). is_directory n.kind && b) has ∙ neither (is_directory n.kind))
    where
      neither : (b : Bool) → (b && false) ≡ false
      neither true = refl
      neither false = refl

-- ---- names in a node, which is a directory then

holder : (kind : Id → Option Bool) (es : List Entry) (i : Id) → AllByRecursion (λ e. joins kind e ≡ true) es → holds_names es i ≡ true → is_some_directory (kind i) ≡ true
holder kind [] i all e = cc
holder kind (x ∷ xs) i all e = at (same_id i x.directory) refl e (holder kind xs i all.1)
  where
    first : (a b : Bool) → (a && b) ≡ true → a ≡ true
    first true b e = refl
    first false b e = cc

    at : (b : Bool) → same_id i x.directory ≡ b → (b || holds_names xs i) ≡ true → (holds_names xs i ≡ true → is_some_directory (kind i) ≡ true) → is_some_directory (kind i) ≡ true
    at true is e rest = ap (λ (j : Id). is_some_directory (kind j)) (id_same i x.directory is) ∙ first (is_some_directory (kind x.directory)) (is_some (kind x.node)) all.0
    at false is e rest = rest e

module _ (dom : ℕ → ℕ → Bool) (t : Rows) (facts : NodeFacts dom t.nodes t.entries t.lasts) (n : Node) (at : node_at t.nodes n.id ≡ Some n) where
  tree : Tree (directory_at t.nodes) t.entries
  tree = unseal facts.tree

  pub full : holds_names t.entries n.id ≡ true → (is_directory n.kind && holds_names t.entries n.id) ≡ true
  full has =
      let is : is_some_directory (directory_at t.nodes n.id) ≡ true = holder (directory_at t.nodes) t.entries n.id tree.joined has in
      let kind : is_directory n.kind ≡ true = sym (ap (λ (x : Option Node). is_some_directory (option_map (λ n. is_directory n.kind) x)) at) ∙ is in
      ap (λ (b : Bool). b && holds_names t.entries n.id) kind ∙ has

-- ---- what the tree says

module _ (t u : Rows) (i : Id) (n : Node) (moment : Moment) (at : node_at t.nodes i ≡ Some n) where
  -- what is kept of it is set: its mode, or its label as it was given
  pub set_so : (inner : Inner → Inner) (r : Result (Unit {0}) TreeError) → (r ≡ Err Memory → ⊥) → Does {A = Unit {0}} {B = Unit {0}} (λ r. r) (on_node (node_at t.nodes i) (λ n. Ok (record { answer = tt; changes = Touch n.id (attributes_changed moment (inner n.inner)) ∷ [] }))) t u r
      → u ≡ ran (Touch n.id (attributes_changed moment (inner n.inner)) ∷ []) t
  set_so inner r calm does =
      sure {A = Unit {0}} {B = Unit {0}} (λ r. r) (record { answer = tt; changes = Touch n.id (attributes_changed moment (inner n.inner)) ∷ [] }) t u r calm
      (subst (λ (x : Option Node). Does {A = Unit {0}} {B = Unit {0}} (λ r. r) (on_node x (λ n. Ok (record { answer = tt; changes = Touch n.id (attributes_changed moment (inner n.inner)) ∷ [] }))) t u r) at does)

  abbrev raising : (level : ℕ) → Bool → Result (Doing (Unit {0})) TreeError
  raising level full = test (not full) NotEmpty (Ok (record { answer = tt; changes = Relabel n.id level (attributes_changed moment n.inner) ∷ [] }))

  known : (level : ℕ) (r : Result (Unit {0}) TreeError) → Does {A = Unit {0}} {B = Unit {0}} (λ r. r) (raise_of t i level moment) t u r → Does {A = Unit {0}} {B = Unit {0}} (λ r. r) (raising level (holds_names t.entries n.id)) t u r
  known level r does = subst (λ (x : Option Node). Does {A = Unit {0}} {B = Unit {0}} (λ r. r) (on_node x (λ n. test (not (holds_names t.entries n.id)) NotEmpty (Ok (record { answer = tt; changes = Relabel n.id level (attributes_changed moment n.inner) ∷ [] })))) t u r) at does

  pub was_raised : (level : ℕ) (a : Unit {0}) → Does {A = Unit {0}} {B = Unit {0}} (λ r. r) (raise_of t i level moment) t u (Ok a) → (holds_names t.entries n.id ≡ false) × (u ≡ ran (Relabel n.id level (attributes_changed moment n.inner) ∷ []) t)
  was_raised level a does = by (holds_names t.entries n.id) (known level (Ok a) does)
    where
      by : (b : Bool) → Does {A = Unit {0}} {B = Unit {0}} (λ r. r) (raising level b) t u (Ok a) → (b ≡ false) × (u ≡ ran (Relabel n.id level (attributes_changed moment n.inner) ∷ []) t)
      by false does = (refl, does.1)
      by true does = absurd does

  abbrev is_error : TreeError → Result (Unit {0}) TreeError
  is_error e = Err e

  pub not_raised : (level : ℕ) (e : TreeError) → (is_error e ≡ Err Memory → ⊥) → Does {A = Unit {0}} {B = Unit {0}} (λ r. r) (raise_of t i level moment) t u (is_error e) → (holds_names t.entries n.id ≡ true) × (u ≡ t)
  not_raised level e calm does = by (holds_names t.entries n.id) e calm (known level (Err e) does)
    where
      by : (b : Bool) (e : TreeError) → (is_error e ≡ Err Memory → ⊥) → Does {A = Unit {0}} {B = Unit {0}} (λ r. r) (raising level b) t u (is_error e) → (b ≡ true) × (u ≡ t)
      by b Memory calm does = absurd (calm refl)
      by true e calm does = (refl, does.1)
      by false e calm does = absurd does
