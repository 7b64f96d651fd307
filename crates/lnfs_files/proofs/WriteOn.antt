-- WRITE of a file that may be written: what the tree did of it, and what becomes of the totals.
use Rattle.std.proofs.Common.{◌≡◌, ◌<◌, ◌≤◌, ◌-◌, ◌+◌, ℕ, Bool, true, false, cond, not, List, [], ◌∷◌, length, Option, Some, None, Result, Ok, Err, refl, sym, ap, ◌∙◌, subst, arith}
use Rattle.std.specs.Prelude.{nat_le, if◌then◌else◌}
use Rattle.std.proofs.lemmas.Bool.Decides.{nat_tests}
use Rattle.lnfs_calipso.specs.declared.lattice.TheConstants.{MAX_LEVELS}
use Rattle.lnfs_words.specs.Words.{is_empty}
use Rattle.lnfs_arguments.specs.declared.statuses.TheConstants.{NFS4ERR_FBIG, NFS4ERR_DQUOT}
use Rattle.lnfs_world.specs.World.{Id, Kind, File, Directory, SymbolicLink, Inner, Node, World, node_at}
use Rattle.lnfs_world.specs.Usage.{bytes_of, bytes_used}
use Rattle.lnfs_world.specs.Change.{Change, Touch, apply, touched}
use Rattle.lnfs_world.specs.Effects.{written, size_written, data_changed}
use Rattle.lnfs_world.specs.Outcome.{Site, Place, begins_at, done_to}
use Rattle.lnfs_arguments.specs.declared.stateid.StateId.{StateId}
use Rattle.lnfs_operations.specs.declared.Gate.TheVariants.{Namespace, Quota}
use Rattle.lnfs_world.specs.declared.numbers.TheConstants.{MOST_FILE}
use Rattle.lnfs_operations.specs.Chain.{refuse, done, demand}
use Rattle.lnfs_operations.specs.Chain as chain
use Rattle.lnfs_operations.specs.Files.{passes_quota}
use Rattle.lnfs_operations.specs.Write.{Arguments, data_written}
use Rattle.lnfs_tree.specs.declared.node.TreeError.{TreeError}
use Rattle.lnfs_tree.specs.declared.node.TreeError.TheVariants.{FBig, Memory}
use Rattle.lnfs_tree.specs.Rows.{Rows, id_of, kind_of, of_file, on_file, file_found}
use Rattle.lnfs_tree.specs.Changed.{Doing, Does, ran, test, writes, write_of}
use Rattle.lnfs_tree.specs.Places.{world_of}
use Rattle.lnfs_quota.specs.declared.quota.Row.{Row}
use Rattle.lnfs_quota.specs.Quota.{row_at, resized}
use Rattle.lnfs_quota.specs.Totals.{IsInBounds, AreTotals, label_share}
use Rattle.lnfs_quota.proofs.Kept.{label_own, resized_levels, sums_of, totals_of, sums-resized}
use Rattle.lnfs_quota.proofs.Bounded.{bounds_found}
use Rattle.lnfs_quota.proofs.Counting.{sum-held}
use Rattle.lnfs_content.proofs.Bytes.{length-written}
use Rattle.lnfs_open.specs.Lists.{Lists}
use Rattle.lnfs_nodes.specs.declared.held.Held.{Held}
use Rattle.lnfs_nodes.specs.Trees.{there, Holds, IsHeld}
use Rattle.lnfs_files.specs.Worlds.{with_files}
use Rattle.lnfs_files.specs.Acts.{Succeeds}
use Rattle.lnfs_files.specs.Charges.{AreBytesHeld}
use Rattle.lnfs_files.specs.Openings.{IsThere}
use Rattle.lnfs_files.specs.Writing.{write_on, fitting_size}

-- ---- any place and any state id, where neither matters

pub some_place : Place
some_place = begins_at 0 (record { secs = 0; nanos = 0 })

pub some_id : StateId
some_id = record { seqid = 0; other = [] }

-- ---- the node that is held

pub is_there : (t : Rows) (r : Result Node chain.Refusal) (h : Held) → IsHeld t r (Ok h) → IsThere t h
is_there t (Ok n) h holds = (n, holds)
is_there t (Err why) h holds = absurd holds

pub found : (t : Rows) (n : Node) (h : Held) → Holds t n h → node_at t.nodes (id_of h.id) ≡ Some n
found t n h holds = ap (λ (i : Id). node_at t.nodes i) holds.id ∙ holds.node_is

-- one whose data is found
pub record IsFile (n : Node) (content : List ℕ) : Type 0 where
  pub kind : n.kind ≡ File
  pub same : content ≡ n.inner.content

pub file_is : (t : Rows) (n : Node) (h : Held) (content : List ℕ) → Holds t n h → Ok content ≡ file_found t (id_of h.id) → IsFile n content
file_is t n h content holds e = at n.kind refl (e ∙ ap (λ (o : Option Node). on_file o (λ m. Ok m.inner.content)) (found t n h holds))
  where
    told : Result (List ℕ) TreeError
    told = Ok content

    at : (k : Kind) → n.kind ≡ k → told ≡ of_file k (Ok n.inner.content) → IsFile n content
    at File is e = record { kind = is; same = cc }
    at Directory is e = absurd cc
    at SymbolicLink is e = absurd cc

-- the data of a file is found
pub no_data : (t : Rows) (n : Node) (h : Held) (why : TreeError) → Holds t n h → kind_of h.facts.kind ≡ File → Err why ≡ file_found t (id_of h.id) → ⊥
no_data t n h why holds kind e = none (e ∙ ap (λ (o : Option Node). on_file o (λ m. Ok m.inner.content)) (found t n h holds) ∙ ap (λ (k : Kind). of_file k (Ok n.inner.content)) (sym holds.tells.kind ∙ kind))
  where
    told : Result (List ℕ) TreeError
    told = Err why

    none : told ≡ Ok n.inner.content → ⊥
    none e = cc

pub file_bytes : (n : Node) (content : List ℕ) → IsFile n content → bytes_of n n.kind ≡ length content
file_bytes n content is = ap (bytes_of n) is.kind ∙ ap length (sym is.same)

-- ---- the size

pub fits : (size x : ℕ) → Some x ≡ fitting_size size → (nat_le size MOST_FILE ≡ true) × (x ≡ size)
fits size x e = at (nat_le size MOST_FILE) e
  where
    at : (b : Bool) → Some x ≡ (if b then Some size else None) → (b ≡ true) × (x ≡ size)
    at true e = (refl, cc)
    at false e = absurd cc

module _ (site : Site) (args : Arguments) (p : Place) (w : World) (n : Node) where
  abbrev size : ℕ
  size = size_written args.offset args.content n.inner.content

  pub goes_on : nat_le size MOST_FILE ≡ true → passes_quota site w n size ≡ false → write_on site args p w n ≡ done p (length args.content) (data_written p n args)
  goes_on a b =
      ap (λ (x : Bool). demand x (refuse p Namespace NFS4ERR_FBIG) (demand (not (passes_quota site w n size)) (refuse p Quota NFS4ERR_DQUOT) (done p (length args.content) (data_written p n args)))) a
      ∙ ap (λ (x : Bool). demand (not x) (refuse p Quota NFS4ERR_DQUOT) (done p (length args.content) (data_written p n args))) b

  pub is_past : nat_le size MOST_FILE ≡ true → passes_quota site w n size ≡ true → write_on site args p w n ≡ refuse p Quota NFS4ERR_DQUOT
  is_past a b =
      ap (λ (x : Bool). demand x (refuse p Namespace NFS4ERR_FBIG) (demand (not (passes_quota site w n size)) (refuse p Quota NFS4ERR_DQUOT) (done p (length args.content) (data_written p n args)))) a
      ∙ ap (λ (x : Bool). demand (not x) (refuse p Quota NFS4ERR_DQUOT) (done p (length args.content) (data_written p n args))) b

-- ---- what the tree did

module _ (p : Place) (t u : Rows) (n : Node) (h : Held) (args : Arguments) (holds : Holds t n h) where
  told : n.kind ≡ File → nat_le (size_written args.offset args.content n.inner.content) MOST_FILE ≡ true → write_of t (id_of h.id) args.offset args.content p.moment ≡ Ok (writes p.moment n args.offset args.content)
  told kind fit =
      ap (λ (o : Option Node). on_file o (λ m. test (nat_le (size_written args.offset args.content m.inner.content) MOST_FILE) FBig (Ok (writes p.moment m args.offset args.content)))) (found t n h holds)
      ∙ ap (λ (k : Kind). of_file k (test (nat_le (size_written args.offset args.content n.inner.content) MOST_FILE) FBig (Ok (writes p.moment n args.offset args.content)))) kind
      ∙ ap (λ (b : Bool). test b FBig (Ok (writes p.moment n args.offset args.content))) fit

  abbrev doing : Bool → Inner → Doing (Unit {0})
  doing b inner = cond b (record { answer = tt; changes = [] }) (record { answer = tt; changes = Touch n.id inner ∷ [] })

  changes_same : (b : Bool) (inner : Inner) → (doing b inner).changes ≡ cond b [] (Touch n.id inner ∷ [])
  changes_same true inner = refl
  changes_same false inner = refl

  pub written_so : (a : Unit {0}) → n.kind ≡ File → nat_le (size_written args.offset args.content n.inner.content) MOST_FILE ≡ true → Does {A = Unit {0}} {B = Unit {0}} (λ x. x) (write_of t (id_of h.id) args.offset args.content p.moment) t u (Ok a) → u ≡ ran (data_written p n args) t
  written_so a kind fit does =
      (subst (λ (d : Result (Doing (Unit {0})) TreeError). Does {A = Unit {0}} {B = Unit {0}} (λ x. x) d t u (Ok a)) (told kind fit) does).1
      ∙ ap (λ (cs : List Change). ran cs t) (changes_same (is_empty args.content) (data_changed p.moment (written args.offset args.content n.inner.content) n.inner))

  -- only memory can be wanting
  pub only_memory : (e : TreeError) → n.kind ≡ File → nat_le (size_written args.offset args.content n.inner.content) MOST_FILE ≡ true → (e ≡ Memory → ⊥) → Does {A = Unit {0}} {B = Unit {0}} (λ x. x) (write_of t (id_of h.id) args.offset args.content p.moment) t u (Err e) → ⊥
  only_memory e kind fit not_memory does = at e not_memory (subst (λ (d : Result (Doing (Unit {0})) TreeError). Does {A = Unit {0}} {B = Unit {0}} (λ x. x) d t u (Err e)) (told kind fit) does)
    where
      at : (e : TreeError) → (e ≡ Memory → ⊥) → Does {A = Unit {0}} {B = Unit {0}} (λ x. x) (Ok (writes p.moment n args.offset args.content)) t u (Err e) → ⊥
      at Memory not_memory does = not_memory refl
      at e not_memory does = does

  pub succeeds : (rest : World) (s : Lists) → u ≡ ran (data_written p n args) t → Succeeds (length args.content) p rest t u s s (done p (length args.content) (data_written p n args))
  succeeds rest s is = record { answer = refl; place = refl; world = at (is_empty args.content) ∙ ap (λ (x : Rows). with_files rest x s) (sym is) }
    where
      inner : Inner
      inner = data_changed p.moment (written args.offset args.content n.inner.content) n.inner

      at : (b : Bool) → done_to (with_files rest t s) (done p (length args.content) (cond b [] (Touch n.id inner ∷ []))) ≡ with_files rest (ran (cond b [] (Touch n.id inner ∷ [])) t) s
      at true = refl
      at false = refl

-- ---- the totals

-- what is told of the label and of the bytes of a node that is held is counted
pub is_counted : (rows : List Row) (t : Rows) (h : Held) (bytes : ℕ) → IsThere t h → ((n : Node) → Holds t n h → bytes_of n n.kind ≡ bytes) → AreTotals rows t.nodes → ((i : Id) (n : Node) → AreTotals rows t.nodes → node_at t.nodes i ≡ Some n → bytes_of n n.kind ≤ (row_at rows n.label).bytes) → ((i : Id) (n : Node) → AreTotals rows t.nodes → node_at t.nodes i ≡ Some n → IsInBounds n) → AreBytesHeld rows h.facts.label.0 bytes
is_counted rows t h bytes there same totals counted bounds =
    let n = there.0 in
    let holds = there.1 in
    subst (λ (x : ℕ). AreBytesHeld rows h.facts.label.0 x) (same n holds)
    (subst (λ (l : ℕ). AreBytesHeld rows l (bytes_of n n.kind)) (sym holds.tells.label) ((let label : n.label < MAX_LEVELS = (bounds n.id n totals holds.node_is).label in let many : length rows ≡ MAX_LEVELS = totals.levels in omega arith), counted n.id n totals holds.node_is))

-- the size, by the data as it is told
pub fits_so : (offset : ℕ) (bytes content inner : List ℕ) (x : ℕ) → content ≡ inner → Some x ≡ fitting_size (size_written offset bytes content) → (nat_le (size_written offset bytes inner) MOST_FILE ≡ true) × (x ≡ size_written offset bytes inner)
fits_so offset bytes content inner x same e = fits (size_written offset bytes inner) x (e ∙ ap (λ (l : List ℕ). fitting_size (size_written offset bytes l)) same)

pub within : (r q : Bool) → r ≡ true → r ≡ not q → q ≡ false
within r true a b = absurd cc
within r false a b = refl

pub past : (r q : Bool) → r ≡ false → r ≡ not q → q ≡ true
past r true a b = refl
past r false a b = absurd cc

within_most : (size : ℕ) → nat_le size MOST_FILE ≡ true → size ≤ MOST_FILE
within_most size is = grind (arith, nat_tests, is)

-- how many bytes there are afterwards
module _ (rows : List Row) (t u : Rows) (n : Node) (totals : AreTotals rows t.nodes) (at : node_at t.nodes n.id ≡ Some n) (kind : n.kind ≡ File) where
  own : bytes_of n n.kind ≡ length n.inner.content
  own = ap (bytes_of n) kind

  unwritten : AreTotals (resized rows n.label (length n.inner.content) (length n.inner.content)) t.nodes
  unwritten =
      let share : label_share n n.label ≡ bytes_of n n.kind = label_own n in
      let within : label_share n n.label ≤ bytes_used t.nodes n.label = sum-held (λ m. label_share m n.label) n.id n t.nodes at in
      let size : bytes_of n n.kind ≡ length n.inner.content = own in
      let held : length n.inner.content ≤ bytes_used t.nodes n.label = omega arith in
      let label : n.label < MAX_LEVELS = (bounds_found n.id n t.nodes totals.bounds at).label in
      let many : length rows ≡ MAX_LEVELS = totals.levels in
      let known : n.label < length rows = omega arith in
      totals_of t.nodes (sums-resized (sums_of totals) n.label (length n.inner.content) (length n.inner.content) (bytes_used t.nodes) known held (λ k. refl)) (λ k. refl) (λ k. refl)
      (resized_levels rows n.label (length n.inner.content) (length n.inner.content) ∙ totals.levels) totals.bounds

  module _ (p : Place) (args : Arguments)
      (law : (inner : Inner) → bytes_of (record n { inner = inner }) n.kind ≤ MOST_FILE → AreTotals (resized rows n.label (bytes_of n n.kind) (bytes_of (record n { inner = inner }) n.kind)) (apply (Touch n.id inner) (world_of t)).nodes) where
    pub written_totals : nat_le (size_written args.offset args.content n.inner.content) MOST_FILE ≡ true → u ≡ ran (data_written p n args) t → AreTotals (resized rows n.label (length n.inner.content) (size_written args.offset args.content n.inner.content)) u.nodes
    written_totals few is = subst (λ (x : Rows). AreTotals (resized rows n.label (length n.inner.content) (size_written args.offset args.content n.inner.content)) x.nodes) (sym is) (by args.content few)
      where
        after : List ℕ → Inner
        after bytes = data_changed p.moment (written args.offset bytes n.inner.content) n.inner

        size : (b : ℕ) (bytes : List ℕ) → bytes_of (record n { inner = after (b ∷ bytes) }) n.kind ≡ size_written args.offset (b ∷ bytes) n.inner.content
        size b bytes =
            let long : length (written args.offset (b ∷ bytes) n.inner.content) ≡ args.offset + (length (b ∷ bytes) + (length n.inner.content - (args.offset + length (b ∷ bytes)))) = length-written args.offset (b ∷ bytes) n.inner.content in
            ap (bytes_of (record n { inner = after (b ∷ bytes) })) kind ∙ long ∙ omega arith

        by : (bytes : List ℕ) → nat_le (size_written args.offset bytes n.inner.content) MOST_FILE ≡ true → AreTotals (resized rows n.label (length n.inner.content) (size_written args.offset bytes n.inner.content)) (ran (cond (is_empty bytes) [] (Touch n.id (after bytes) ∷ [])) t).nodes
        by [] few = unwritten
        by (b ∷ bytes) few =
            subst (λ (old : ℕ). AreTotals (resized rows n.label old (size_written args.offset (b ∷ bytes) n.inner.content)) (touched n.id (after (b ∷ bytes)) t.nodes)) own
            (subst (λ (new : ℕ). AreTotals (resized rows n.label (bytes_of n n.kind) new) (touched n.id (after (b ∷ bytes)) t.nodes)) (size b bytes) (law (after (b ∷ bytes)) (subst (λ (new : ℕ). new ≤ MOST_FILE) (sym (size b bytes)) (within_most _ few))))
