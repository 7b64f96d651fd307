-- What ALLOCATE, DEALLOCATE, SEEK and CLONE come to: a refusal, or a success that sets files at the subject's label.
use Rattle.std.proofs.Common.{◌≡◌, ◌≤◌, ◌<◌, ◌+◌, ℕ, Bool, true, false, cond, not, List, [], ◌∷◌, ◌++◌, length, Some, Ok, Err, refl, sym, ◌∙◌, arith}
use Rattle.std.specs.Prelude.{◌==◌, nat_le, nat_lt, max}
use Rattle.std.proofs.lemmas.Bool.{false≢true}
use Rattle.std.proofs.lemmas.Bool.Decides.{nat_tests}
use Rattle.lnfs_words.specs.Words.{is_empty}
use Rattle.lnfs_xdr.specs.Reading.{Read as ReadOf, read}
use Rattle.lnfs_arguments.specs.declared.statuses.TheConstants.{NFS4ERR_BADXDR, NFS4ERR_INVAL, NFS4ERR_NOTSUPP}
use Rattle.lnfs_content.specs.Sparse.{zeroed, has_region}
use Rattle.lnfs_content.proofs.Zeros.{length-zeroed}
use Rattle.lnfs_world.specs.declared.numbers.TheConstants.{MOST_FILE}
use Rattle.lnfs_world.specs.World.{Kind, File, Directory, SymbolicLink, Inner, Node, World, same_id, node_at, is_directory}
use Rattle.lnfs_world.specs.Change.{Change, Touch, apply}
use Rattle.lnfs_world.specs.Effects.{sized, written, size_written, data_changed}
use Rattle.lnfs_world.specs.Outcome.{Site, Place, Outcome}
use Rattle.lnfs_operations.specs.declared.Gate.TheVariants as gates
use Rattle.lnfs_operations.specs.Accessed.{accessed}
use Rattle.lnfs_operations.specs.Bounds.{HoldsBy}
use Rattle.lnfs_operations.specs.Chain.{Answer, refuse, done}
use Rattle.lnfs_operations.specs.Lookup.{is_link}
use Rattle.lnfs_operations.specs.StateIds.{Reading, Writing}
use Rattle.lnfs_operations.proofs.Chains.{demand_any}
use Rattle.lnfs_operations.proofs.NodeBounds.{length-sized, length-written, accessed_bounds, data_bounds}
use Rattle.lnfs_sparse_ops.specs.declared.numbers.TheConstants.{OP_ALLOCATE, OP_DEALLOCATE, OP_SEEK, OP_CLONE, NFS4_CONTENT_HOLE, NFS4ERR_NXIO, NFS4ERR_UNION_NOTSUPP}
use Rattle.lnfs_sparse_ops.specs.Arguments.{RegionArgs, SeekArgs, CloneArgs, region_args, seek_args, clone_args}
use Rattle.lnfs_sparse_ops.specs.Regions.{is_region, end_of, is_file}
use Rattle.lnfs_sparse_ops.specs.Allocate.{size_allocated, allocated, allocate}
use Rattle.lnfs_sparse_ops.specs.Deallocate.{deallocated, deallocate}
use Rattle.lnfs_sparse_ops.specs.Seek.{Sought, sought, seek, seek_text}
use Rattle.lnfs_sparse_ops.specs.Clone.{are_ranges, bytes_cloned, overlap, cloned, clone}
use Rattle.lnfs_sparse_ops.specs.Outcome.{told, plain, with_arguments, answered}
use Rattle.lnfs_sparse_ops.proofs.SetFiles.{Sets, AllSet, node_touched, other_node}
use Rattle.lnfs_sparse_ops.proofs.Walks.{Refusals, at_node, at_current, ordinary, may_read, may_write, usable, fitting}

-- ---- a file

file_plain : (k : Kind) → is_file k ≡ true → is_directory k ≡ false
file_plain File is = refl
file_plain Directory is = absurd (false≢true is)
file_plain SymbolicLink is = absurd (false≢true is)

file_other : (k : Kind) → is_file k ≡ true → is_link k ≡ false
file_other File is = refl
file_other Directory is = absurd (false≢true is)
file_other SymbolicLink is = absurd (false≢true is)

file_short : (k : Kind) (inner : Inner) → is_file k ≡ true → HoldsBy k inner → length inner.content ≤ MOST_FILE
file_short File inner is holds = holds.0
file_short Directory inner is holds = absurd (false≢true is)
file_short SymbolicLink inner is holds = absurd (false≢true is)

some_bytes : (bytes : List ℕ) → is_empty bytes ≡ false → 0 < length bytes
some_bytes [] is = absurd (false≢true (sym is))
some_bytes (b ∷ bytes) is = omega arith

-- ---- what is set of it

module _ (p : Place) where
  -- its data, of which there are no more than may be
  data_set : (w : World) (n : Node) (content : List ℕ) → node_at w.nodes n.id ≡ Some n → is_file n.kind ≡ true → (p.subject == n.label) ≡ true → (length n.inner.content ≤ MOST_FILE → length content ≤ MOST_FILE) →
      Sets p.subject w (Touch n.id (data_changed p.moment content n.inner))
  data_set w n content found file own short = record {
    node = n;
    inner = data_changed p.moment content n.inner;
    is = refl;
    found = found;
    own = own;
    link = file_other n.kind file;
    stored = refl;
    cookies = refl;
    bounds = λ before. data_bounds n.kind p.moment content n.inner (file_plain n.kind file) (file_other n.kind file) (short (file_short n.kind n.inner file before.holds)) before;
  }

  -- its time of access
  access_set : (w : World) (n : Node) → node_at w.nodes n.id ≡ Some n → is_file n.kind ≡ true → AllSet p.subject w (accessed p n)
  access_set w n found file = at (p.subject == n.label) refl
    where
      at : (b : Bool) → (p.subject == n.label) ≡ b → AllSet p.subject w (cond b (Touch n.id (record n.inner { accessed = p.moment }) ∷ []) [])
      at true own = (
        record {
          node = n;
          inner = record n.inner { accessed = p.moment };
          is = refl;
          found = found;
          own = own;
          link = file_other n.kind file;
          stored = refl;
          cookies = refl;
          bounds = λ before. accessed_bounds n.kind p.moment n.inner before;
        },
        tt,
      )
      at false own = tt

  allocated_set : (w : World) (n : Node) (args : RegionArgs) → node_at w.nodes n.id ≡ Some n → is_file n.kind ≡ true → (p.subject == n.label) ≡ true → nat_le (size_allocated args n) MOST_FILE ≡ true → AllSet p.subject w (allocated p n args)
  allocated_set w n args found file own small = at (nat_lt (length n.inner.content) (end_of args))
    where
      most : max (length n.inner.content) (end_of args) ≤ MOST_FILE
      most = grind (arith, nat_tests, small)

      at : (b : Bool) → AllSet p.subject w (cond b (Touch n.id (data_changed p.moment (sized (end_of args) n.inner.content) n.inner) ∷ []) [])
      at true = (data_set w n (sized (end_of args) n.inner.content) found file own (λ before. omega (arith, most, length-sized (end_of args) n.inner.content)), tt)
      at false = tt

  deallocated_set : (w : World) (n : Node) (args : RegionArgs) → node_at w.nodes n.id ≡ Some n → is_file n.kind ≡ true → (p.subject == n.label) ≡ true → AllSet p.subject w (deallocated p n args)
  deallocated_set w n args found file own = at (has_region args.offset (end_of args) n.inner.content)
    where
      at : (b : Bool) → AllSet p.subject w (cond b (Touch n.id (data_changed p.moment (zeroed args.offset (end_of args) n.inner.content) n.inner) ∷ []) [])
      at true = (data_set w n (zeroed args.offset (end_of args) n.inner.content) found file own (λ before. omega (arith, before, length-zeroed args.offset (end_of args) n.inner.content)), tt)
      at false = tt

  -- the target's data, and then the source's time of access, which may be the target's
  module _ (w : World) (args : CloneArgs) (s t : Node) (found_s : node_at w.nodes s.id ≡ Some s) (found_t : node_at w.nodes t.id ≡ Some t) (file_s : is_file s.kind ≡ true) (file_t : is_file t.kind ≡ true)
      (own : (p.subject == t.label) ≡ true) (small : nat_le (size_written args.to (bytes_cloned args s) t.inner.content) MOST_FILE ≡ true) where
    abbrev target : Bool → Node
    target empty = cond empty t (record t { inner = data_changed p.moment (written args.to (bytes_cloned args s) t.inner.content) t.inner })

    target_set : is_empty (bytes_cloned args s) ≡ false → Sets p.subject w (Touch t.id (data_changed p.moment (written args.to (bytes_cloned args s) t.inner.content) t.inner))
    target_set some =
        let long = length-written args.to (bytes_cloned args s) t.inner.content (some_bytes (bytes_cloned args s) some) in
        let most : size_written args.to (bytes_cloned args s) t.inner.content ≤ MOST_FILE = grind (arith, nat_tests, small) in
        data_set w t (written args.to (bytes_cloned args s) t.inner.content) found_t file_t own (λ before. omega (arith, most, long))

    pub cloned_set : AllSet p.subject w (cloned p args s t)
    cloned_set = at (is_empty (bytes_cloned args s)) (same_id s.id t.id) refl refl
      where
        at : (empty same : Bool) → is_empty (bytes_cloned args s) ≡ empty → same_id s.id t.id ≡ same →
            AllSet p.subject w (cond empty [] (Touch t.id (target empty).inner ∷ []) ++ accessed p (cond same (target empty) s))
        at true true none is = access_set w t found_t file_t
        at true false none is = access_set w s found_s file_s
        at false true some is = (target_set some, access_set (apply (Touch t.id (target false).inner) w) (target false) (node_touched t.id (target false).inner t w.nodes found_t) file_t)
        at false false some is = (target_set some, access_set (apply (Touch t.id (target false).inner) w) s (other_node t.id (target false).inner s.id w.nodes is ∙ found_s) file_s)

-- ---- the operations

module _ (site : Site) (p : Place) (w : World) where
  pub allocate_any : (P : Outcome (Answer (Unit {0})) → Type 0) → Refusals P site p w → ((r : Unit {0}) (changes : List Change) → AllSet p.subject w changes → P (done p r changes)) → (args : RegionArgs) → P (allocate site args p w)
  allocate_any P refusals ended args =
      demand_any P (is_region args.offset args.length) _ _ (refusals.plain gates.Argument NFS4ERR_INVAL (record { failed = refl; rule = refl })) (λ region.
      at_current P site p w refusals _ (λ n found.
      ordinary P site p w refusals n _ (λ file.
      may_write P site p w refusals n _ found (λ own.
      usable P site p w refusals n args.id Writing _ (
      fitting P site p w refusals n (size_allocated args n) _ (λ small.
      ended tt (allocated p n args) (allocated_set p w n args found file own small)))))))

  pub deallocate_any : (P : Outcome (Answer (Unit {0})) → Type 0) → Refusals P site p w → ((r : Unit {0}) (changes : List Change) → AllSet p.subject w changes → P (done p r changes)) → (args : RegionArgs) → P (deallocate site args p w)
  deallocate_any P refusals ended args =
      demand_any P (is_region args.offset args.length) _ _ (refusals.plain gates.Argument NFS4ERR_INVAL (record { failed = refl; rule = refl })) (λ region.
      at_current P site p w refusals _ (λ n found.
      ordinary P site p w refusals n _ (λ file.
      may_write P site p w refusals n _ found (λ own.
      usable P site p w refusals n args.id Writing _ (
      ended tt (deallocated p n args) (deallocated_set p w n args found file own))))))

  pub seek_any : (P : Outcome (Answer Sought) → Type 0) → Refusals P site p w → ((r : Sought) (changes : List Change) → AllSet p.subject w changes → P (done p r changes)) → (args : SeekArgs) → P (seek site args p w)
  seek_any P refusals ended args =
      demand_any P (nat_le args.what NFS4_CONTENT_HOLE) _ _ (refusals.plain gates.Argument NFS4ERR_UNION_NOTSUPP (record { failed = refl; rule = refl })) (λ known.
      at_current P site p w refusals _ (λ n found.
      ordinary P site p w refusals n _ (λ file.
      may_read P site p w refusals n _ found (
      usable P site p w refusals n args.id Reading _ (
      demand_any P (nat_lt args.offset (length n.inner.content)) _ _ (refusals.plain gates.Namespace NFS4ERR_NXIO (record { failed = refl; rule = refl })) (λ there.
      ended (sought args n) (accessed p n) (access_set p w n found file)))))))

  pub clone_any : (P : Outcome (Answer (Unit {0})) → Type 0) → Refusals P site p w → ((r : Unit {0}) (changes : List Change) → AllSet p.subject w changes → P (done p r changes)) → (args : CloneArgs) → P (clone site args p w)
  clone_any P refusals ended args =
      let inval = refusals.plain gates.Namespace NFS4ERR_INVAL (record { failed = refl; rule = refl }) in
      demand_any P (are_ranges args) _ _ (refusals.plain gates.Argument NFS4ERR_INVAL (record { failed = refl; rule = refl })) (λ ranges.
      at_node P site p w refusals p.saved _ (λ s found_s.
      at_current P site p w refusals _ (λ t found_t.
      ordinary P site p w refusals s _ (λ file_s.
      ordinary P site p w refusals t _ (λ file_t.
      may_read P site p w refusals s _ found_s (
      may_write P site p w refusals t _ found_t (λ own.
      usable P site p w refusals s args.source Reading _ (
      usable P site p w refusals t args.target Writing _ (
      demand_any P (nat_le (args.from + args.count) (length s.inner.content)) _ _ inval (λ there.
      demand_any P (not (overlap args s t)) _ _ inval (λ apart.
      fitting P site p w refusals t (size_written args.to (bytes_cloned args s) t.inner.content) _ (λ small.
      ended tt (cloned p args s t) (cloned_set p w args s t found_s found_t file_s file_t own small)))))))))))))

  -- by number and arguments
  module _ (P : Outcome (Answer (List ℕ)) → Type 0) (refusals : Refusals P site p w) (ended : (bytes : List ℕ) (changes : List Change) → AllSet p.subject w changes → P (done p bytes changes)) where
    told_refusals : {R : Type 0} (text : R → List ℕ) → Refusals {R = R} (λ o. P (told text o)) site p w
    told_refusals text = record { plain = refusals.plain; unread = refusals.unread; unwritten = refusals.unwritten }

    read_any : {A : Type 0} (r : ReadOf ⊥ A) (next : A → Outcome (Answer (List ℕ))) → ((args : A) → P (next args)) → P (with_arguments p r next)
    read_any (Ok x) next is = is x.0
    read_any (Err stuck) next is = refusals.plain gates.Argument NFS4ERR_BADXDR (record { failed = refl; rule = refl })

    pub answered_any : (number : ℕ) (arguments : List ℕ) → P (answered site number arguments p w)
    answered_any number arguments = by (number == OP_ALLOCATE) (number == OP_DEALLOCATE) (number == OP_SEEK) (number == OP_CLONE)
      where
        by : (a d s c : Bool) → P (cond a (with_arguments p (read region_args arguments) (λ args. plain (allocate site args p w)))
            (cond d (with_arguments p (read region_args arguments) (λ args. plain (deallocate site args p w)))
            (cond s (with_arguments p (read seek_args arguments) (λ args. told seek_text (seek site args p w)))
            (cond c (with_arguments p (read clone_args arguments) (λ args. plain (clone site args p w)))
            (refuse p gates.Outside NFS4ERR_NOTSUPP)))))
        by true d s c = read_any (read region_args arguments) _ (λ args. allocate_any (λ o. P (plain o)) (told_refusals (λ r. [])) (λ r changes set. ended [] changes set) args)
        by false true s c = read_any (read region_args arguments) _ (λ args. deallocate_any (λ o. P (plain o)) (told_refusals (λ r. [])) (λ r changes set. ended [] changes set) args)
        by false false true c = read_any (read seek_args arguments) _ (λ args. seek_any (λ o. P (told seek_text o)) (told_refusals seek_text) (λ r changes set. ended (seek_text r) changes set) args)
        by false false false true = read_any (read clone_args arguments) _ (λ args. clone_any (λ o. P (plain o)) (told_refusals (λ r. [])) (λ r changes set. ended [] changes set) args)
        by false false false false = refusals.plain gates.Outside NFS4ERR_NOTSUPP (record { failed = refl; rule = refl })
