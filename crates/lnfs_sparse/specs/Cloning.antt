-- CLONE as the code goes through it.
use Rattle.std.specs.Prelude.{◌≡◌, ◌+◌, ℕ, true, false, cond, List, [], ◌∷◌, length, Option, Some, None, Result, Ok, Err, nat_le, not}
use Rattle.lnfs_words.specs.Words.{is_empty}
use Rattle.lnfs_arguments.specs.declared.statuses.TheConstants.{NFS4ERR_INVAL}
use Rattle.lnfs_world.specs.declared.numbers.TheConstants.{MOST_FILE}
use Rattle.lnfs_world.specs.World.{File, Node, World}
use Rattle.lnfs_world.specs.Change.{Change, Touch}
use Rattle.lnfs_world.specs.Effects.{size_written}
use Rattle.lnfs_world.specs.Outcome.{Site, Place, Outcome}
use Rattle.lnfs_monitor.specs.Rules.{Read, Write}
use Rattle.lnfs_operations.specs.declared.Gate.TheVariants.{Namespace}
use Rattle.lnfs_operations.specs.declared.Refusal.{Refusal}
use Rattle.lnfs_operations.specs.Chain.{Answer, refuse, done, demand}
use Rattle.lnfs_operations.specs.Judged.{where_allowed}
use Rattle.lnfs_operations.specs.Handles.{with_node, with_current}
use Rattle.lnfs_operations.specs.StateIds.{Reading, Writing, where_usable}
use Rattle.lnfs_operations.specs.Files.{where_fitting}
use Rattle.lnfs_tree.specs.Rows.{rows_of}
use Rattle.lnfs_nodes.specs.Trees.{Holds}
use Rattle.lnfs_sparse_ops.specs.Arguments.{CloneArgs}
use Rattle.lnfs_sparse_ops.specs.Regions.{where_ordinary}
use Rattle.lnfs_sparse_ops.specs.Clone.{bytes_cloned, overlap, with_clone, cloned, clone}
use Rattle.lnfs_sparse.specs.declared.clone.Files.{Files}

-- how many bytes a file has, if any file has so many
abbrev pub IsSize : ℕ → Option ℕ → Type 0
IsSize size (Some told) = told ≡ size
IsSize size None = nat_le size MOST_FILE ≡ false

-- ---- the tests, by what follows on the source and the target

abbrev pub Next : Type 0
Next = (source target : Node) → Outcome (Answer (Unit {0}))

-- two ordinary files
abbrev pub where_files : Place → World → Next → Outcome (Answer (Unit {0}))
where_files p w next =
    with_node p w p.saved (λ s.
    with_current p w (λ t.
    where_ordinary p s (
    where_ordinary p t (next s t))))

-- that labels and open state let be copied
abbrev pub where_open_files : Site → CloneArgs → Place → World → Next → Outcome (Answer (Unit {0}))
where_open_files site args p w next =
    where_files p w (λ s t.
    where_allowed site p (Read s.label) (
    where_allowed site p (Write t.label) (
    where_usable site p w s args.source Reading (
    where_usable site p w t args.target Writing (next s t)))))

-- ---- the files that are found

pub record AreHeld (w : World) (s t : Node) (f : Files) : Type 0 where
  pub source : Holds (rows_of w) s f.source
  pub target : Holds (rows_of w) t f.target
  pub source_file : s.kind ≡ File
  pub target_file : t.kind ≡ File

pub record AreLed (o : Next → Outcome (Answer (Unit {0}))) (w : World) (f : Files) : Type 0 where
  pub source : Node
  pub target : Node
  pub held : AreHeld w source target f
  pub leads : (next : Next) → o next ≡ next source target

-- files that tests lead to, or what refuses the operation
abbrev pub LeadsTo : (Next → Outcome (Answer (Unit {0}))) → Place → World → Result Files Refusal → Type 0
LeadsTo o p w (Ok f) = AreLed o w f
LeadsTo o p w (Err why) = (next : Next) → o next ≡ refuse p why.gate why.status

-- ---- the ranges

abbrev pub where_copied : Site → CloneArgs → Place → World → (source target : Node) → Outcome (Answer (Unit {0})) → Outcome (Answer (Unit {0}))
where_copied site args p w s t next =
    demand (nat_le (args.from + args.count) (length s.inner.content)) (refuse p Namespace NFS4ERR_INVAL) (
    demand (not (overlap args s t)) (refuse p Namespace NFS4ERR_INVAL) (
    where_fitting site p w t (size_written args.to (bytes_cloned args s) t.inner.content) next))

-- ---- what is copied

-- the change of the target
abbrev pub copied : Place → CloneArgs → (source target : Node) → List Change
copied p args s t = cond (is_empty (bytes_cloned args s)) [] (Touch t.id (with_clone p args s t).inner ∷ [])

-- whether a range of the source is copied that it has, and not onto itself, to where it fits
pub record MayCopy (args : CloneArgs) (s t : Node) : Type 0 where
  pub within : nat_le (args.from + args.count) (length s.inner.content) ≡ true
  pub apart : overlap args s t ≡ false
  pub fits : nat_le (size_written args.to (bytes_cloned args s) t.inner.content) MOST_FILE ≡ true

-- ---- the whole of it

pub record MayClone (site : Site) (args : CloneArgs) (p : Place) (w : World) (f : Files) : Type 0 where
  pub source : Node
  pub target : Node
  pub held : AreHeld w source target f
  pub may : MayCopy args source target
  pub leads : clone site args p w ≡ done p tt (cloned p args source target)

-- it is led to files of which the one may be copied to the other, or refused
abbrev pub Clones : Site → CloneArgs → Place → World → Result Files Refusal → Type 0
Clones site args p w (Ok f) = MayClone site args p w f
Clones site args p w (Err why) = clone site args p w ≡ refuse p why.gate why.status

-- files that are held, of which the one may be copied to the other
pub record MayBeCopied (args : CloneArgs) (w : World) (f : Files) : Type 0 where
  pub source : Node
  pub target : Node
  pub held : AreHeld w source target f
  pub may : MayCopy args source target
