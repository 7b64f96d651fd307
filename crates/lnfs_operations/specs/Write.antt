-- WRITE and COMMIT (RFC 8881 sections 18.32 and 18.3). What is written stands at once.
use Rattle.std.specs.Prelude.{ℕ, cond, List, [], ◌∷◌, length, nat_le}
use Rattle.lnfs_words.specs.Words.{is_empty}
use Rattle.lnfs_world.specs.World.{Node}
use Rattle.lnfs_world.specs.Change.{Change, Touch}
use Rattle.lnfs_world.specs.Effects.{written, size_written, data_changed}
use Rattle.lnfs_world.specs.Outcome.{Site, Place, Act}
use Rattle.lnfs_arguments.specs.declared.stateid.StateId.{StateId}
use Rattle.lnfs_arguments.specs.declared.statuses.TheConstants.{NFS4ERR_INVAL}
use Rattle.lnfs_monitor.specs.Rules as rules
use Rattle.lnfs_operations.specs.declared.Gate.TheVariants.{Argument}
use Rattle.lnfs_operations.specs.declared.numbers.TheConstants.{FILE_SYNC4}
use Rattle.lnfs_operations.specs.Chain.{Answer, refuse, done, demand}
use Rattle.lnfs_operations.specs.Judged.{where_allowed}
use Rattle.lnfs_operations.specs.Handles.{with_current}
use Rattle.lnfs_operations.specs.StateIds.{Writing, where_usable}
use Rattle.lnfs_operations.specs.Files.{where_file, where_fitting}

pub record Arguments : Type 0 where
  pub id : StateId
  pub offset : ℕ
  pub stable : ℕ
  pub content : List ℕ

-- no bytes change nothing
abbrev pub data_written : Place → Node → Arguments → List Change
data_written p n args =
    cond (is_empty args.content) []
    (Touch n.id (data_changed p.moment (written args.offset args.content n.inner.content) n.inner) ∷ [])

-- how many bytes were written: all
abbrev pub write : Site → Arguments → Act (Answer ℕ)
write site args p w =
    demand (nat_le args.stable FILE_SYNC4) (refuse p Argument NFS4ERR_INVAL) (
    with_current p w (λ n.
    where_file p n (
    where_allowed site p (rules.Write n.label) (
    where_usable site p w n args.id Writing (
    where_fitting site p w n (size_written args.offset args.content n.inner.content) (
    done p (length args.content) (data_written p n args)))))))

abbrev pub commit : Site → Act (Answer (Unit {0}))
commit site p w =
    with_current p w (λ n.
    where_file p n (
    where_allowed site p (rules.Write n.label) (
    done p tt [])))
