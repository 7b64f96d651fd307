-- READ (RFC 8881 section 18.22).
use Rattle.std.specs.Prelude.{ℕ, ◌+◌, Bool, List, length, min, nat_le}
use Rattle.lnfs_world.specs.World.{Node}
use Rattle.lnfs_world.specs.Effects.{read_at}
use Rattle.lnfs_world.specs.Outcome.{Site, Act}
use Rattle.lnfs_arguments.specs.declared.stateid.StateId.{StateId}
use Rattle.lnfs_results.specs.declared.limits.TheConstants.{MOST_DATA}
use Rattle.lnfs_monitor.specs.Rules as rules
use Rattle.lnfs_operations.specs.Chain.{Answer, done}
use Rattle.lnfs_operations.specs.Judged.{where_allowed}
use Rattle.lnfs_operations.specs.Handles.{with_current}
use Rattle.lnfs_operations.specs.StateIds.{Reading, where_usable}
use Rattle.lnfs_operations.specs.Files.{where_file}
use Rattle.lnfs_operations.specs.Accessed.{accessed}

pub record Arguments : Type 0 where
  pub id : StateId
  pub offset : ℕ
  pub count : ℕ

pub record Data : Type 0 where
  pub content : List ℕ
  -- whether nothing is left behind it
  pub eof : Bool

abbrev pub content_read : Arguments → Node → List ℕ
content_read args n = read_at args.offset (min args.count MOST_DATA) n.inner.content

abbrev pub read_from : Arguments → Node → Data
read_from args n = record {
  content = content_read args n;
  eof = nat_le (length n.inner.content) (args.offset + length (content_read args n));
}

abbrev pub read : Site → Arguments → Act (Answer Data)
read site args p w =
    with_current p w (λ n.
    where_file p n (
    where_allowed site p (rules.Read n.label) (
    where_usable site p w n args.id Reading (
    done p (read_from args n) (accessed p n)))))
