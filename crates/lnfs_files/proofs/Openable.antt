-- The tests of a file that is there, one after the other.
use Rattle.std.proofs.Common.{◌≡◌, refl, ap, sym, ◌∙◌, ℕ, Bool, true, false, Some, None}
use Rattle.std.specs.Prelude.{not, cond}
use Rattle.lnfs_arguments.specs.declared.statuses.TheConstants.{NFS4ERR_ISDIR, NFS4ERR_SYMLINK, NFS4ERR_EXIST, NFS4ERR_SHARE_DENIED}
use Rattle.lnfs_world.specs.World.{Kind, File, Directory, SymbolicLink, Node, World, is_directory}
use Rattle.lnfs_world.specs.Outcome.{Site, Place, Outcome}
use Rattle.lnfs_monitor.specs.Rules.{Write}
use Rattle.lnfs_operations.specs.declared.Gate.TheVariants.{Namespace, Open}
use Rattle.lnfs_operations.specs.declared.Refusal.{Refusal}
use Rattle.lnfs_operations.specs.Chain.{Answer, refuse, demand}
use Rattle.lnfs_operations.specs.Judged.{where_asked}
use Rattle.lnfs_operations.specs.Lookup.{is_link}
use Rattle.lnfs_operations.specs.Files.{where_file}
use Rattle.lnfs_operations.specs.Open.{Arguments, Opened, where_shared, may_be_there, conflicts}
use Rattle.lnfs_nodes.specs.Trees.{refusal_of, denial}
use Rattle.lnfs_nodes.proofs.Refusing.{refused_as, asked, asked_denied}
use Rattle.lnfs_files.specs.Tests.{passed, refusal_in}
use Rattle.lnfs_files.specs.Openings.{where_openable}

module _ (p : Place) (n : Node) where
  pub file_on : (next : Outcome (Answer Opened)) → None ≡ refusal_in (where_file p n (passed p)) → where_file p n next ≡ next
  file_on next e = at (is_directory n.kind) (is_link n.kind) e
    where
      at : (a b : Bool) → None ≡ refusal_in (demand (not a) (refuse p Namespace NFS4ERR_ISDIR) (demand (not b) (refuse p Namespace NFS4ERR_SYMLINK) (passed p)))
          → demand (not a) (refuse p Namespace NFS4ERR_ISDIR) (demand (not b) (refuse p Namespace NFS4ERR_SYMLINK) next) ≡ next
      at true b e = cc
      at false true e = cc
      at false false e = refl

  pub file_off : (next : Outcome (Answer Opened)) (why : Refusal) → Some (refusal_of why) ≡ refusal_in (where_file p n (passed p)) → where_file p n next ≡ refuse p why.gate why.status
  file_off next why e = at (is_directory n.kind) (is_link n.kind) e
    where
      at : (a b : Bool) → Some (refusal_of why) ≡ refusal_in (demand (not a) (refuse p Namespace NFS4ERR_ISDIR) (demand (not b) (refuse p Namespace NFS4ERR_SYMLINK) (passed p)))
          → demand (not a) (refuse p Namespace NFS4ERR_ISDIR) (demand (not b) (refuse p Namespace NFS4ERR_SYMLINK) next) ≡ refuse p why.gate why.status
      at true b e = refused_as p why (record { gate = Namespace; status = NFS4ERR_ISDIR }) cc
      at false true e = refused_as p why (record { gate = Namespace; status = NFS4ERR_SYMLINK }) cc
      at false false e = cc

-- a file, by the test alone
pub is_file : (p : Place) (n : Node) (k : Kind) → k ≡ n.kind → None ≡ refusal_in (where_file p n (passed p)) → k ≡ File
is_file p n k same e = by k (e ∙ ap (λ (x : Kind). refusal_in (demand (not (is_directory x)) (refuse p Namespace NFS4ERR_ISDIR) (demand (not (is_link x)) (refuse p Namespace NFS4ERR_SYMLINK) (passed p)))) (sym same))
  where
    by : (x : Kind) → None ≡ refusal_in (demand (not (is_directory x)) (refuse p Namespace NFS4ERR_ISDIR) (demand (not (is_link x)) (refuse p Namespace NFS4ERR_SYMLINK) (passed p))) → x ≡ File
    by File e = refl
    by Directory e = cc
    by SymbolicLink e = cc

module _ (site : Site) (args : Arguments) (p : Place) (w : World) (client : ℕ) (sized : Bool) (n : Node) (next : Outcome (Answer Opened)) where
  abbrev undenied : Outcome (Answer Opened)
  undenied = demand (not (conflicts site args p w client n)) (refuse p Open NFS4ERR_SHARE_DENIED) next

  abbrev pub asks : Outcome (Answer Opened)
  asks = where_asked sized site p (Write n.label) undenied

  abbrev pub shares : Outcome (Answer Opened)
  shares = where_shared site p args n.label asks

  abbrev pub there : Outcome (Answer Opened)
  there = demand (may_be_there args.making n) (refuse p Namespace NFS4ERR_EXIST) shares

  to_there : None ≡ refusal_in (where_file p n (passed p)) → where_openable site args p w client sized n next ≡ there
  to_there e = file_on p n there e

  pub not_there : None ≡ refusal_in (where_file p n (passed p)) → may_be_there args.making n ≡ false → where_openable site args p w client sized n next ≡ refuse p Namespace NFS4ERR_EXIST
  not_there e may = to_there e ∙ ap (λ (b : Bool). demand b (refuse p Namespace NFS4ERR_EXIST) shares) may

  -- a file that may be there, whose label is told
  module _ (told : ℕ) (label : told ≡ n.label) (e : None ≡ refusal_in (where_file p n (passed p))) (may : may_be_there args.making n ≡ true) where
    pub to_shares : where_openable site args p w client sized n next ≡ where_shared site p args told asks
    to_shares = to_there e ∙ ap (λ (b : Bool). demand b (refuse p Namespace NFS4ERR_EXIST) shares) may ∙ ap (λ (l : ℕ). where_shared site p args l asks) (sym label)

    module _ (shared : (o : Outcome (Answer Opened)) → where_shared site p args told o ≡ o) where
      pub to_asks : where_openable site args p w client sized n next ≡ asks
      to_asks = to_shares ∙ shared asks

      pub is_denied : (why : Refusal) → Some (refusal_of why) ≡ cond sized (denial site p.subject (Write told)) None → where_openable site args p w client sized n next ≡ refuse p why.gate why.status
      is_denied why is = to_asks ∙ asked_denied sized site p (Write n.label) undenied why (is ∙ ap (λ (l : ℕ). cond sized (denial site p.subject (Write l)) None) label)

      pub to_undenied : None ≡ cond sized (denial site p.subject (Write told)) None → where_openable site args p w client sized n next ≡ undenied
      to_undenied is = to_asks ∙ asked sized site p (Write n.label) undenied (is ∙ ap (λ (l : ℕ). cond sized (denial site p.subject (Write l)) None) label)

  pub in_way : conflicts site args p w client n ≡ true → undenied ≡ refuse p Open NFS4ERR_SHARE_DENIED
  in_way e = ap (λ (b : Bool). demand (not b) (refuse p Open NFS4ERR_SHARE_DENIED) next) e

  pub out_of_way : conflicts site args p w client n ≡ false → undenied ≡ next
  out_of_way e = ap (λ (b : Bool). demand (not b) (refuse p Open NFS4ERR_SHARE_DENIED) next) e
