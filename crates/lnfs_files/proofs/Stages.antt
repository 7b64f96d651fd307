-- The tests of an operation's definition, one after the other: what follows them all follows where they refuse nothing, and
-- else what refuses is what they refuse where nothing follows.
use Rattle.std.proofs.Common.{◌≡◌, refl, ap, sym, ◌∙◌, ℕ, Bool, true, false, not, Option, Some, None, Result, Ok, Err}
use Rattle.std.specs.Prelude.{IsErrAnd, if◌then◌else◌}
use Rattle.lnfs_arguments.specs.declared.statuses.TheConstants.{NFS4ERR_ISDIR, NFS4ERR_SYMLINK}
use Rattle.lnfs_world.specs.World.{Kind, File, Directory, SymbolicLink, Node, is_directory}
use Rattle.lnfs_world.specs.Outcome.{Site, Place, Outcome}
use Rattle.lnfs_monitor.specs.Rules.{Asks, allows, rule_of}
use Rattle.lnfs_operations.specs.declared.Gate.{Gate}
use Rattle.lnfs_operations.specs.declared.Gate.TheVariants.{Monitor, Namespace}
use Rattle.lnfs_operations.specs.declared.Refusal.{Refusal}
use Rattle.lnfs_operations.specs.Chain.{Answer, refuse, demand}
use Rattle.lnfs_operations.specs.Chain as chain
use Rattle.lnfs_operations.specs.Lookup.{is_link}
use Rattle.lnfs_operations.specs.Judged.{denied_with, where_allowed}
use Rattle.lnfs_operations.specs.Files.{where_file}
use Rattle.lnfs_nodes.specs.Trees.{refusal_of, denial}
use Rattle.lnfs_nodes.specs.Acts.{failed}
use Rattle.lnfs_files.specs.Tests.{passed, refusal_in, refused, tested}

-- ---- what comes of a test

module _ {R : Type 0} (p : Place) (o next : Outcome (Answer R)) (found : Option chain.Refusal) (is : o ≡ tested p found next) where
  -- nothing is refused
  pub goes_on : None ≡ found → o ≡ next
  goes_on e = is ∙ ap (λ (r : Option chain.Refusal). tested p r next) (sym e)

  pub refuses : (why : chain.Refusal) → Some why ≡ found → o ≡ refuse p why.gate why.status
  refuses why e = is ∙ ap (λ (r : Option chain.Refusal). tested p r next) (sym e)

  -- the same of what is told of it
  pub tells_next : (told : Option chain.Refusal) → None ≡ found → told ≡ refusal_in next → told ≡ refusal_in o
  tells_next told e same = same ∙ sym (ap refusal_in (goes_on e))

  pub tells_why : (why : chain.Refusal) → Some why ≡ found → Some why ≡ refusal_in o
  tells_why why e = sym (ap refusal_in (refuses why e))

-- a refusal of the definition, by another name
pub same_why : {R : Type 0} (p : Place) (gate : Gate) (status : ℕ) (why : chain.Refusal) → Some why ≡ Some (record { gate = gate; status = status }) → refuse {R = R} p gate status ≡ refuse p why.gate why.status
same_why {R} p gate status why e = refuses p (refuse {R = R} p gate status) (refuse p gate status) (Some (record { gate = gate; status = status })) refl why e

-- a refusal that `?` hands on
pub err_refused : {A : Type 0} (r : Result A Refusal) (why : Refusal) → IsErrAnd r (λ e. e ≡ why) → refused r ≡ Some (refusal_of why)
err_refused (Ok a) why is = absurd is
err_refused (Err e) why is = ap (λ (x : Refusal). Some (refusal_of x)) is

pub err_is : (r : Result (Unit {0}) Refusal) (why : Refusal) → IsErrAnd r (λ e. e ≡ why) → r ≡ Err why
err_is (Ok a) why is = absurd is
err_is (Err e) why is = ap (λ (x : Refusal). Err x) is

pub err_failed : (r : Result (Unit {0}) Refusal) (why : Refusal) → IsErrAnd r (λ e. e ≡ why) → failed r ≡ Some (refusal_of why)
err_failed (Ok a) why is = absurd is
err_failed (Err e) why is = ap (λ (x : Refusal). Some (refusal_of x)) is

-- ---- one test before others

module _ {R : Type 0} (p : Place) (next : Outcome (Answer R)) where
  -- what an outcome is where another tells which test refuses
  abbrev pub Follows : Outcome (Answer R) → Outcome (Answer (Unit {0})) → Type 0
  Follows x y = x ≡ tested p (refusal_in y) next

  pub all_passed : Follows next (passed p)
  all_passed = refl

  pub refused_there : (gate : Gate) (status : ℕ) → Follows (refuse p gate status) (refuse p gate status)
  refused_there gate status = refl

  pub demand_stage : (b : Bool) (gate : Gate) (status : ℕ) (x : Outcome (Answer R)) (y : Outcome (Answer (Unit {0}))) → Follows x y → Follows (demand b (refuse p gate status) x) (demand b (refuse p gate status) y)
  demand_stage true gate status x y e = e
  demand_stage false gate status x y e = refl

  abbrev of_kind : {A : Type 0} → Kind → Outcome (Answer A) → Outcome (Answer A)
  of_kind kind z = demand (not (is_directory kind)) (refuse p Namespace NFS4ERR_ISDIR) (demand (not (is_link kind)) (refuse p Namespace NFS4ERR_SYMLINK) z)

  pub file_stage : (n : Node) (x : Outcome (Answer R)) (y : Outcome (Answer (Unit {0}))) → Follows x y → Follows (where_file p n x) (where_file p n y)
  file_stage n x y e = at n.kind
    where
      at : (kind : Kind) → Follows (of_kind kind x) (of_kind kind y)
      at File = e
      at Directory = refl
      at SymbolicLink = refl

  pub allowed_stage : (site : Site) (asks : Asks) (x : Outcome (Answer R)) (y : Outcome (Answer (Unit {0}))) → Follows x y → Follows (where_allowed site p asks x) (where_allowed site p asks y)
  allowed_stage site asks x y e = demand_stage (allows site.dom p.subject asks) (Monitor (rule_of asks)) (denied_with (rule_of asks)) x y e

-- ---- the tests themselves

module _ {R : Type 0} (p : Place) where
  pub file_tested : (n : Node) (next : Outcome (Answer R)) → where_file p n next ≡ tested p (refusal_in (where_file p n (passed p))) next
  file_tested n next = file_stage p next n next (passed p) refl

  pub allowed_tested : (site : Site) (asks : Asks) (next : Outcome (Answer R)) → where_allowed site p asks next ≡ tested p (denial site p.subject asks) next
  allowed_tested site asks next = at (allows site.dom p.subject asks)
    where
      at : (b : Bool) → demand b (refuse p (Monitor (rule_of asks)) (denied_with (rule_of asks))) next ≡ tested p (if b then None else Some (record { gate = Monitor (rule_of asks); status = denied_with (rule_of asks) })) next
      at true = refl
      at false = refl
