-- Walks through the tests of an operation: what holds of each refusal that may come, and of what stands behind the tests, holds of
-- its outcome. A refusal has a status other than 0; one by a rule of labels is of a node that the subject may not read or write.
use Rattle.std.proofs.Common.{◌≡◌, ℕ, Bool, true, false, not, ◌||◌, Option, Some, None, refl, ap, ◌∙◌}
use Rattle.std.specs.Prelude.{◌==◌, nat_le}
use Rattle.lnfs_arguments.specs.declared.stateid.StateId.{StateId}
use Rattle.lnfs_arguments.specs.declared.statuses.TheConstants.{NFS4ERR_ACCESS, NFS4ERR_STALE, NFS4ERR_NOFILEHANDLE, NFS4ERR_BAD_STATEID, NFS4ERR_OLD_STATEID, NFS4ERR_OPENMODE, NFS4ERR_LOCKED, NFS4ERR_FBIG, NFS4ERR_DQUOT, NFS4ERR_WRONG_TYPE}
use Rattle.lnfs_monitor.specs.declared.rule.Rule.TheVariants.{M1, M2, M9}
use Rattle.lnfs_monitor.specs.Rules.{Read, Write}
use Rattle.lnfs_world.specs.declared.numbers.TheConstants.{MOST_FILE}
use Rattle.lnfs_world.specs.Opens.{has_any}
use Rattle.lnfs_world.specs.World.{Id, Node, Open, World, node_at}
use Rattle.lnfs_world.specs.Outcome.{Site, Place, Outcome}
use Rattle.lnfs_world.proofs.Seen.{node_at-id}
use Rattle.lnfs_operations.specs.declared.Gate.{Gate}
use Rattle.lnfs_operations.specs.declared.Gate.TheVariants as gates
use Rattle.lnfs_operations.specs.Carried.{is_rule}
use Rattle.lnfs_operations.specs.Chain.{Answer, refuse, demand}
use Rattle.lnfs_operations.specs.Files.{passes_quota, where_fitting}
use Rattle.lnfs_operations.specs.Handles.{handle_named, with_node, with_current}
use Rattle.lnfs_operations.specs.Judged.{where_allowed}
use Rattle.lnfs_operations.specs.StateIds.{Special, Anonymous, Bypass, Current, special, open_at, where_open, Way, Reading, Writing, bit_of, is_denied, where_undenied, where_usable_by, where_usable}
use Rattle.lnfs_operations.proofs.Chains.{demand_any, where_any}
use Rattle.lnfs_sparse_ops.specs.Regions.{is_file, where_ordinary}

-- a test, with what is known where it fails
pub either : {A : Type 0} (P : Outcome A → Type 0) (test : Bool) (refusal next : Outcome A) → (test ≡ false → P refusal) → (test ≡ true → P next) → P (demand test refusal next)
either P true refusal next a b = b refl
either P false refusal next a b = a refl

-- a refusal that tells nothing of labels
pub record IsPlain (gate : Gate) (status : ℕ) : Type 0 where
  pub failed : (status == 0) ≡ false
  pub rule : is_rule gate ≡ false

-- what is known of each refusal, by P
pub record Refusals {R : Type 0} (P : Outcome (Answer R) → Type 0) (site : Site) (p : Place) (w : World) : Type 0 where
  pub plain : (gate : Gate) (status : ℕ) → IsPlain gate status → P (refuse p gate status)
  pub unread : (n : Node) → node_at w.nodes n.id ≡ Some n → site.dom p.subject n.label ≡ false → P (refuse p (gates.Monitor M1) NFS4ERR_ACCESS)
  pub unwritten : (n : Node) → node_at w.nodes n.id ≡ Some n → (p.subject == n.label) ≡ false → P (refuse p (gates.Monitor M2) NFS4ERR_ACCESS)

module _ {R : Type 0} (P : Outcome (Answer R) → Type 0) (site : Site) (p : Place) (w : World) (refusals : Refusals P site p w) where
  refused : (gate : Gate) (status : ℕ) → (status == 0) ≡ false → is_rule gate ≡ false → P (refuse p gate status)
  refused gate status failed rule = refusals.plain gate status (record { failed = failed; rule = rule })

  -- the node of a file handle
  pub at_node : (handle : Option Id) (found : Node → Outcome (Answer R)) → ((n : Node) → node_at w.nodes n.id ≡ Some n → P (found n)) → P (with_node p w handle found)
  at_node handle found is =
      where_any P handle _ _ (λ i held.
      where_any P (node_at w.nodes i) found _ (λ n there. is n (ap (node_at w.nodes) (node_at-id i w.nodes n there) ∙ there))
      (refused gates.Namespace NFS4ERR_STALE refl refl))
      (refused gates.Namespace NFS4ERR_NOFILEHANDLE refl refl)

  pub at_current : (found : Node → Outcome (Answer R)) → ((n : Node) → node_at w.nodes n.id ≡ Some n → P (found n)) → P (with_current p w found)
  at_current found is = at_node p.current found is

  pub ordinary : (n : Node) (next : Outcome (Answer R)) → (is_file n.kind ≡ true → P next) → P (where_ordinary p n next)
  ordinary n next is = demand_any P (is_file n.kind) _ next (refused gates.Namespace NFS4ERR_WRONG_TYPE refl refl) is

  -- the rules of labels
  pub may_read : (n : Node) (next : Outcome (Answer R)) → node_at w.nodes n.id ≡ Some n → P next → P (where_allowed site p (Read n.label) next)
  may_read n next there is = either P (site.dom p.subject n.label) _ next (λ off. refusals.unread n there off) (λ above. is)

  pub may_write : (n : Node) (next : Outcome (Answer R)) → node_at w.nodes n.id ≡ Some n → ((p.subject == n.label) ≡ true → P next) → P (where_allowed site p (Write n.label) next)
  may_write n next there is = either P (p.subject == n.label) _ next (λ off. refusals.unwritten n there off) is

  -- open state
  named : (n : Node) (id : StateId) (next : Open → Outcome (Answer R)) → ((o : Open) → P (next o)) → P (where_open p w n id next)
  named n id next is =
      demand_any P ((handle_named id.other).level == p.subject) _ _ (refused (gates.Monitor M9) NFS4ERR_BAD_STATEID refl refl) (λ own.
      where_any P (open_at p w n (handle_named id.other)) _ _ (λ o found.
      demand_any P (nat_le id.seqid o.sequence) _ _ (refused gates.Open NFS4ERR_BAD_STATEID refl refl) (λ known.
      demand_any P (id.seqid == 0 || id.seqid == o.sequence) _ _ (refused gates.Open NFS4ERR_OLD_STATEID refl refl) (λ now. is o)))
      (refused gates.Open NFS4ERR_BAD_STATEID refl refl))

  undenied : (n : Node) (way : Way) (next : Outcome (Answer R)) → P next → P (where_undenied site p w n way next)
  undenied n way next is = demand_any P (not (is_denied site p w n way)) _ _ (refused gates.Open NFS4ERR_LOCKED refl refl) (λ free. is)

  usable_by : (o : Option Special) (n : Node) (id : StateId) (way : Way) (next : Outcome (Answer R)) → P next → P (where_usable_by o site p w n id way next)
  usable_by (Some Anonymous) n id way next is = undenied n way next is
  usable_by (Some Bypass) n id Reading next is = is
  usable_by (Some Bypass) n id Writing next is = undenied n Writing next is
  usable_by (Some Current) n id way next is = refused gates.Open NFS4ERR_BAD_STATEID refl refl
  usable_by None n id way next is = named n id _ (λ o. demand_any P (has_any o.access (bit_of way)) _ _ (refused gates.Open NFS4ERR_OPENMODE refl refl) (λ opened. is))

  pub usable : (n : Node) (id : StateId) (way : Way) (next : Outcome (Answer R)) → P next → P (where_usable site p w n id way next)
  usable n id way next is = usable_by (special id) n id way next is

  -- the limits of a file and of its level
  pub fitting : (n : Node) (size : ℕ) (next : Outcome (Answer R)) → (nat_le size MOST_FILE ≡ true → P next) → P (where_fitting site p w n size next)
  fitting n size next is =
      demand_any P (nat_le size MOST_FILE) _ _ (refused gates.Namespace NFS4ERR_FBIG refl refl) (λ small.
      demand_any P (not (passes_quota site w n size)) _ _ (refused gates.Quota NFS4ERR_DQUOT refl refl) (λ few. is small))
