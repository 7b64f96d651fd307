-- The tests before an operation on one file, by what each call finds.
use Rattle.std.proofs.Common.{◌≡◌, refl, ap, sym, subst, ◌∙◌, ℕ, not, Option, Some, None, Result, Ok, Err}
use Rattle.std.specs.Prelude.{nat_le}
use Rattle.lnfs_arguments.specs.declared.stateid.StateId.{StateId}
use Rattle.lnfs_arguments.specs.declared.statuses.TheConstants.{NFS4ERR_STALE, NFS4ERR_WRONG_TYPE, NFS4ERR_FBIG, NFS4ERR_DQUOT}
use Rattle.lnfs_world.specs.declared.numbers.TheConstants.{MOST_FILE}
use Rattle.lnfs_world.specs.World.{Id, Kind, File, Directory, SymbolicLink, Node, World, node_at}
use Rattle.lnfs_world.specs.Outcome.{Site, Place, Outcome}
use Rattle.lnfs_operations.specs.declared.Gate.TheVariants.{Namespace, Quota}
use Rattle.lnfs_operations.specs.Chain.{Answer, refuse, demand, where_there}
use Rattle.lnfs_operations.specs.Chain as chain
use Rattle.lnfs_operations.specs.Judged.{where_allowed}
use Rattle.lnfs_operations.specs.Handles.{with_node}
use Rattle.lnfs_operations.specs.StateIds.{Way, where_usable}
use Rattle.lnfs_operations.specs.Files.{passes_quota, where_fitting}
use Rattle.lnfs_tree.specs.Rows.{Rows, rows_of, kind_of}
use Rattle.lnfs_nodes.specs.Trees.{there, held_in, Holds, IsHeld, denial}
use Rattle.lnfs_nodes.specs.declared.held.Held.{Held}
use Rattle.lnfs_nodes.proofs.Found.{about_held}
use Rattle.lnfs_files.specs.Tests.{passed, refusal_in, tested}
use Rattle.lnfs_files.specs.Uses.{asks_of}
use Rattle.lnfs_files.proofs.Stages.{goes_on, refuses, tells_next, tells_why, same_why, demand_stage, allowed_stage, allowed_tested}
use Rattle.lnfs_files.proofs.StateIds.{usable_tested}
use Rattle.lnfs_sparse_ops.specs.Regions.{is_file, where_ordinary}
use Rattle.lnfs_sparse.specs.Files.{where_used, where_ready}

-- ---- each test

module _ {R : Type 0} (p : Place) where
  pub ordinary_stage : (next : Outcome (Answer R)) (n : Node) (x : Outcome (Answer R)) (y : Outcome (Answer (Unit {0}))) → x ≡ tested p (refusal_in y) next → where_ordinary p n x ≡ tested p (refusal_in (where_ordinary p n y)) next
  ordinary_stage next n x y e = demand_stage p next (is_file n.kind) Namespace NFS4ERR_WRONG_TYPE x y e

  pub ordinary_tested : (n : Node) (next : Outcome (Answer R)) → where_ordinary p n next ≡ tested p (refusal_in (where_ordinary p n (passed p))) next
  ordinary_tested n next = ordinary_stage next n next (passed p) refl

  pub fitting_tested : (site : Site) (w : World) (n : Node) (size : ℕ) (next : Outcome (Answer R)) → where_fitting site p w n size next ≡ tested p (refusal_in (where_fitting site p w n size (passed p))) next
  fitting_tested site w n size next =
      demand_stage p next (nat_le size MOST_FILE) Namespace NFS4ERR_FBIG (demand (not (passes_quota site w n size)) (refuse p Quota NFS4ERR_DQUOT) next) (demand (not (passes_quota site w n size)) (refuse p Quota NFS4ERR_DQUOT) (passed p)) (
      demand_stage p next (not (passes_quota site w n size)) Quota NFS4ERR_DQUOT next (passed p) refl)

-- a node that passes as an ordinary file
pub passes_as_file : (p : Place) (n : Node) → None ≡ refusal_in (where_ordinary p n (passed p)) → n.kind ≡ File
passes_as_file p n e = by n.kind e
  where
    by : (k : Kind) → None ≡ refusal_in (demand (is_file k) (refuse p Namespace NFS4ERR_WRONG_TYPE) (passed p)) → k ≡ File
    by File e = refl
    by Directory e = cc
    by SymbolicLink e = cc

-- ---- all of them

module _ (site : Site) (p : Place) (w : World) (id : StateId) (way : Way) where
  abbrev t : Rows
  t = rows_of w

  pub used_tested : {R : Type 0} (n : Node) (next : Outcome (Answer R)) → where_used site p w id way n next ≡ tested p (refusal_in (where_used site p w id way n (passed p))) next
  used_tested n next =
      ordinary_stage p next n (where_allowed site p (asks_of way n.label) (where_usable site p w n id way next)) (where_allowed site p (asks_of way n.label) (where_usable site p w n id way (passed p))) (
      allowed_stage p next site (asks_of way n.label) (where_usable site p w n id way next) (where_usable site p w n id way (passed p)) (
      usable_tested p w n id next site way))

  module _ {R : Type 0} (next : Node → Outcome (Answer R)) where
    -- it may be used
    pub ready : (P : Outcome (Answer R) → Type 0) (h : Held) → IsHeld t (held_in t.nodes p.current) (Ok h)
        → None ≡ refusal_in (where_ready site p w id way (λ n. passed p))
        → ((n : Node) → Holds t n h → P (next n)) → P (where_ready site p w id way next)
    ready P h held e each = at p.current held e
      where
        at_node : (x : Option Node) → IsHeld t (there x) (Ok h) → None ≡ refusal_in (where_there x (λ n. where_used site p w id way n (passed p)) (refuse p Namespace NFS4ERR_STALE)) → P (where_there x (λ n. where_used site p w id way n (next n)) (refuse p Namespace NFS4ERR_STALE))
        at_node (Some n) held e = subst P (sym (goes_on p (where_used site p w id way n (next n)) (next n) _ (used_tested n (next n)) e)) (each n held)
        at_node None held e = absurd held

        at : (i : Option Id) → IsHeld t (held_in t.nodes i) (Ok h) → None ≡ refusal_in (with_node p w i (λ n. where_used site p w id way n (passed p))) → P (with_node p w i (λ n. where_used site p w id way n (next n)))
        at (Some i) held e = at_node (node_at t.nodes i) held e
        at None held e = absurd held

    pub unready : (why : chain.Refusal) → Some why ≡ refusal_in (where_ready site p w id way (λ n. passed p)) → where_ready site p w id way next ≡ refuse p why.gate why.status
    unready why e = at p.current e
      where
        at_node : (x : Option Node) → Some why ≡ refusal_in (where_there x (λ n. where_used site p w id way n (passed p)) (refuse p Namespace NFS4ERR_STALE)) → where_there x (λ n. where_used site p w id way n (next n)) (refuse p Namespace NFS4ERR_STALE) ≡ refuse p why.gate why.status
        at_node (Some n) e = refuses p (where_used site p w id way n (next n)) (next n) _ (used_tested n (next n)) why e
        at_node None e = same_why p Namespace NFS4ERR_STALE why e

        at : (i : Option Id) → Some why ≡ refusal_in (with_node p w i (λ n. where_used site p w id way n (passed p))) → with_node p w i (λ n. where_used site p w id way n (next n)) ≡ refuse p why.gate why.status
        at (Some i) e = at_node (node_at t.nodes i) e
        at None e = same_why p Namespace _ why e

-- ---- what refuses the use of a file that is held

module _ (site : Site) (p : Place) (w : World) (id : StateId) (way : Way) (h : Held) (held : IsHeld (rows_of w) (held_in w.nodes p.current) (Ok h)) where
  abbrev whole : Option chain.Refusal → Type 0
  whole x = x ≡ refusal_in (where_ready site p w id way (λ n. passed p))

  abbrev behind_rules : Node → Outcome (Answer (Unit {0}))
  behind_rules n = where_usable site p w n id way (passed p)

  abbrev behind_kind : Node → Outcome (Answer (Unit {0}))
  behind_kind n = where_allowed site p (asks_of way n.label) (behind_rules n)

  abbrev IsKind : Option chain.Refusal → Type 0
  IsKind x = (n : Node) → Holds (rows_of w) n h → x ≡ refusal_in (where_ordinary p n (passed p))

  of_held : (x : Option chain.Refusal) → ((n : Node) → Holds (rows_of w) n h → x ≡ refusal_in (where_ordinary p n (behind_kind n))) → whole x
  of_held x each = about_held (λ (o : Outcome (Answer (Unit {0}))). x ≡ refusal_in o) p w (rows_of w) (λ n. where_ordinary p n (behind_kind n)) h held each

  pub kind_off : (why : chain.Refusal) → IsKind (Some why) → whole (Some why)
  kind_off why kind = of_held (Some why) (λ n holds. tells_why p (where_ordinary p n (behind_kind n)) (behind_kind n) _ (ordinary_tested p n (behind_kind n)) why (kind n holds))

  module _ (kind : IsKind None) where
    behind : (x : Option chain.Refusal) → ((n : Node) → Holds (rows_of w) n h → x ≡ refusal_in (behind_kind n)) → whole x
    behind x each = of_held x (λ n holds. tells_next p (where_ordinary p n (behind_kind n)) (behind_kind n) _ (ordinary_tested p n (behind_kind n)) x (kind n holds) (each n holds))

    pub rules_off : (why : chain.Refusal) → Some why ≡ denial site p.subject (asks_of way h.facts.label.0) → whole (Some why)
    rules_off why e = behind (Some why) (λ n holds. tells_why p (behind_kind n) (behind_rules n) _ (allowed_tested p site (asks_of way n.label) (behind_rules n)) why (e ∙ ap (λ (l : ℕ). denial site p.subject (asks_of way l)) holds.tells.label))

    pub by_state_id : (x : Option chain.Refusal) → None ≡ denial site p.subject (asks_of way h.facts.label.0) → ((n : Node) → Holds (rows_of w) n h → x ≡ refusal_in (behind_rules n)) → whole x
    by_state_id x e each = behind x (λ n holds. tells_next p (behind_kind n) (behind_rules n) _ (allowed_tested p site (asks_of way n.label) (behind_rules n)) x (e ∙ ap (λ (l : ℕ). denial site p.subject (asks_of way l)) holds.tells.label) (each n holds))

-- one that passed is a file
pub held_file : (p : Place) (w : World) (r : Result Node chain.Refusal) (h : Held) → IsHeld (rows_of w) r (Ok h) → ((n : Node) → Holds (rows_of w) n h → None ≡ refusal_in (where_ordinary p n (passed p))) → kind_of h.facts.kind ≡ File
held_file p w (Ok n) h holds e = holds.tells.kind ∙ passes_as_file p n (e n holds)
held_file p w (Err why) h holds e = absurd holds
