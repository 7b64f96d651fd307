-- The current file, by what is found of it.
use Rattle.std.proofs.Common.{◌≡◌, ap, sym, subst, ◌∙◌, ℕ, Option, Some, None, Ok}
use Rattle.lnfs_arguments.specs.declared.stateid.StateId.{StateId}
use Rattle.lnfs_arguments.specs.declared.statuses.TheConstants.{NFS4ERR_STALE}
use Rattle.lnfs_world.specs.World.{Id, Node, World, node_at}
use Rattle.lnfs_world.specs.Outcome.{Site, Place, Outcome}
use Rattle.lnfs_operations.specs.declared.Gate.TheVariants.{Namespace}
use Rattle.lnfs_operations.specs.Chain.{Answer, refuse, where_there}
use Rattle.lnfs_operations.specs.Chain as chain
use Rattle.lnfs_operations.specs.Judged.{where_allowed}
use Rattle.lnfs_operations.specs.Handles.{with_node}
use Rattle.lnfs_operations.specs.StateIds.{Way, where_usable}
use Rattle.lnfs_operations.specs.Files.{where_file}
use Rattle.lnfs_tree.specs.Rows.{Rows}
use Rattle.lnfs_open.specs.Lists.{Lists}
use Rattle.lnfs_nodes.specs.Trees.{there, held_in, Holds, IsHeld, denial}
use Rattle.lnfs_nodes.specs.declared.held.Held.{Held}
use Rattle.lnfs_nodes.proofs.Found.{about_held}
use Rattle.lnfs_files.specs.Worlds.{with_opens, with_files}
use Rattle.lnfs_files.specs.Tests.{passed, refusal_in, tested}
use Rattle.lnfs_files.specs.Uses.{asks_of, where_current_usable}
use Rattle.lnfs_files.proofs.Stages.{goes_on, refuses, tells_next, tells_why, same_why, file_stage, allowed_stage, file_tested, allowed_tested}
use Rattle.lnfs_files.proofs.StateIds.{usable_tested}

module _ (site : Site) (p : Place) (rest : World) (t : Rows) (s : Lists) (id : StateId) (way : Way) where
  abbrev after : {A : Type 0} → Node → Outcome (Answer A) → Outcome (Answer A)
  after n next = where_file p n (where_allowed site p (asks_of way n.label) (where_usable site p (with_files rest t s) n id way next))

  all_tested : {R : Type 0} (n : Node) (next : Outcome (Answer R)) → after n next ≡ tested p (refusal_in (after n (passed p))) next
  all_tested n next =
      file_stage p next n (where_allowed site p (asks_of way n.label) (where_usable site p (with_files rest t s) n id way next)) (where_allowed site p (asks_of way n.label) (where_usable site p (with_files rest t s) n id way (passed p))) (
      allowed_stage p next site (asks_of way n.label) (where_usable site p (with_files rest t s) n id way next) (where_usable site p (with_files rest t s) n id way (passed p)) (
      usable_tested p (with_files rest t s) n id next site way))

  module _ {R : Type 0} (next : Node → Outcome (Answer R)) where
    -- it may be used
    pub used : (P : Outcome (Answer R) → Type 0) (h : Held) → IsHeld t (held_in t.nodes p.current) (Ok h)
        → None ≡ refusal_in (where_current_usable site p (with_files rest t s) id way (λ n. passed p))
        → ((n : Node) → Holds t n h → P (next n)) → P (where_current_usable site p (with_files rest t s) id way next)
    used P h held e each = at p.current held e
      where
        at_node : (x : Option Node) → IsHeld t (there x) (Ok h) → None ≡ refusal_in (where_there x (λ n. after n (passed p)) (refuse p Namespace NFS4ERR_STALE)) → P (where_there x (λ n. after n (next n)) (refuse p Namespace NFS4ERR_STALE))
        at_node (Some n) held e = subst P (sym (goes_on p (after n (next n)) (next n) _ (all_tested n (next n)) e)) (each n held)
        at_node None held e = absurd held

        at : (i : Option Id) → IsHeld t (held_in t.nodes i) (Ok h) → None ≡ refusal_in (with_node p (with_files rest t s) i (λ n. after n (passed p))) → P (with_node p (with_files rest t s) i (λ n. after n (next n)))
        at (Some i) held e = at_node (node_at t.nodes i) held e
        at None held e = absurd held

    pub unused : (why : chain.Refusal) → Some why ≡ refusal_in (where_current_usable site p (with_files rest t s) id way (λ n. passed p)) → where_current_usable site p (with_files rest t s) id way next ≡ refuse p why.gate why.status
    unused why e = at p.current e
      where
        at_node : (x : Option Node) → Some why ≡ refusal_in (where_there x (λ n. after n (passed p)) (refuse p Namespace NFS4ERR_STALE)) → where_there x (λ n. after n (next n)) (refuse p Namespace NFS4ERR_STALE) ≡ refuse p why.gate why.status
        at_node (Some n) e = refuses p (after n (next n)) (next n) _ (all_tested n (next n)) why e
        at_node None e = same_why p Namespace NFS4ERR_STALE why e

        at : (i : Option Id) → Some why ≡ refusal_in (with_node p (with_files rest t s) i (λ n. after n (passed p))) → with_node p (with_files rest t s) i (λ n. after n (next n)) ≡ refuse p why.gate why.status
        at (Some i) e = at_node (node_at t.nodes i) e
        at None e = same_why p Namespace _ why e

-- ---- what refuses the use of a file that is held

module _ (site : Site) (p : Place) (rest : World) (t : Rows) (s : Lists) (id : StateId) (way : Way) (h : Held) (held : IsHeld t (held_in t.nodes p.current) (Ok h)) where
  abbrev whole : Option chain.Refusal → Type 0
  whole x = x ≡ refusal_in (where_current_usable site p (with_files rest t s) id way (λ n. passed p))

  abbrev behind_rules : Node → Outcome (Answer (Unit {0}))
  behind_rules n = where_usable site p (with_files rest t s) n id way (passed p)

  abbrev behind_kind : Node → Outcome (Answer (Unit {0}))
  behind_kind n = where_allowed site p (asks_of way n.label) (behind_rules n)

  abbrev IsKind : Option chain.Refusal → Type 0
  IsKind x = (n : Node) → Holds t n h → x ≡ refusal_in (where_file p n (passed p))

  of_held : (x : Option chain.Refusal) → ((n : Node) → Holds t n h → x ≡ refusal_in (where_file p n (behind_kind n))) → whole x
  of_held x each = about_held (λ (o : Outcome (Answer (Unit {0}))). x ≡ refusal_in o) p (with_opens rest s) t (λ n. where_file p n (behind_kind n)) h held each

  pub kind_off : (why : chain.Refusal) → IsKind (Some why) → whole (Some why)
  kind_off why kind = of_held (Some why) (λ n holds. tells_why p (where_file p n (behind_kind n)) (behind_kind n) _ (file_tested p n (behind_kind n)) why (kind n holds))

  module _ (kind : IsKind None) where
    behind : (x : Option chain.Refusal) → ((n : Node) → Holds t n h → x ≡ refusal_in (behind_kind n)) → whole x
    behind x each = of_held x (λ n holds. tells_next p (where_file p n (behind_kind n)) (behind_kind n) _ (file_tested p n (behind_kind n)) x (kind n holds) (each n holds))

    pub rules_off : (why : chain.Refusal) → Some why ≡ denial site p.subject (asks_of way h.facts.label.0) → whole (Some why)
    rules_off why e = behind (Some why) (λ n holds. tells_why p (behind_kind n) (behind_rules n) _ (allowed_tested p site (asks_of way n.label) (behind_rules n)) why (e ∙ ap (λ (l : ℕ). denial site p.subject (asks_of way l)) holds.tells.label))

    pub by_state_id : (x : Option chain.Refusal) → None ≡ denial site p.subject (asks_of way h.facts.label.0) → ((n : Node) → Holds t n h → x ≡ refusal_in (behind_rules n)) → whole x
    by_state_id x e each = behind x (λ n holds. tells_next p (behind_kind n) (behind_rules n) _ (allowed_tested p site (asks_of way n.label) (behind_rules n)) x (e ∙ ap (λ (l : ℕ). denial site p.subject (asks_of way l)) holds.tells.label) (each n holds))
