-- What holds of each end of an operation holds of its outcome: a refusal, or what stands behind its tests.
use Rattle.std.proofs.Common.{◌≡◌, ℕ, Bool, true, false, not, ◌&&◌, List, length, Option, Some, None, refl, arith}
use Rattle.std.specs.Prelude.{nat_le}
use Rattle.std.specs.Str.{is_utf8}
use Rattle.lnfs_words.specs.Words.{is_empty}
use Rattle.lnfs_world.specs.World.{Id, Node, Entry, World, node_at}
use Rattle.lnfs_world.specs.Names.{entry_at}
use Rattle.lnfs_world.specs.Outcome.{Site, Place, Outcome}
use Rattle.lnfs_arguments.specs.declared.statuses.TheConstants.{NFS4ERR_STALE, NFS4ERR_NOFILEHANDLE, NFS4ERR_EXIST}
use Rattle.lnfs_monitor.specs.Rules.{Asks, allows}
use Rattle.lnfs_operations.specs.declared.Gate.{Gate}
use Rattle.lnfs_operations.specs.declared.Gate.TheVariants.{Namespace}
use Rattle.lnfs_operations.specs.declared.numbers.TheConstants.{LONGEST_NAME}
use Rattle.lnfs_operations.specs.Chain.{Answer, refuse, where_there}
use Rattle.lnfs_operations.specs.Judged.{where_allowed, where_asked}
use Rattle.lnfs_operations.specs.Handles.{with_node, with_current}
use Rattle.lnfs_operations.specs.Names.{has_bad_byte, is_dots, where_named}
use Rattle.lnfs_operations.specs.NewNames.{where_new}
use Rattle.lnfs_operations.specs.Bounds.{is_well_formed}
use Rattle.lnfs_operations.proofs.Chains.{demand_any, where_any}

module _ {R : Type 0} (P : Outcome (Answer R) → Type 0) (p : Place) (refused : (gate : Gate) (status : ℕ) → P (refuse p gate status)) where
  -- on the node of a file handle, or of the current one
  pub node_any : (w : World) (handle : Option Id) (found : Node → Outcome (Answer R)) → ((i : Id) (n : Node) → node_at w.nodes i ≡ Some n → P (found n)) → P (with_node p w handle found)
  node_any w handle found there =
      where_any P handle _ _ (λ i is.
      where_any P (node_at w.nodes i) found _ (λ n at. there i n at) (refused Namespace NFS4ERR_STALE)) (refused Namespace NFS4ERR_NOFILEHANDLE)

  pub current_any : (w : World) (found : Node → Outcome (Answer R)) → ((i : Id) (n : Node) → node_at w.nodes i ≡ Some n → P (found n)) → P (with_current p w found)
  current_any w found there = node_any w p.current found there

  -- with what the current file handle is
  pub at_current_any : (w : World) (found : Node → Outcome (Answer R)) → ((i : Id) (n : Node) → p.current ≡ Some i → node_at w.nodes i ≡ Some n → P (found n)) → P (with_current p w found)
  at_current_any w found there =
      where_any P p.current _ _ (λ i is.
      where_any P (node_at w.nodes i) found _ (λ n at. there i n is at) (refused Namespace NFS4ERR_STALE)) (refused Namespace NFS4ERR_NOFILEHANDLE)

  -- behind a question to the rules
  pub allowed_any : (site : Site) (asks : Asks) (next : Outcome (Answer R)) → (allows site.dom p.subject asks ≡ true → P next) → P (where_allowed site p asks next)
  allowed_any site asks next is = demand_any P (allows site.dom p.subject asks) _ next (refused _ _) is

  -- which, where it comes up, allowed it
  pub asked_any : (comes_up : Bool) (site : Site) (asks : Asks) (next : Outcome (Answer R)) → ((comes_up ≡ true → allows site.dom p.subject asks ≡ true) → P next) → P (where_asked comes_up site p asks next)
  asked_any true site asks next is = allowed_any site asks next (λ allowed. is (λ up. allowed))
  asked_any false site asks next is = is (λ up. absurd (grind arith))

  -- behind the tests of a name, which is well formed then
  pub well_named_any : (name : List ℕ) (next : Outcome (Answer R)) → (is_well_formed name ≡ true → P next) → P (where_named p name next)
  well_named_any name next is =
      demand_any P (not (is_empty name)) _ _ (refused _ _) (λ some.
      demand_any P (nat_le (length name) LONGEST_NAME) _ _ (refused _ _) (λ short.
      demand_any P (is_utf8 name) _ _ (refused _ _) (λ text.
      demand_any P (not (has_bad_byte name)) _ _ (refused _ _) (λ good.
      demand_any P (not (is_dots name)) _ _ (refused _ _) (λ other. is (λ k. some k && (short k && (text k && (good k && other k)))))))))

  pub named_any : (name : List ℕ) (next : Outcome (Answer R)) → P next → P (where_named p name next)
  named_any name next is = well_named_any name next (λ named. is)

  -- behind the test that a name isn't in a directory
  pub new_any : (w : World) (d : Node) (name : List ℕ) (next : Outcome (Answer R)) → (entry_at w.entries d.id name ≡ None → P next) → P (where_new p w d name next)
  new_any w d name next is = at (entry_at w.entries d.id name) refl
    where
      at : (o : Option Entry) → entry_at w.entries d.id name ≡ o → P (where_there o (λ e. refuse p Namespace NFS4ERR_EXIST) next)
      at None none = is none
      at (Some e) found = refused Namespace NFS4ERR_EXIST
