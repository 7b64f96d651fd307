-- WRITE, from its arguments to what it does of a file.
use Rattle.std.proofs.Common.{◌≡◌, ◌≤◌, ℕ, Bool, true, Some, None, Result, Ok, Err, IfOk, sym, ap, ◌∙◌, subst, arith}
use Rattle.std.specs.Prelude.{nat_le}
use Rattle.std.proofs.lemmas.Bool.Decides.{nat_tests}
use Rattle.lnfs_arguments.specs.declared.statuses.TheConstants.{NFS4ERR_INVAL}
use Rattle.lnfs_world.specs.World.{Node, World}
use Rattle.lnfs_world.specs.Outcome.{Site, Place, Outcome}
use Rattle.lnfs_operations.specs.declared.Gate.TheVariants.{Argument}
use Rattle.lnfs_operations.specs.declared.Refusal.{Refusal}
use Rattle.lnfs_operations.specs.declared.numbers.TheConstants.{FILE_SYNC4}
use Rattle.lnfs_operations.specs.Chain.{Answer, refuse, demand}
use Rattle.lnfs_operations.specs.StateIds.{Writing}
use Rattle.lnfs_operations.specs.Write.{Arguments, write}
use Rattle.lnfs_tree.specs.Rows.{Rows}
use Rattle.lnfs_open.specs.Lists.{Lists}
use Rattle.lnfs_nodes.specs.declared.held.Held.{Held}
use Rattle.lnfs_nodes.specs.Trees.{held_in, Holds, IsHeld, refusal_of}
use Rattle.lnfs_files.specs.Worlds.{with_files}
use Rattle.lnfs_files.specs.Acts.{Acts}
use Rattle.lnfs_files.specs.Tests.{passed, refusal_in}
use Rattle.lnfs_files.specs.Uses.{where_current_usable}
use Rattle.lnfs_files.specs.Writing.{write_on}
use Rattle.lnfs_files.proofs.Uses.{used, unused}

pub up_to : (a b : ℕ) → a ≤ b → nat_le a b ≡ true
up_to a b e = grind (arith, nat_tests, e)

pub each_ok : {A E : Type 0} {P Q : A → Type 0} (r : Result A E) → IfOk r P → ((a : A) → P a → Q a) → IfOk r Q
each_ok (Ok a) p f = f a p
each_ok (Err e) p f = tt

module _ (site : Site) (p : Place) (rest : World) (t : Rows) (s : Lists) (args : Arguments) (stands : nat_le args.stable FILE_SYNC4 ≡ true) where
  abbrev w : World
  w = with_files rest t s

  on_usable : write site args p w ≡ where_current_usable site p w args.id Writing (write_on site args p w)
  on_usable = ap (λ (b : Bool). demand b (refuse p Argument NFS4ERR_INVAL) (where_current_usable site p w args.id Writing (write_on site args p w))) stands

  pub not_usable : (why : Refusal) → Some (refusal_of why) ≡ refusal_in (where_current_usable site p w args.id Writing (λ n. passed p)) → write site args p w ≡ refuse p why.gate why.status
  not_usable why e = on_usable ∙ unused site p rest t s args.id Writing (write_on site args p w) (refusal_of why) e

  pub usable : (u : Rows) (h : Held) (told : Result ℕ Refusal) → IsHeld t (held_in t.nodes p.current) (Ok h) → None ≡ refusal_in (where_current_usable site p w args.id Writing (λ n. passed p))
      → ((n : Node) → Holds t n h → Acts {A = ℕ} (λ count. count) p rest t u s s (write_on site args p w n) told)
      → Acts {A = ℕ} (λ count. count) p rest t u s s (write site args p w) told
  usable u h told held e each =
      subst (λ (o : Outcome (Answer ℕ)). Acts {A = ℕ} (λ count. count) p rest t u s s o told) (sym on_usable)
      (used site p rest t s args.id Writing (write_on site args p w) (λ o. Acts {A = ℕ} (λ count. count) p rest t u s s o told) h held e each)
