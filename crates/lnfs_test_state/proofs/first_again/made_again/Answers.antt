use Rattle.std.proofs.Common.{◌≡◌, ◌≤◌, ℕ, Bool}
use Rattle.lnfs_world.specs.World.{Id}
use Rattle.lnfs_world.specs.Names.{names_of}
use Rattle.lnfs_world.specs.declared.numbers.TheConstants.{MOST_NAMES}
use Rattle.lnfs_tree.specs.Rows.{Rows}
use Rattle.lnfs_tree.specs.Changed.{FactsFor, HasFacts}
use Rattle.lnfs_tree.specs.Makes.{MakesTree}
use Rattle.lnfs_test_state.proofs.first_again.made_again.Goals as goal

makes : (t : Rows) → HasFacts t → ((dom : ℕ → ℕ → Bool) → FactsFor dom t → ((i : Id) → names_of t.entries i ≤ MOST_NAMES) → MakesTree t) → ((i : Id) → names_of t.entries i ≤ MOST_NAMES) → MakesTree t
makes t (dom, facts) law few = law dom facts few

pub again-requires : goal.again-requires
again-requires c = makes c.args.tree.now c.requires c.law_rows.ensures (c.in_ok-has_few.ensures c.if-not-branch.false)
