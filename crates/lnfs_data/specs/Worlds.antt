-- What a call of a tree does, as what it does to a world whose rows the tree's are.
use Rattle.std.specs.Prelude.{◌≡◌, [], ◌∷◌, Option, Some, None, Result, Ok, Err}
use Rattle.lnfs_types.specs.declared.event.Moment.{Moment}
use Rattle.lnfs_world.specs.World.{Id, Inner, Node, World}
use Rattle.lnfs_world.specs.Change.{Touch, apply, apply_all}
use Rattle.lnfs_tree.specs.declared.node.TreeError.{TreeError}
use Rattle.lnfs_tree.specs.declared.node.TreeError.TheVariants.{Memory}
use Rattle.lnfs_tree.specs.Rows.{Rows}
use Rattle.lnfs_tree.specs.Changed.{Doing, ran}

-- worlds by the rows of a tree, of which a touch touches these alone
abbrev pub Touches : (Rows → World) → Type 0
Touches in_world = (i : Id) (inner : Inner) (t : Rows) → in_world (ran (Touch i inner ∷ []) t) ≡ apply (Touch i inner) (in_world t)

-- what a call answers
abbrev pub Answer : Type 0
Answer = Result (Unit {0}) TreeError

-- A call does what is told, or is refused as is told and leaves the world; without memory it leaves it too.
abbrev pub DoesIn : Result (Doing (Unit {0})) TreeError → (before after : World) → Answer → Type 0
DoesIn told before after (Err Memory) = after ≡ before
DoesIn (Ok doing) before after (Ok answer) = after ≡ apply_all doing.changes before
DoesIn (Err why) before after (Err error) = (error ≡ why) × (after ≡ before)
DoesIn told before after result = ⊥

-- with the time of access of a node, if it is there
abbrev pub with_access : Id → Moment → World → Option Node → World
with_access i at w None = w
with_access i at w (Some n) = apply (Touch i (record n.inner { accessed = at })) w
