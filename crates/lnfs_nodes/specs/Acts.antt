-- What the code does of an operation that changes the tree.
use Rattle.std.specs.Prelude.{◌≡◌, not, filter, Option, Some, None, Result, Ok, Err, option_map}
use Rattle.lnfs_world.specs.World.{Id, World, same_id}
use Rattle.lnfs_world.specs.Outcome.{Place, Outcome, done_to}
use Rattle.lnfs_tree.specs.Rows.{Rows, id_of}
use Rattle.lnfs_tree.specs.Changed.{Gone}
use Rattle.lnfs_operations.specs.declared.Refusal.{Refusal}
use Rattle.lnfs_operations.specs.Chain.{Answer, Done, refuse}
use Rattle.lnfs_operations.specs.Chain as chain
use Rattle.lnfs_nodes.specs.Trees.{with_tree, refusal_of}
use Rattle.lnfs_nodes.specs.declared.calls.Caller.{Caller}

-- ---- where an operation stands

-- a place by who calls
abbrev pub placed : Place → Caller → Place
placed p c = record p { subject = c.subject.0; moment = c.moment; current = option_map id_of c.current; saved = option_map id_of c.saved }

-- ---- what is done

-- A success: what is answered, where the next operation stands, what is left of the other rows, and the rows that the
-- tree has afterwards.
pub record SucceedsLeaving {R : Type 0} (told : R) (lands : Place) (rest left : World) (old new : Rows) (o : Outcome (Answer R)) : Type 0 where
  pub answer : o.answer ≡ Done told
  pub place : o.place ≡ lands
  pub world : done_to (with_tree rest old) o ≡ with_tree left new

-- one that leaves the other rows as they are
abbrev pub Succeeds : {R : Type 0} → R → (lands : Place) → (rest : World) → (old new : Rows) → Outcome (Answer R) → Type 0
Succeeds told lands rest old new o = SucceedsLeaving told lands rest rest old new o

-- A refusal leaves the place and the tree.
pub record Refuses {R : Type 0} (why : Refusal) (at : Place) (old new : Rows) (o : Outcome (Answer R)) : Type 0 where
  pub outcome : o ≡ refuse at why.gate why.status
  pub tree : new ≡ old

-- An operation that lands at a place where it succeeds, and leaves of the other rows what its result tells.
abbrev pub ActsLeaving : {A R : Type 0} → (told : A → R) → (lands : A → Place) → (left : A → World → World) → Place → World → (old new : Rows) → Outcome (Answer R) → Result A Refusal → Type 0
ActsLeaving told lands left at rest old new o (Ok a) = SucceedsLeaving (told a) (lands a) rest (left a rest) old new o
ActsLeaving told lands left at rest old new o (Err why) = Refuses why at old new o

-- one that leaves them as they are
abbrev pub ActsTo : {A R : Type 0} → (told : A → R) → (lands : A → Place) → Place → World → (old new : Rows) → Outcome (Answer R) → Result A Refusal → Type 0
ActsTo told lands at rest old new o result = ActsLeaving told lands (λ a w. w) at rest old new o result

-- and stays where it is
abbrev pub Acts : {A R : Type 0} → (told : A → R) → Place → World → (old new : Rows) → Outcome (Answer R) → Result A Refusal → Type 0
Acts told at rest old new o result = ActsTo told (λ a. at) at rest old new o result

-- ---- opens

-- without the opens of a node
abbrev pub without_opens_of : Id → World → World
without_opens_of node rest = record rest { opens = filter (λ o. not (same_id node o.node)) rest.opens }

-- a node that goes takes its opens with it
abbrev pub without_opens : Option Gone → World → World
without_opens None rest = rest
without_opens (Some g) rest = without_opens_of g.node rest

-- ---- tests

-- what a test refuses
abbrev pub failed : Result (Unit {0}) Refusal → Option chain.Refusal
failed (Ok it) = None
failed (Err why) = Some (refusal_of why)

-- what follows the tests of an operation, or what refuses it
abbrev pub checked : {A R : Type 0} → Place → Result A Refusal → (A → Outcome (Answer R)) → Outcome (Answer R)
checked p (Ok a) next = next a
checked p (Err why) next = refuse p why.gate why.status
