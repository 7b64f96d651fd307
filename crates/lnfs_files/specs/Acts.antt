-- What the code does of an operation that changes the tree, the opens, or both.
use Rattle.std.specs.Prelude.{◌≡◌, Result, Ok, Err}
use Rattle.lnfs_world.specs.World.{World}
use Rattle.lnfs_world.specs.Outcome.{Place, Outcome, done_to}
use Rattle.lnfs_operations.specs.declared.Refusal.{Refusal}
use Rattle.lnfs_operations.specs.Chain.{Answer, Done, refuse}
use Rattle.lnfs_tree.specs.Rows.{Rows}
use Rattle.lnfs_open.specs.Lists.{Lists}
use Rattle.lnfs_files.specs.Worlds.{with_files}

-- A success: what is answered, where the next operation stands, and the rows of the tree and of the opens afterwards.
pub record Succeeds {R : Type 0} (told : R) (lands : Place) (rest : World) (t0 t1 : Rows) (s0 s1 : Lists) (o : Outcome (Answer R)) : Type 0 where
  pub answer : o.answer ≡ Done told
  pub place : o.place ≡ lands
  pub world : done_to (with_files rest t0 s0) o ≡ with_files rest t1 s1

-- A refusal leaves the place, the tree and the opens.
pub record Refuses {R : Type 0} (why : Refusal) (at : Place) (t0 t1 : Rows) (s0 s1 : Lists) (o : Outcome (Answer R)) : Type 0 where
  pub outcome : o ≡ refuse at why.gate why.status
  pub tree : t1 ≡ t0
  pub opens : s1 ≡ s0

-- An operation that lands at a place where it succeeds; its result by what is told of it.
abbrev pub ActsTo : {A R : Type 0} → (told : A → R) → (lands : A → Place) → Place → World → (t0 t1 : Rows) → (s0 s1 : Lists) → Outcome (Answer R) → Result A Refusal → Type 0
ActsTo told lands at rest t0 t1 s0 s1 o (Ok a) = Succeeds (told a) (lands a) rest t0 t1 s0 s1 o
ActsTo told lands at rest t0 t1 s0 s1 o (Err why) = Refuses why at t0 t1 s0 s1 o

-- one that stays where it is
abbrev pub Acts : {A R : Type 0} → (told : A → R) → Place → World → (t0 t1 : Rows) → (s0 s1 : Lists) → Outcome (Answer R) → Result A Refusal → Type 0
Acts told at rest t0 t1 s0 s1 o result = ActsTo told (λ a. at) at rest t0 t1 s0 s1 o result
