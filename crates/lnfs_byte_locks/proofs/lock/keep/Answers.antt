use Rattle.std.proofs.Common.{◌≡◌, ◌&&◌, ap, ◌∙◌}
use Rattle.std.specs.Prelude.{◌==◌, filter}
use Rattle.lnfs_world.specs.World.{Id}
use Rattle.lnfs_locks.specs.Effects.{kept_with}
use Rattle.lnfs_locking.specs.Rows.{with_ranges}
use Rattle.lnfs_byte_locks.specs.Going.{goes}
use Rattle.lnfs_byte_locks.proofs.TakenLocks.{new_fresh, new_absent, old_there, old_given}
use Rattle.lnfs_byte_locks.proofs.lock.keep.Goals as goal

pub returns-in_default-clause-kept : goal.returns-in_default-clause-kept
returns-in_default-clause-kept c = λ keeps.
    let own = c.args.locks.now in
    let x = c.args.taken.now in
    let g = c.args.going.now in
    c.change.ensures keeps.lock (old_there own x c.args.ranges g keeps c.in_default.is) (old_given own x c.args.ranges g keeps c.in_default.is) keeps.stays
    ∙ ap (λ (i : Id). kept_with (with_ranges x.seq c.args.ranges keeps.lock) (filter (λ y. y.id.level == i.level && goes g y) own.locks) own) keeps.id

pub begin-requires-clause-absent : goal.begin-requires-clause-absent
begin-requires-clause-absent c = new_absent c.args.locks.now c.args.taken.now c.args.ranges c.args.going.now c.requires.keeps c.in-Some.opening c.in-Some.is

pub begin-requires-clause-fresh : goal.begin-requires-clause-fresh
begin-requires-clause-fresh c = new_fresh c.args.locks.now c.args.taken.now c.args.ranges c.args.going.now c.requires.keeps c.in-Some.opening c.in-Some.is
