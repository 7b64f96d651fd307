use Rattle.std.proofs.Common.{◌≡◌, true, refl, sym, ◌∙◌}
use Rattle.lnfs_world.specs.Rows.{Rising}
use Rattle.lnfs_world.specs.World.{Open, World, open_order, is_given}
use Rattle.lnfs_rows.specs.Lasts.{given_of}
use Rattle.lnfs_rows.specs.Told.{open_of}
use Rattle.lnfs_rows.specs.World.{world_of}
use Rattle.lnfs_fit.proofs.Mapped.{rows_rise}
use Rattle.lnfs_locks.specs.Locks.{Lock, opening_id}
use Rattle.lnfs_lock_rows.specs.Told.{lock_of}
use Rattle.lnfs_lock_fit.proofs.Opened.{under_of, of_under, under_none}
use Rattle.lnfs_lock_fit.proofs.openings.has_opening.Goals as goal

pub returns-in-Some : goal.returns-in-Some
returns-in-Some c =
    let w : World = world_of c.args.lists.now in
    let l : Lock = lock_of c.args.row.now in
    let o : Open = open_of c.in-Some.opening.now in
    let rise : Rising open_order w.opens = rows_rise (λ (x : Open). x.id) w.opens c.args.open_ids.now c.requires.ids c.requires.rise in
    let given : is_given w.lasts.opens (opening_id l) ≡ true = (λ t. is_given (given_of (sym c.deref.ensures.value t)) (sym c.opening_id.ensures t)) ∙ (sym c.was_given.ensures ∙ c.if-not-was_given.false) in (
      λ is. record { given = given; under = under_of l w.opens rise o c.in-Some.ensures (c.is_of.ensures.0 is) },
      λ has. c.is_of.ensures.1 (of_under l w.opens o c.in-Some.ensures has.under),
    )

pub returns-in-None : goal.returns-in-None
returns-in-None c =
    let w : World = world_of c.args.lists.now in
    let l : Lock = lock_of c.args.row.now in
    let given : is_given w.lasts.opens (opening_id l) ≡ true = (λ t. is_given (given_of (sym c.deref.ensures.value t)) (sym c.opening_id.ensures t)) ∙ (sym c.was_given.ensures ∙ c.if-not-was_given.false) in (
      λ _. record { given = given; under = under_none l w.opens c.in-None.ensures },
      λ _. refl,
    )
