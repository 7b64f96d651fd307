use Rattle.std.proofs.Common.{◌≡◌, false, refl, sym, ap, ◌∙◌, arith, ◌-◌}
use Rattle.std.proofs.lemmas.List.{length-map}
use Rattle.std.specs.Ordering.{is_lt}
use Rattle.lnfs_world.specs.World.{id_order}
use Rattle.lnfs_world.specs.Tree.{root}
use Rattle.lnfs_world.proofs.Keys.{id_before}
use Rattle.lnfs_rows.specs.Told.{id_of}
use Rattle.lnfs_fit.specs.Ids.{nth_id}
use Rattle.lnfs_fit.specs.RowsOf.{ids_of}
use Rattle.lnfs_fit.proofs.Risen.{rising_steps, falls}
use Rattle.lnfs_fit.proofs.ids.rise.Goals as goal

pub returns-then-not-is_before : goal.returns-then-not-is_before
returns-then-not-is_before c =
    let len = length-map c.args.ids.now id_of in
    let isnt : is_lt (id_order (nth_id (ids_of c.args.ids.now) (c.loop-place.place - 1)) (nth_id (ids_of c.args.ids.now) c.loop-place.place)) ≡ false =
    ap is_lt (λ j. id_order (sym c.id_at.ensures j) (sym c.id_at-in-loop-place.ensures j)) ∙ sym c.is_before.ensures ∙ grind (arith, c.if-not-is_before.true) in (
      λ never. absurd (grind arith),
      λ rising. absurd (falls id_order root (ids_of c.args.ids.now) c.loop-place.place (omega (arith, c.loop-place.auto.place)) (omega (arith, len, c.loop-place-test.true)) isnt rising),
    )

pub returns : goal.returns
returns c =
    let len = length-map c.args.ids.now id_of in (
      λ _. rising_steps id_order root id_before (ids_of c.args.ids.now)
          (λ k less. c.loop-place.invariant k (omega (arith, len, less, c.loop-place-test.false))),
      λ _. refl,
    )
