use Rattle.std.proofs.Common.{◌≡◌, false, refl, sym, ◌∙◌, arith, ◌-◌}
use Rattle.std.proofs.lemmas.List.{length-map}
use Rattle.std.specs.Ordering.{is_lt}
use Rattle.lnfs_world.specs.World.{entry_order}
use Rattle.lnfs_world.proofs.Keys.{entry_before}
use Rattle.lnfs_fit.specs.Places.{no_entry, nth_entry}
use Rattle.lnfs_rows.specs.Told.{entry_of}
use Rattle.lnfs_fit.specs.RowsOf.{entries_of}
use Rattle.lnfs_fit.proofs.Risen.{rising_steps, falls}
use Rattle.lnfs_fit.proofs.rows.entries_rise.Goals as goal

pub returns-then-not-is_entry_before : goal.returns-then-not-is_entry_before
returns-then-not-is_entry_before c =
    let len = length-map c.args.entries.now entry_of in
    let isnt : is_lt (entry_order (nth_entry (entries_of c.args.entries.now) (c.loop-place.place - 1)) (nth_entry (entries_of c.args.entries.now) c.loop-place.place)) ≡ false =
    sym c.is_entry_before.ensures ∙ grind (arith, c.if-not-is_entry_before.true) in (
      λ never. absurd (grind arith),
      λ rising. absurd (falls entry_order no_entry (entries_of c.args.entries.now) c.loop-place.place (omega (arith, c.loop-place.auto.place)) (omega (arith, len, c.loop-place-test.true)) isnt rising),
    )

pub returns : goal.returns
returns c =
    let len = length-map c.args.entries.now entry_of in (
      λ _. rising_steps entry_order no_entry entry_before (entries_of c.args.entries.now)
          (λ k less. c.loop-place.invariant k (omega (arith, len, less, c.loop-place-test.false))),
      λ _. refl,
    )
