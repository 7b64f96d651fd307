use Rattle.std.proofs.Common.{◌≡◌, ◌++◌, ◌∷◌, [], ◌+◌, ◌<◌, take, length, sym, ap, ◌∙◌, subst, arith}
use Rattle.std.proofs.lemmas.List.{length-map, take_more}
use Rattle.std.proofs.lemmas.Bool.{false≢true}
use Rattle.lnfs_world.specs.Rows.{Apart}
use Rattle.lnfs_rows.specs.World.{world_of}
use Rattle.lnfs_fit.proofs.Keyed.{so_far}
use Rattle.lnfs_locks.specs.Locks.{Lock}
use Rattle.lnfs_locks.specs.Facts.{are_doubles}
use Rattle.lnfs_lock_rows.specs.Told.{lock_of}
use Rattle.lnfs_lock_fit.specs.Keys.{AreHolders}
use Rattle.lnfs_lock_fit.specs.RowsOf.{no_lock, locks_of}
use Rattle.lnfs_lock_fit.proofs.apart.doubles_differ.Goals as goal

pub loop-place-preserved : goal.loop-place-preserved
loop-place-preserved c =
    let locks = locks_of c.args.rows.now in
    let t = c.loop-place.place in
    let w = world_of c.args.lists.now in
    let less : t < length locks = omega (arith, length-map c.args.rows.now lock_of, c.loop-place-test.true) in
    let more : take t locks ++ lock_of c.row_at-row.result.now ∷ [] ≡ take (t + 1) locks =
    ap (λ (l : Lock). take t locks ++ l ∷ []) c.row_at-row.ensures ∙ sym (take_more locks t no_lock less) in
    record {
      apart = subst (Apart (are_doubles w)) more (c.in_ok-alone.ensures.apart c.if-not-alone.false (take t locks) c.loop-place.invariant.seen c.loop-place.invariant.apart);
      seen = subst (AreHolders w c.is_alone.new.seen) more (c.in_ok-alone.ensures.seen c.if-not-alone.false (take t locks) c.loop-place.invariant.seen);
    }

pub returns-then-not-alone : goal.returns-then-not-alone
returns-then-not-alone c =
    let locks = locks_of c.args.rows.now in
    let t = c.loop-place.place in
    let w = world_of c.args.lists.now in
    let less : t < length locks = omega (arith, length-map c.args.rows.now lock_of, c.loop-place-test.true) in
    let more : take (t + 1) locks ≡ take t locks ++ lock_of c.row_at-row.result.now ∷ [] =
    take_more locks t no_lock less ∙ ap (λ (l : Lock). take t locks ++ l ∷ []) (sym c.row_at-row.ensures) in (
      λ never. absurd (false≢true never),
      λ apart. absurd (c.in_ok-alone.ensures.clash c.if-not-alone.true (take t locks) c.loop-place.invariant.seen (subst (Apart (are_doubles w)) more (so_far (are_doubles w) locks (t + 1) apart))),
    )
