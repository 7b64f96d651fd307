use Rattle.std.proofs.Common.{refl, sym, ◌∙◌}
use Rattle.std.proofs.lemmas.Bool.{false≢true, not-true, not-false}
use Rattle.lnfs_rows.specs.World.{world_of}
use Rattle.lnfs_locks.specs.Locks.{Lock}
use Rattle.lnfs_lock_rows.specs.Told.{lock_of}
use Rattle.lnfs_lock_fit.specs.Keys.{Holder}
use Rattle.lnfs_lock_fit.proofs.Alone.{holders_grown, holders_apart, holders_clash, holders_stay, doubles_stay}
use Rattle.lnfs_lock_fit.proofs.apart.is_alone.Goals as goal

pub returns-then-not-is_live-clause-seen : goal.returns-then-not-is_live-clause-seen
returns-then-not-is_live-clause-seen c = λ _ locks seen.
    holders_stay (world_of c.args.lists.now) (lock_of c.args.row.now) (sym c.is_live.ensures ∙ c.if-not-is_live.true) locks c.args.seen.now seen

pub returns-then-not-is_live-clause-apart : goal.returns-then-not-is_live-clause-apart
returns-then-not-is_live-clause-apart c = λ _ locks seen apart.
    doubles_stay (world_of c.args.lists.now) (lock_of c.args.row.now) (sym c.is_live.ensures ∙ c.if-not-is_live.true) locks apart

pub returns-then-not-is_live-clause-clash : goal.returns-then-not-is_live-clause-clash
returns-then-not-is_live-clause-clash c = λ never locks seen apart. absurd (false≢true (sym never))

pub returns-clause-seen : goal.returns-clause-seen
returns-clause-seen c =
    let l : Lock = lock_of c.args.row.now in
    let k : Holder = (l.id.level, l.opening, c.in_ok-owner.owner) in
    λ alone locks seen. holders_grown (world_of c.args.lists.now) k l refl refl (sym c.in_ok-owner.ensures.items) (sym c.is_live.ensures ∙ c.if-not-is_live.false) locks c.args.seen.now seen
    c.insert.new.self c.in_ok-insert.ensures.updates.0

pub returns-clause-apart : goal.returns-clause-apart
returns-clause-apart c =
    let l : Lock = lock_of c.args.row.now in
    let k : Holder = (l.id.level, l.opening, c.in_ok-owner.owner) in
    λ alone locks seen apart. holders_apart (world_of c.args.lists.now) k l refl refl (sym c.in_ok-owner.ensures.items) (sym c.is_live.ensures ∙ c.if-not-is_live.false) locks c.args.seen.now seen
    (not-true _ (sym c.in_ok-insert.ensures.added ∙ alone)) apart

pub returns-clause-clash : goal.returns-clause-clash
returns-clause-clash c =
    let l : Lock = lock_of c.args.row.now in
    let k : Holder = (l.id.level, l.opening, c.in_ok-owner.owner) in
    λ clash locks seen apart. holders_clash (world_of c.args.lists.now) k l refl refl (sym c.in_ok-owner.ensures.items) (sym c.is_live.ensures ∙ c.if-not-is_live.false) locks c.args.seen.now seen
    (not-false _ (sym c.in_ok-insert.ensures.added ∙ clash)) apart
