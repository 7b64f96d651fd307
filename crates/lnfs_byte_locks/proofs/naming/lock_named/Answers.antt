use Rattle.std.proofs.Common.{◌∙◌, None, Some}
use Rattle.lnfs_arguments.specs.declared.statuses.TheConstants.{NFS4ERR_BAD_STATEID}
use Rattle.lnfs_world.specs.World.{Open, World}
use Rattle.lnfs_world.specs.Outcome.{Place}
use Rattle.lnfs_operations.specs.declared.Gate.TheVariants as gates
use Rattle.lnfs_operations.specs.Extra.{place_at}
use Rattle.lnfs_open.specs.Listed.{row_of}
use Rattle.lnfs_engine.specs.Further.{spot_of}
use Rattle.lnfs_locks.specs.Locks.{Locks}
use Rattle.lnfs_byte_locks.specs.declared.naming.Told.{Told}
use Rattle.lnfs_byte_locks.specs.Naming.{where_opened, lock_told}
use Rattle.lnfs_byte_locks.proofs.NamedLocks.{err_names, refused_with, opened_by, no_opening, by_opening}
use Rattle.lnfs_byte_locks.proofs.naming.lock_named.Goals as goal

pub returns-in_err-told : goal.returns-in_err-told
returns-in_err-told c = λ n node.
    let at : Place = place_at (spot_of c.args.at.now) in
    err_names c.args.locks.now at c.args.store.now n c.args.id.now c.from_residual.result c.in_err-told.field-0.0 c.from_residual.ensures.1
    (λ next. c.in_err-told.ensures c.args.store.now n c.requires.facts node (where_opened at c.args.store.now c.args.id.now next))

pub returns-in_default : goal.returns-in_default
returns-in_default c = λ n node next.
    let at : Place = place_at (spot_of c.args.at.now) in
    let own : Locks = c.args.locks.now in
    let w : World = c.args.store.now in
    let x : Told = c.in_ok-told.told in
    let is = c.in_ok-told.ensures w n c.requires.facts node in
    refused_with at gates.Open NFS4ERR_BAD_STATEID c.refused.result c.refused.ensures _
    (no_opening own at w n c.args.id.now c.requires.facts x is (opened_by own at w n c.args.id.now c.requires.facts x is c.opens.result.now c.opens.ensures None c.in_default.ensures) next)

pub returns-in_err-check_state : goal.returns-in_err-check_state
returns-in_err-check_state c = λ n node.
    let at : Place = place_at (spot_of c.args.at.now) in
    let own : Locks = c.args.locks.now in
    let w : World = c.args.store.now in
    let x : Told = c.in_ok-told.told in
    let o : Open = row_of (record { level = x.id.level; number = x.row.now.opening }) c.in-Some.opening.now in
    let is = c.in_ok-told.ensures w n c.requires.facts node in
    let opened = opened_by own at w n c.args.id.now c.requires.facts x is c.opens.result.now c.opens.ensures (Some o) c.in-Some.ensures in
    err_names own at w n c.args.id.now c.from_residual-in_err-check_state.result c.in_err-check_state.field-0.0 c.from_residual-in_err-check_state.ensures.1
    (λ next. by_opening own at w n c.args.id.now c.requires.facts x is o opened next ∙ c.in_err-check_state.ensures at (next o (lock_told x)))

pub returns : goal.returns
returns c = λ n node.
    let at : Place = place_at (spot_of c.args.at.now) in
    let own : Locks = c.args.locks.now in
    let w : World = c.args.store.now in
    let x : Told = c.in_ok-told.told in
    let o : Open = row_of (record { level = x.id.level; number = x.row.now.opening }) c.in-Some.opening.now in
    let is = c.in_ok-told.ensures w n c.requires.facts node in
    let opened = opened_by own at w n c.args.id.now c.requires.facts x is c.opens.result.now c.opens.ensures (Some o) c.in-Some.ensures in
    record {
      level = is.level;
      number = is.number;
      client = is.client;
      node = is.node;
      there = is.there;
      opened = opened;
      leads = λ next. by_opening own at w n c.args.id.now c.requires.facts x is o opened next ∙ c.in_ok-check_state.ensures at (next o (lock_told x));
    }
