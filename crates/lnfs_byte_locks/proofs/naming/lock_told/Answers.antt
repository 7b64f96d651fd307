use Rattle.std.proofs.Common.{◌≡◌, ◌∙◌, sym, subst, false, true, arith}
use Rattle.std.specs.Prelude.{◌==◌}
use Rattle.std.specs.List.{AllByRecursion}
use Rattle.lnfs_world.specs.World.{Id, same_id}
use Rattle.lnfs_world.specs.Outcome.{Place}
use Rattle.lnfs_arguments.specs.declared.statuses.TheConstants.{NFS4ERR_BAD_STATEID}
use Rattle.lnfs_operations.specs.declared.Gate.TheVariants as gates
use Rattle.lnfs_operations.specs.Extra.{place_at}
use Rattle.lnfs_operations.specs.Handles.{handle_named}
use Rattle.lnfs_engine.specs.Further.{spot_of}
use Rattle.lnfs_open.specs.Listed.{node_id}
use Rattle.lnfs_locks.specs.StateIds.{told_id}
use Rattle.lnfs_locking.specs.Keys as keys
use Rattle.lnfs_byte_locks.specs.declared.naming.Told.{Told}
use Rattle.lnfs_byte_locks.proofs.NamedLocks.{other_level, no_client, no_number, not_there, told_of, refused_with}
use Rattle.lnfs_byte_locks.proofs.naming.lock_told.Goals as goal

pub returns-then-ne : goal.returns-then-ne
returns-then-ne c = λ w n facts node.
    let at : Place = place_at (spot_of c.args.at.now) in
    let other : ((handle_named c.args.id.now.other).level == at.subject) ≡ false = grind (arith, c.parts_of-number.ensures.level, c.ne.ensures, c.if-ne.true) in
    other_level c.args.locks.now at n c.args.id.now other

pub returns-in_default : goal.returns-in_default
returns-in_default c = λ w n facts node.
    let at : Place = place_at (spot_of c.args.at.now) in
    let own : ((handle_named c.args.id.now.other).level == at.subject) ≡ true = grind (arith, c.parts_of-number.ensures.level, c.ne.ensures, c.if-ne.false) in
    λ next. refused_with at gates.Open NFS4ERR_BAD_STATEID _ c.refused.ensures _ (no_client c.args.locks.now at n c.args.id.now own c.in_default.is next)

pub returns-in_default-key_of : goal.returns-in_default-key_of
returns-in_default-key_of c = λ w n facts node.
    let at : Place = place_at (spot_of c.args.at.now) in
    let own : ((handle_named c.args.id.now.other).level == at.subject) ≡ true = grind (arith, c.parts_of-number.ensures.level, c.ne.ensures, c.if-ne.false) in
    let named : (record { level = c.parts_of-number.result.0.0; number = c.parts_of-number.result.1 }) ≡ handle_named c.args.id.now.other = λ t. record { level = c.parts_of-number.ensures.level t; number = c.parts_of-number.ensures.number t } in
    let never = subst (λ (i : Id). AllByRecursion (λ l. same_id i (told_id l.id) ≡ false) c.args.locks.now.locks) named (c.in_default-key_of.ensures.none facts.given) in
    λ next. refused_with at gates.Open NFS4ERR_BAD_STATEID _ c.refused-in_default-key_of.ensures _ (no_number c.args.locks.now at n c.args.id.now own never next)

pub returns-in-Some-named : goal.returns-in-Some-named
returns-in-Some-named c = λ w n facts node.
    let at : Place = place_at (spot_of c.args.at.now) in
    let own : ((handle_named c.args.id.now.other).level == at.subject) ≡ true = grind (arith, c.parts_of-number.ensures.level, c.ne.ensures, c.if-ne.false) in
    let named : (record { level = c.parts_of-number.result.0.0; number = c.parts_of-number.result.1 }) ≡ handle_named c.args.id.now.other = λ t. record { level = c.parts_of-number.ensures.level t; number = c.parts_of-number.ensures.number t } in
    let x : Told = record { id = c.in-Some-key_of.id; row = c.in-Some-named.row } in
    told_of c.args.locks.now at w n c.args.id.now c.in-Some.client (node_id c.node_key.result) x facts own c.in-Some.is (c.node_key.ensures ∙ node) c.in-Some-key_of.ensures.number (c.in-Some-key_of.ensures.some ∙ named) c.in-Some-named.ensures

pub returns-in-None : goal.returns-in-None
returns-in-None c = λ w n facts node.
    let at : Place = place_at (spot_of c.args.at.now) in
    let own : ((handle_named c.args.id.now.other).level == at.subject) ≡ true = grind (arith, c.parts_of-number.ensures.level, c.ne.ensures, c.if-ne.false) in
    let named : (record { level = c.parts_of-number.result.0.0; number = c.parts_of-number.result.1 }) ≡ handle_named c.args.id.now.other = λ t. record { level = c.parts_of-number.ensures.level t; number = c.parts_of-number.ensures.number t } in
    λ next. refused_with at gates.Open NFS4ERR_BAD_STATEID _ c.refused-in-None.ensures _
    (not_there c.args.locks.now at n c.args.id.now own c.in-Some.client c.in-Some.is (keys.id_of c.in-Some-key_of.id) (node_id c.node_key.result) (c.in-Some-key_of.ensures.some ∙ named) (c.node_key.ensures ∙ node) (sym c.in-None.ensures) next)
