use Rattle.std.proofs.Common.{◌≡◌, rules}
use Rattle.std.specs.Prelude.{IfOk}
use Rattle.lnfs_asking.specs.Sending.{call_by_member}
use Rattle.lnfs_asking.proofs.Records.{member_room, room_of}
use Rattle.lnfs_asking.proofs.sending.call_by_member.Goals as goal

pub returns-in-Assert-clause-short : goal.returns-in-Assert-clause-short
returns-in-Assert-clause-short g c =
    let m = g.M.Mechanism.signing in
    let is : IfOk c.write_create.result (λ call. call ≡ call_by_member m c.args.parent.now c.args.context.now c.args.xid c.args.plan) = search rules in
    λ short. room_of _ _ is (member_room m g.M.Mechanism.sized c.args.parent.now c.args.context.now c.args.xid c.args.plan c.told-context c.requires short)

pub returns-in_ok-arguments-in-Ask-clause-short : goal.returns-in_ok-arguments-in-Ask-clause-short
returns-in_ok-arguments-in-Ask-clause-short g c =
    let m = g.M.Mechanism.signing in
    let is : IfOk c.write_data.result (λ call. call ≡ call_by_member m c.args.parent.now c.args.context.now c.args.xid c.args.plan) = search rules in
    λ short. room_of _ _ is (member_room m g.M.Mechanism.sized c.args.parent.now c.args.context.now c.args.xid c.args.plan c.told-context c.requires short)

pub returns-in-End-clause-short : goal.returns-in-End-clause-short
returns-in-End-clause-short g c =
    let m = g.M.Mechanism.signing in
    let is : IfOk c.write_destroy.result (λ call. call ≡ call_by_member m c.args.parent.now c.args.context.now c.args.xid c.args.plan) = search rules in
    λ short. room_of _ _ is (member_room m g.M.Mechanism.sized c.args.parent.now c.args.context.now c.args.xid c.args.plan c.told-context c.requires short)
