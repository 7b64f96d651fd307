use Rattle.std.proofs.Common.{◌≡◌, rules}
use Rattle.std.specs.Prelude.{IfOk}
use Rattle.lnfs_asking.specs.Sending.{call_by_guest}
use Rattle.lnfs_asking.proofs.Records.{guest_room, room_of}
use Rattle.lnfs_asking.proofs.sending.call_by_guest.Goals as goal

pub returns-in-Ask-clause-short : goal.returns-in-Ask-clause-short
returns-in-Ask-clause-short c =
    let is : IfOk c.plain_call.result (λ call. call ≡ call_by_guest c.args.uid c.args.xid c.args.plan) = search rules in
    λ short. room_of _ _ is (guest_room c.args.uid c.args.xid c.args.plan c.requires short)

pub returns-in-Assert-clause-short : goal.returns-in-Assert-clause-short
returns-in-Assert-clause-short c =
    let is : IfOk c.plain_call-in-Assert.result (λ call. call ≡ call_by_guest c.args.uid c.args.xid c.args.plan) = search rules in
    λ short. room_of _ _ is (guest_room c.args.uid c.args.xid c.args.plan c.requires short)

pub returns-clause-short : goal.returns-clause-short
returns-clause-short c =
    let is : IfOk c.plain_call-in-End.result (λ call. call ≡ call_by_guest c.args.uid c.args.xid c.args.plan) = search rules in
    λ short. room_of _ _ is (guest_room c.args.uid c.args.xid c.args.plan c.requires short)
