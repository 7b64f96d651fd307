use Rattle.std.proofs.Common.{length, ap, ◌∙◌, arith}
use Rattle.lnfs_traffic.proofs.Lengths.{sys_length}
use Rattle.lnfs_traffic.proofs.calls.write_request.Goals as goal

pub write_call-requires-clause-credential : goal.write_call-requires-clause-credential
write_call-requires-clause-credential c = omega (arith, ap length (c.deref.ensures.value ∙ c.in_ok-body.ensures), sys_length c.args.uid)
