use Rattle.std.proofs.Common.{◌<◌, length, ap, ◌∙◌, arith}
use Rattle.lnfs_signed_calls.proofs.Lengths.{args_length}
use Rattle.lnfs_signed_calls.proofs.writing.write_create.Goals as goal

pub wrap-requires : goal.wrap-requires
wrap-requires g c =
    omega (arith, ap length (c.deref.ensures.value ∙ c.in_ok-args.ensures), args_length (record { lfs = c.args.lfs; pi = c.args.pi; label = c.args.label.now }), c.requires)
