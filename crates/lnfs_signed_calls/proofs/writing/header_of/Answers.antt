use Rattle.std.proofs.Common.{◌<◌, length, ap, ◌∙◌, arith}
use Rattle.lnfs_gss3.specs.declared.numbers.TheConstants.{INTEGRITY}
use Rattle.lnfs_signed_calls.proofs.Lengths.{credential_length}
use Rattle.lnfs_signed_calls.proofs.writing.header_of.Goals as goal

pub write_header-requires : goal.write_header-requires
write_header-requires c =
    omega (
      arith,
      ap length (c.deref.ensures.value ∙ c.in_ok-body.ensures),
      credential_length (record { procedure = c.args.asked; sequence = c.args.xid; service = INTEGRITY; handle = c.args.handle.now }),
      c.requires,
    )
