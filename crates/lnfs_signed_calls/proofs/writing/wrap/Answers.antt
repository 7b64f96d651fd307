use Rattle.std.proofs.Common.{◌<◌, length, ap, ◌∙◌, arith}
use Rattle.std.proofs.lemmas.List.{length-append}
use Rattle.lnfs_xdr.proofs.Sizes.{length-word}
use Rattle.lnfs_signed_calls.proofs.writing.wrap.Goals as goal

pub append_signed-requires : goal.append_signed-requires
append_signed-requires g c =
    omega (
      arith,
      ap length (c.deref.ensures.value ∙ c.into_bytes-databody.ensures ∙ c.in_ok-raw.ensures.ok),
      length-append c.in_ok-body.body c.args.arguments.now,
      ap length c.in_ok-body.ensures,
      length-word c.args.sequence,
      c.requires,
    )
