use Rattle.std.proofs.Common.{◌∙◌}
use Rattle.lnfs_vault.specs.Seals.{seen_sealing, bare_by}
use Rattle.lnfs_rpc.proofs.Rooms.{behind_room, has_room}
use Rattle.lnfs_vault.proofs.sealing.bare.Goals as goal

pub new-requires : goal.new-requires
new-requires c =
    let reply = bare_by (seen_sealing c.args.sealing.now) c.args.xid in
    has_room c.into_bytes.result.items reply (c.into_bytes.ensures ∙ c.in_ok-out.ensures)

pub returns : goal.returns
returns c =
    let reply = bare_by (seen_sealing c.args.sealing.now) c.args.xid in
    c.new.ensures ∙ behind_room c.into_bytes.result.items reply (c.into_bytes.ensures ∙ c.in_ok-out.ensures)
