use Rattle.std.proofs.Common.{◌∙◌}
use Rattle.lnfs_rpc.specs.Replies.{seen_head, reply_text}
use Rattle.lnfs_rpc.proofs.Rooms.{behind_room, has_room, built_whole}
use Rattle.lnfs_rpc.proofs.replies.write_reply.Goals as goal

pub new-requires : goal.new-requires
new-requires c =
    let h = seen_head c.args.head.now in
    let results = c.args.results.now in
    has_room c.into_bytes.result.items (reply_text c.args.xid h results)
    (built_whole c.args.xid h results _ c.into_bytes.result.items c.in_ok-out.ensures (c.into_bytes.ensures ∙ c.in_ok-raw.ensures.ok))

pub returns : goal.returns
returns c =
    let h = seen_head c.args.head.now in
    let results = c.args.results.now in
    c.new.ensures ∙ behind_room c.into_bytes.result.items (reply_text c.args.xid h results)
    (built_whole c.args.xid h results _ c.into_bytes.result.items c.in_ok-out.ensures (c.into_bytes.ensures ∙ c.in_ok-raw.ensures.ok))
