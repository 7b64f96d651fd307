use Rattle.std.proofs.Common.{sym, ◌∙◌, ap}
use Rattle.lnfs_world.specs.Usage.{bytes_of}
use Rattle.lnfs_tree.specs.Rows.{rows_of}
use Rattle.lnfs_files.proofs.WriteOn.{is_counted}
use Rattle.lnfs_sparse.proofs.HeldFiles.{size_is, held_kind}
use Rattle.lnfs_sparse.proofs.files.check_size.Goals as goal

pub byte_room-requires : goal.byte_room-requires
byte_room-requires c =
    let w = c.args.store.now in
    let h = c.args.held.now in
    let is = c.requires in
    record { held = is_counted c.quota.result.now (rows_of w) h h.facts.size (is.node, is.holds) (λ n holds. ap (bytes_of n) (held_kind w h is n holds) ∙ sym (size_is (rows_of w) n h holds (held_kind w h is n holds))) c.quota.ensures (c.law_totals.ensures.held_bytes c.quota.result.now w.nodes) (c.law_totals.ensures.held_bounds c.quota.result.now w.nodes) }
