use Rattle.std.proofs.Common.{◌&&◌, sym, ap, ◌∙◌}
use Rattle.std.specs.List.{list_any}
use Rattle.lnfs_open.specs.Listed.{id_of}
use Rattle.lnfs_open.specs.Tallies.{in_layer}
use Rattle.lnfs_open.specs.Stopping.{opens_in, stopped_by}
use Rattle.lnfs_open.proofs.shares.Share.is_stopped_among.Goals as goal

pub returns-then-may_be_stopped : goal.returns-then-may_be_stopped
returns-then-may_be_stopped g c = λ told tells.
    let stopped = list_any (λ o. in_layer (id_of c.args.layer.node) c.args.layer.level o && stopped_by c.args.self.now told o) (opens_in c.args.rows.now) in
    c.is_stopped_in.ensures told tells
    ∙ ap (λ b. b && stopped) (sym c.if-may_be_stopped.true ∙ c.may_be_stopped.ensures)
