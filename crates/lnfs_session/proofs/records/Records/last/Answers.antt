use Rattle.std.proofs.Common.{ap, sym, ◌∙◌}
use Rattle.lnfs_world.specs.World.{last_of}
use Rattle.lnfs_session.specs.Records.{ClientLists}
use Rattle.lnfs_session.proofs.records.Records.last.Goals as goal

pub returns : goal.returns
returns c = c.last_given.ensures ∙ sym (c.self.invariant.counted.lasting c.args.level) ∙ ap (λ (lists : ClientLists). last_of c.args.level lists.lasts) c.self.view_is
