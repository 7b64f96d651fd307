use Rattle.std.proofs.Common.{ap, ◌∙◌, subst}
use Rattle.lnfs_ranges.specs.Modes.{mode, set, RiseFrom}
use Rattle.lnfs_ranges.proofs.Modal.{mode-set}
use Rattle.lnfs_ranges.proofs.list.RangeList.with.Goals as goal

pub returns-clause-modes : goal.returns-clause-modes
returns-clause-modes c x =
    ap (λ rs. mode rs x) (c.in_ok-ranges.ensures.value ∙ ap (λ rs. set rs c.args.first c.args.last c.args.asked) (c.deref.ensures.value ∙ c.self.view_is))
    ∙ mode-set c.args.self.now c.args.first c.args.last c.args.asked x c.requires (subst (RiseFrom 0) c.self.view_is c.self.invariant.rising)
