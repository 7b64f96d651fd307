use Rattle.std.proofs.Common.{rules, ◌∙◌, ◌==◌}
use Rattle.std.proofs.lemmas.Iterator.{YieldsList-from_slice}
use Rattle.std.proofs.lemmas.Iterator.Search.{all_from_yields_List}
use Rattle.lnfs_monitor.proofs.Labels.{all_map}
use Rattle.lnfs_monitor.proofs.judging.is_at_each.Goals as goal
use borrow.Author.Tests.{tests}

pub returns : goal.returns
returns c =
    all_from_yields_List (λ label. c.args.subject.0 == label.0) _ _ c.all.result c.all.ensures.ran (YieldsList-from_slice c.args.labels.now cc) (λ x b q k. search (rules, tests))
    ∙ all_map (λ label. label.0) (λ label. c.args.subject.0 == label) c.args.labels.now
