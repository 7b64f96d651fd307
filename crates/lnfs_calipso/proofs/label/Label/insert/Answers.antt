use Rattle.std.proofs.Common.{◌∙◌, ap}
use Rattle.lnfs_calipso.specs.Label.{Label, with_comp}
use Rattle.lnfs_calipso.proofs.Marks.{members-insert, with_comps}
use Rattle.lnfs_calipso.proofs.label.Label.insert.Goals as goal

pub returns-clause-ok : goal.returns-clause-ok
returns-clause-ok c =
    ap (with_comps c.self.inside.doi c.self.inside.sens) (members-insert c.self.inside.words.items c.insert.new.words.items c.args.comp c.self.invariant.few c.in_ok-insert.ensures.marked)
    ∙ ap (λ (l : Label). with_comp l c.args.comp) c.self.view_is
