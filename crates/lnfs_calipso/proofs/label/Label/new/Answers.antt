use Rattle.std.proofs.Common.{ℕ, [], ◌<◌, ◌+◌, ◌==◌, take, get_or, arith, refl, sym, ap, ◌∙◌}
use Rattle.std.proofs.lemmas.List.Elements.{All-more}
use Rattle.std.proofs.lemmas.List.Folds.{list_any_more}
use Rattle.lnfs_calipso.specs.Label.{Label, has_comp, with_comp}
use Rattle.lnfs_calipso.proofs.Members.{no_compartments}
use Rattle.lnfs_calipso.proofs.Marks.{with_comps, labelled-more}
use Rattle.lnfs_calipso.proofs.label.Label.new.Goals as goal

pub loop-comp-init : goal.loop-comp-init
loop-comp-init c = record {
  below = λ k d l. absurd (omega arith);
  label = c.bare-label.ensures ∙ ap (with_comps c.args.doi c.args.sens) (sym (no_compartments (has_comp []) (λ k. refl)));
}

pub loop-comp-preserved : goal.loop-comp-preserved
loop-comp-preserved c = record {
  below = All-more (λ k. k < 1920) c.args.comps.now c.loop-comp.comp-index 0 c.loop-comp-test.true c.loop-comp.invariant.below c.if-comp-ge-COMPARTMENTS.false;
  label =
      c.in_ok-insert.ensures.ok ∙ ap (λ (l : Label). with_comp l (get_or c.args.comps.now c.loop-comp.comp-index 0)) c.loop-comp.invariant.label
      ∙ labelled-more c.args.doi c.args.sens (get_or c.args.comps.now c.loop-comp.comp-index 0) (take c.loop-comp.comp-index c.args.comps.now) (take (c.loop-comp.comp-index + 1) c.args.comps.now)
      (λ k. list_any_more (λ x. x == k) c.args.comps.now c.loop-comp.comp-index 0 c.loop-comp-test.true);
}
