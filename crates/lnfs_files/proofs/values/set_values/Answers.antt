use Rattle.std.proofs.Common.{◌∙◌, sym, refl, subst, Result}
use Rattle.lnfs_attrs.specs.declared.bitmap.Bitmap.{Bitmap}
use Rattle.lnfs_world.specs.World.{World}
use Rattle.lnfs_world.specs.Outcome.{Place, Outcome}
use Rattle.lnfs_site.specs.Site.{site_of}
use Rattle.lnfs_operations.specs.declared.Refusal.{Refusal}
use Rattle.lnfs_operations.specs.Chain.{Answer}
use Rattle.lnfs_operations.specs.SetAttr.{values_set}
use Rattle.lnfs_nodes.specs.Acts.{placed}
use Rattle.lnfs_files.specs.Worlds.{with_files}
use Rattle.lnfs_files.specs.Acts.{Acts, Succeeds}
use Rattle.lnfs_files.specs.Setting.{unlabelled}
use Rattle.lnfs_files.proofs.Stages.{err_is}
use Rattle.lnfs_files.proofs.Sizes.{asks_held, not_asked, not_sized, values_done}
use Rattle.lnfs_files.proofs.values.set_values.Goals as goal

pub put_values-requires : goal.put_values-requires
put_values-requires g c = record {
  counts = c.requires.counts;
  held = c.requires.held;
  file = c.requires.file;
  fits = c.in_ok-check_given.ensures.fits;
  resizes = c.in_ok-check_given.ensures.resizes;
}

pub returns-in-Some-clause-acts : goal.returns-in-Some-clause-acts
returns-in-Some-clause-acts g c = λ n p rest set tells client holds.
    let site = site_of c.args.site.now in
    let at : Place = placed p c.args.caller.now in
    let w : World = with_files rest c.args.tree.now c.args.opens.now in
    record {
      outcome = not_asked site c.args.id.now at w n c.args.size c.args.mode set c.in-Some.why (c.in-Some.ensures ∙ asks_held site at.subject c.args.size c.args.mode c.is_some.result c.writes-writes.result n.label c.args.held.now.facts.label.0 c.is_some.ensures c.writes-writes.ensures holds.tells.label);
      tree = refl;
      opens = refl;
    }

pub returns-in_err-check_given-clause-acts : goal.returns-in_err-check_given-clause-acts
returns-in_err-check_given-clause-acts g c = λ n p rest set tells client holds.
    let site = site_of c.args.site.now in
    let at : Place = placed p c.args.caller.now in
    let t = c.args.tree.now in
    let s = c.args.opens.now in
    let w : World = with_files rest t s in
    let why : Refusal = c.in_err-check_given.field-0.0 in
    let may = c.in_default.ensures ∙ asks_held site at.subject c.args.size c.args.mode c.is_some.result c.writes-writes.result n.label c.args.held.now.facts.label.0 c.is_some.ensures c.writes-writes.ensures holds.tells.label in
    subst (λ (told : Result (Unit {0}) Refusal). Acts {A = Unit {0}} (λ it. set) at rest t t s s (values_set site c.args.id.now at w n (unlabelled c.args.size c.args.mode) set) told)
    (sym (err_is c.from_residual.result why c.from_residual.ensures.1))
    (record {
      outcome = not_sized site c.args.id.now at w n c.args.size c.args.mode set may why (c.in_err-check_given.ensures.refused n p rest tells client holds);
      tree = refl;
      opens = refl;
    })

pub returns-clause-acts : goal.returns-clause-acts
returns-clause-acts g c = λ n p rest set tells client holds.
    let site = site_of c.args.site.now in
    let at : Place = placed p c.args.caller.now in
    let t = c.args.tree.now in
    let u = c.put_values.new.tree in
    let s = c.args.opens.now in
    let w : World = with_files rest t s in
    let may = c.in_default.ensures ∙ asks_held site at.subject c.args.size c.args.mode c.is_some.result c.writes-writes.result n.label c.args.held.now.facts.label.0 c.is_some.ensures c.writes-writes.ensures holds.tells.label in
    subst (λ (o : Outcome (Answer Bitmap)). Succeeds set at rest t u s s o)
    (sym (values_done site c.args.id.now at w n c.args.size c.args.mode set may (c.in_ok-check_given.ensures.refused n p rest tells client holds)))
    (record { answer = refl; place = refl; world = c.put_values.ensures.done n p rest s holds })
