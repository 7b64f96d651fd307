use Rattle.std.proofs.Common.{ap, sym, ◌∙◌, Option, Some}
use Rattle.std.specs.Option.{option_map}
use Rattle.lnfs_world.specs.Outcome.{Place}
use Rattle.lnfs_site.specs.Site.{site_of}
use Rattle.lnfs_operations.specs.StateIds.{Special, Bypass, where_usable_by}
use Rattle.lnfs_nodes.specs.Acts.{placed}
use Rattle.lnfs_files.specs.Worlds.{with_opens}
use Rattle.lnfs_files.specs.Tests.{passed, refusal_in}
use Rattle.lnfs_files.specs.declared.state_ids.Special as code
use Rattle.lnfs_files.specs.declared.state_ids.Way.{Way}
use Rattle.lnfs_files.specs.Uses.{way_of, special_of}
use Rattle.lnfs_files.proofs.state_ids.check_usable.Goals as goal

pub returns-in-Some-Anonymous : goal.returns-in-Some-Anonymous
returns-in-Some-Anonymous g c = λ p rest n tells client node.
    let at : Place = placed p c.args.caller.now in
    c.check_undenied.ensures p rest n tells node
    ∙ ap (λ (m : Option Special). refusal_in (where_usable_by m (site_of c.args.site.now) at (with_opens rest c.args.opens.now) n c.args.id.now (way_of c.args.way) (passed at))) (ap (λ (x : code.Special). Some (special_of x)) (sym c.in-Some-Anonymous.field-0-is) ∙ c.in-Some-Anonymous.ensures)

pub returns-in-Writing : goal.returns-in-Writing
returns-in-Writing g c = λ p rest n tells client node.
    let at : Place = placed p c.args.caller.now in
    c.check_undenied-in-Writing.ensures p rest n tells node
    ∙ ap (λ (w : Way). refusal_in (where_usable_by (Some Bypass) (site_of c.args.site.now) at (with_opens rest c.args.opens.now) n c.args.id.now (way_of w) (passed at))) (sym c.in-Writing.is)
    ∙ ap (λ (m : Option Special). refusal_in (where_usable_by m (site_of c.args.site.now) at (with_opens rest c.args.opens.now) n c.args.id.now (way_of c.args.way) (passed at))) (ap (λ (x : code.Special). Some (special_of x)) (sym c.in-Some-Bypass.field-0-is) ∙ c.in-Some-Bypass.ensures)

pub returns-in-None : goal.returns-in-None
returns-in-None g c = λ p rest n tells client node.
    let at : Place = placed p c.args.caller.now in
    c.check_opened.ensures (site_of c.args.site.now) p rest n client node
    ∙ ap (λ (m : Option Special). refusal_in (where_usable_by m (site_of c.args.site.now) at (with_opens rest c.args.opens.now) n c.args.id.now (way_of c.args.way) (passed at))) (sym (ap (option_map special_of) c.in-None.is) ∙ c.meaning.ensures)
