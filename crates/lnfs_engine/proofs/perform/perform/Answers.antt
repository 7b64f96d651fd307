use Rattle.std.proofs.Common.{◌≡◌, ◌-◌, List, Some, None, length, refl, sym, ap, ◌∙◌, subst}
use Rattle.std.proofs.lemmas.Result.{IfOk-weaker}
use Rattle.lnfs_arguments.specs.Further.{Further}
use Rattle.lnfs_results.specs.declared.types.OpResult.{OpResult}
use Rattle.lnfs_world.specs.Lawful.{Turn}
use Rattle.lnfs_world.specs.Both.{Both, both}
use Rattle.lnfs_operations.specs.Admission.{used, admission}
use Rattle.lnfs_operations.specs.Served.{Nowhere, Reply, operation}
use Rattle.lnfs_engine.specs.declared.reply.Came.{Came}
use Rattle.lnfs_engine.specs.Places.{place_of, keeper_of, further_in}
use Rattle.lnfs_nodes.specs.Trees.{refusal_of}
use Rattle.lnfs_engine.specs.Further.{asked_of}
use Rattle.lnfs_engine.specs.Performs.{site_in, sent_of, Performs}
use Rattle.lnfs_engine.proofs.Acting.{first_nowhere}
use Rattle.lnfs_engine.proofs.Operating.{runs, fails, own_row, further_row, lifted}
use Rattle.lnfs_engine.proofs.perform.perform.Goals as goal

pub returns-in-Some-clause-performs : goal.returns-in-Some-clause-performs
returns-in-Some-clause-performs g c =
    let X = g.X.ExtraRows.extra in
    let r = c.args.request.now in
    let k = r.compound.now in
    let op = c.args.op.now in
    let here = c.args.keeper.now in
    let p = place_of c.args.place.now in
    let b = both c.args.store.now (g.X.ExtraRows.rows c.args.extra.now) in
    let why = refusal_of c.in-Some.why in
    let written = c.saturating_sub-written.ensures ∙ ap (λ n. n - r.begin) c.mark.ensures in
    let Goal : Came → Type 0 = λ came. (so_far : List OpResult) → length so_far ≡ c.args.done → used k so_far ≡ length c.args.out.now - r.begin →
    Performs r.begin c.args.out.now c.say.new.out here here p b (operation X (site_in r) (sent_of r) k so_far op p b) came in
    IfOk-weaker c.say.result _ Goal
    (λ came says so_far length_is used_is.
    let refused = subst (λ (x : Further). Some why ≡ admission x k so_far op p b.world) g.met.X.Extra.same_grammar (c.in-Some.ensures.refusal p b.world so_far c.requires.stands length_is (used_is ∙ sym written)) in
    let is = fails X (site_in r) (sent_of r) k so_far op p b why refused in
    subst (λ (t : Turn Reply (Both X.Row)). Performs r.begin c.args.out.now c.say.new.out here here p b t came) (sym is)
    (record { place_is = refl; state = refl; keeper = first_nowhere (keeper_of here); says = says r.begin Nowhere }))
    c.say.ensures

pub returns-in-Some-further_in-clause-performs : goal.returns-in-Some-further_in-clause-performs
returns-in-Some-further_in-clause-performs g c =
    let X = g.X.ExtraRows.extra in
    let r = c.args.request.now in
    let k = r.compound.now in
    let op = c.args.op.now in
    let here = c.args.keeper.now in
    let p = place_of c.args.place.now in
    let b = both c.args.store.now (g.X.ExtraRows.rows c.args.extra.now) in
    let asked = c.in-Some-further_in.asked in
    let next = place_of c.further.new.place in
    let after = both c.further.new.store (g.X.ExtraRows.rows c.further.new.extra) in
    let written = c.saturating_sub-written.ensures ∙ ap (λ n. n - r.begin) c.mark.ensures in
    let Goal : Came → Type 0 = λ came. (so_far : List OpResult) → length so_far ≡ c.args.done → used k so_far ≡ length c.args.out.now - r.begin →
    Performs r.begin c.args.out.now c.further.new.out here here next after (operation X (site_in r) (sent_of r) k so_far op p b) came in
    IfOk-weaker c.further.result _ Goal
    (λ came did so_far length_is used_is.
    let same = g.met.X.Extra.same_grammar in
    let admitted = subst (λ (x : Further). None ≡ admission x k so_far op p b.world) same (c.in_default.ensures.refusal p b.world so_far c.requires.stands length_is (used_is ∙ sym written)) in
    let found = subst (λ (x : Further). Some (asked_of asked) ≡ further_in x op) same c.in-Some-further_in.ensures in
    let is = runs X (site_in r) (sent_of r) k so_far op p b admitted ∙ further_row X (site_in r) (sent_of r) op asked.number asked.args.now p b found in
    subst (λ (t : Turn Reply (Both X.Row)). Performs r.begin c.args.out.now c.further.new.out here here next after t came) (sym is) (did here))
    c.further.ensures.performs

-- what holds of the world's opens
pub serve-requires-clause-opens : goal.serve-requires-clause-opens
serve-requires-clause-opens g c =
    let facts = c.requires.facts.world.facts in
    record { rise = facts.clients.rise; behind = facts.opens.behind }

pub serve-requires-clause-nodes : goal.serve-requires-clause-nodes
serve-requires-clause-nodes g c = c.requires.facts.world.facts.opens.nodes

pub returns-in-None-clause-performs : goal.returns-in-None-clause-performs
returns-in-None-clause-performs g c =
    let X = g.X.ExtraRows.extra in
    let r = c.args.request.now in
    let k = r.compound.now in
    let op = c.args.op.now in
    let here = c.args.keeper.now in
    let p = place_of c.args.place.now in
    let rows = g.X.ExtraRows.rows c.args.extra.now in
    let b = both c.args.store.now rows in
    let next = place_of c.serve.new.place in
    let after = both c.serve.new.store rows in
    let written = c.saturating_sub-written.ensures ∙ ap (λ n. n - r.begin) c.mark.ensures in
    let Goal : Came → Type 0 = λ came. (so_far : List OpResult) → length so_far ≡ c.args.done → used k so_far ≡ length c.args.out.now - r.begin →
    Performs r.begin c.args.out.now c.serve.new.out here c.serve.new.keeper next after (operation X (site_in r) (sent_of r) k so_far op p b) came in
    IfOk-weaker c.serve.result _ Goal
    (λ came did so_far length_is used_is.
    let same = g.met.X.Extra.same_grammar in
    let admitted = subst (λ (x : Further). None ≡ admission x k so_far op p b.world) same (c.in_default.ensures.refusal p b.world so_far c.requires.stands length_is (used_is ∙ sym written)) in
    let found = subst (λ (x : Further). None ≡ further_in x op) same c.in-None.ensures in
    let is = runs X (site_in r) (sent_of r) k so_far op p b admitted ∙ own_row X (site_in r) (sent_of r) op p b found in
    subst (λ (t : Turn Reply (Both X.Row)). Performs r.begin c.args.out.now c.serve.new.out here c.serve.new.keeper next after t came) (sym is)
    (lifted r.begin c.args.out.now c.serve.new.out here c.serve.new.keeper next (site_in r) (sent_of r) op p c.args.store.now c.serve.new.store rows came did))
    c.serve.ensures.performs
