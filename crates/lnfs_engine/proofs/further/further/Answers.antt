use Rattle.std.proofs.Common.{◌≡◌, sym, ap, ◌∙◌, subst}
use Rattle.std.specs.Option.{option_map}
use Rattle.std.proofs.lemmas.Result.{IfOk-weaker}
use Rattle.lnfs_calipso.specs.Label.{IsPreorderWithBottom}
use Rattle.lnfs_policy.specs.Policy.{dominance}
use Rattle.lnfs_world.specs.Outcome.{Place}
use Rattle.lnfs_world.specs.Both.{Both, both, BothStand}
use Rattle.lnfs_site.specs.Site.{site_of}
use Rattle.lnfs_operations.specs.Extra.{After, turned, place_at, further_deed}
use Rattle.lnfs_operations.specs.Extra as operations
use Rattle.lnfs_operations.specs.Served.{further_reply}
use Rattle.lnfs_operations.proofs.Spots.{stands_at}
use Rattle.lnfs_tree.specs.Rows.{id_of}
use Rattle.lnfs_engine.specs.declared.place.Keeper.{Keeper}
use Rattle.lnfs_engine.specs.declared.reply.Came.{Came}
use Rattle.lnfs_engine.specs.Places.{place_of, Stands}
use Rattle.lnfs_engine.specs.Performs.{site_in, Performs}
use Rattle.lnfs_engine.specs.Further.{said_of, spot_of, after_of}
use Rattle.lnfs_engine.proofs.Staying.{further_performs, stays}
use Rattle.lnfs_engine.proofs.further.further.Goals as goal

pub run-requires : goal.run-requires
run-requires g c =
    let X = g.X.ExtraRows.extra in
    let r = c.args.request.now in
    let p = place_of c.args.place.now in
    let b = both c.args.store.now (g.X.ExtraRows.rows c.args.extra.now) in
    let at = c.spot_at-at.result in
    let facts = c.requires.facts in
    let there : BothStand X.Fact (dominance r.site.now) (place_at (operations.spot_of p)) b = record { world = stands_at p b.world facts.world; own = facts.own } in
    record {
      stands = subst (λ q. BothStand X.Fact (dominance q) (place_at (spot_of at)) b) (sym c.spot_at-at.ensures.site)
          (subst (λ s. BothStand X.Fact (dominance r.site.now) (place_at s) b) (sym c.spot_at-at.ensures.spot) there);
    }

pub returns-clause-performs : goal.returns-clause-performs
returns-clause-performs g c =
    let X = g.X.ExtraRows.extra in
    let r = c.args.request.now in
    let asked = c.args.asked.now in
    let p = place_of c.args.place.now in
    let b = both c.args.store.now (g.X.ExtraRows.rows c.args.extra.now) in
    let at = c.spot_at-at.result in
    let left = c.run.new.at in
    let ran = c.in_ok-ran.ran in
    let next : Place = record p { current = option_map id_of left.current; saved = option_map id_of left.saved } in
    let after = both c.run.new.store (g.X.ExtraRows.rows c.run.new.self) in
    let outcome : after_of ran left after ≡ X.outcome (site_in r) asked.number asked.args.now (operations.spot_of p) b =
    c.in_ok-ran.ensures.outcome
    ∙ ap (λ q. X.outcome (site_of q) asked.number asked.args.now (spot_of at) b) c.spot_at-at.ensures.site
    ∙ ap (λ s. X.outcome (site_in r) asked.number asked.args.now s b) c.spot_at-at.ensures.spot in
    let Goal : Came → Type 0 = λ came. (keeper : Keeper) → Performs r.begin c.args.out.now c.tell.new.out keeper keeper next after (further_reply asked.number (further_deed X (site_in r) asked.number asked.args.now) p b) came in
    IfOk-weaker c.tell.result _ Goal
    (λ came says keeper. further_performs r.begin c.args.out.now c.tell.new.out keeper asked.number (said_of ran) next after (further_deed X (site_in r) asked.number asked.args.now p b) came (ap (turned p) outcome) (says r.begin))
    c.tell.ensures

pub returns-clause-stands : goal.returns-clause-stands
returns-clause-stands g c =
    let X = g.X.ExtraRows.extra in
    let owed = g.X.ExtraRows.lawful in
    let r = c.args.request.now in
    let asked = c.args.asked.now in
    let p = place_of c.args.place.now in
    let b = both c.args.store.now (g.X.ExtraRows.rows c.args.extra.now) in
    let at = c.spot_at-at.result in
    let left = c.run.new.at in
    let ran = c.in_ok-ran.ran in
    let next : Place = record p { current = option_map id_of left.current; saved = option_map id_of left.saved } in
    let after = both c.run.new.store (g.X.ExtraRows.rows c.run.new.self) in
    let outcome : after_of ran left after ≡ X.outcome (site_in r) asked.number asked.args.now (operations.spot_of p) b =
    c.in_ok-ran.ensures.outcome
    ∙ ap (λ q. X.outcome (site_of q) asked.number asked.args.now (spot_of at) b) c.spot_at-at.ensures.site
    ∙ ap (λ s. X.outcome (site_in r) asked.number asked.args.now s b) c.spot_at-at.ensures.spot in
    let tame = owed.tame (site_in r) (subst (λ q. IsPreorderWithBottom (dominance q)) c.policy.ensures c.law_preorder.ensures) asked.number asked.args.now p b c.requires.facts in
    let Goal : Came → Type 0 = λ came. (keeper : Keeper) → Stands p c.args.store.now.sessions keeper → Stands next c.run.new.store.sessions keeper in
    IfOk-weaker c.tell.result _ Goal
    (λ came says keeper stands.
    stays p next.current next.saved b.world.sessions after.world.sessions keeper (ap (λ (a : After (Both X.Row)). a.state.world.sessions) outcome ∙ tame.untouched.sessions) stands)
    c.tell.ensures
