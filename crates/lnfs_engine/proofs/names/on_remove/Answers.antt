use Rattle.std.proofs.Common.{◌≡◌, ℕ, List, Option, sym, subst}
use Rattle.std.specs.Prelude.{Result, IfOk}
use Rattle.std.specs.Option.{option_map}
use Rattle.lnfs_world.specs.Facts.{NodeFacts}
use Rattle.lnfs_world.specs.Outcome.{Site, Place}
use Rattle.lnfs_operations.specs.declared.Refusal.{Refusal}
use Rattle.lnfs_results.specs.declared.types.OpResult.TheVariants as results
use Rattle.lnfs_tree.specs.Rows.{Rows}
use Rattle.lnfs_tree.specs.Changed.{Gone, gone_of}
use Rattle.lnfs_tree.specs.declared.node.Info.{Info}
use Rattle.lnfs_tree.specs.declared.node.Dropped.{Dropped}
use Rattle.lnfs_open.specs.Lists.{no_lists}
use Rattle.lnfs_files.specs.Worlds.{with_opens, with_files}
use Rattle.lnfs_nodes.specs.Acts.{placed, ActsLeaving, without_opens}
use Rattle.lnfs_engine.specs.Places.{place_of}
use Rattle.lnfs_engine.specs.Performs.{site_in}
use Rattle.lnfs_engine.specs.Counts.{TakenFrom}
use Rattle.lnfs_engine.specs.Names.{Serves}
use Rattle.lnfs_engine.specs.Stores.{opens_past}
use Rattle.lnfs_engine.proofs.Acting.{some_world}
use Rattle.lnfs_engine.proofs.OnNames.{on_gone, serves, taken}
use Rattle.lnfs_engine.proofs.Counting.{as_many, taken_held}
use Rattle.lnfs_operations.specs.Remove.{remove}
use Rattle.lnfs_nodes.specs.Told.{cinfo_of, gone_from}
use Rattle.lnfs_engine.proofs.NamesCounts.{remove_went}
use Rattle.lnfs_engine.proofs.names.on_remove.Goals as goal

abbrev Told : Type 0
Told = Info × Option Dropped

abbrev lost : Told → Option Gone
lost r = option_map gone_of r.1

gone : (site : Site) (name : List ℕ) (at : Place) (t u : Rows) → NodeFacts site.dom t.nodes t.entries t.lasts → (told : Result Told Refusal) →
    ActsLeaving (λ r. cinfo_of r.0) (λ r. at) (λ r. without_opens (lost r)) at (with_opens some_world no_lists) t u (remove site name at (with_files some_world t no_lists)) told →
    IfOk told (λ r. lost r ≡ gone_from t at.current name) → TakenFrom lost told t.nodes u.nodes
gone site name at t u facts told did is =
    let act = remove site name at (with_files some_world t no_lists) in
    taken (λ (r : Told). cinfo_of r.0) (λ (r : Told). at) at (with_files some_world t no_lists) (with_files some_world u (opens_past lost told no_lists)) act lost (gone_from t at.current name) told
    (on_gone lost (λ (r : Told). cinfo_of r.0) (λ (r : Told). at) at some_world t u no_lists act told did) is
    (as_many t.nodes) (remove_went site at (with_opens some_world no_lists) t facts name)

pub take_removed-requires : goal.take_removed-requires
take_removed-requires c =
    let p = place_of c.args.place.now in
    let t = c.args.tree.now in
    let u = c.remove-told.new.tree in
    record {
      held = taken_held c.args.quota.now t.nodes u.nodes c.requires.counts lost c.remove-told.result
          (gone (site_in c.args.request.now) c.args.name.now (placed p c.caller_of-caller.result) t u c.requires.facts c.remove-told.result (c.remove-told.ensures.acts p (with_opens some_world no_lists)) c.remove-told.ensures.gone);
    }

pub returns-clause-serves : goal.returns-clause-serves
returns-clause-serves c = λ rest.
    let p = place_of c.args.place.now in
    let site = site_in c.args.request.now in
    let name = c.args.name.now in
    let t = c.args.tree.now in
    let u = c.remove-told.new.tree in
    let s = c.args.opens.now in
    let told = c.remove-told.result in
    let at : Place = placed p c.caller_of-caller.result in
    subst (λ v. Serves results.Remove (remove site name p (with_files rest t s)) c.take_removed.result p (with_files rest t s) (with_files rest u v)) (sym c.take_removed.ensures.opens)
    (serves results.Remove (λ (r : Told). cinfo_of r.0) (with_files rest t s) (with_files rest u (opens_past lost told s)) at p (λ (q : Place). remove site name q (with_files rest t s)) told c.take_removed.result
    c.caller_of-caller.ensures c.take_removed.ensures.answer (on_gone lost (λ (r : Told). cinfo_of r.0) (λ (r : Told). at) at rest t u s (remove site name at (with_files rest t s)) told (c.remove-told.ensures.acts p (with_opens rest s))))

pub returns-clause-counts : goal.returns-clause-counts
returns-clause-counts c =
    let p = place_of c.args.place.now in
    let t = c.args.tree.now in
    let u = c.remove-told.new.tree in
    c.take_removed.ensures.counts t.nodes u.nodes c.requires.counts
    (gone (site_in c.args.request.now) c.args.name.now (placed p c.caller_of-caller.result) t u c.requires.facts c.remove-told.result (c.remove-told.ensures.acts p (with_opens some_world no_lists)) c.remove-told.ensures.gone)
