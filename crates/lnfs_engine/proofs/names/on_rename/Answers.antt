use Rattle.std.proofs.Common.{◌≡◌, ℕ, List, Option, sym, subst}
use Rattle.std.specs.Prelude.{Result, IfOk}
use Rattle.std.specs.Option.{option_map}
use Rattle.lnfs_world.specs.Facts.{NodeFacts}
use Rattle.lnfs_world.specs.Outcome.{Site, Place}
use Rattle.lnfs_operations.specs.declared.Refusal.{Refusal}
use Rattle.lnfs_results.specs.declared.types.OpResult.{OpResult}
use Rattle.lnfs_results.specs.declared.types.OpResult.TheVariants as results
use Rattle.lnfs_tree.specs.Rows.{Rows}
use Rattle.lnfs_tree.specs.Changed.{Gone, gone_of}
use Rattle.lnfs_tree.specs.declared.node.Info.{Info}
use Rattle.lnfs_tree.specs.declared.node.Dropped.{Dropped}
use Rattle.lnfs_open.specs.Lists.{no_lists}
use Rattle.lnfs_files.specs.Worlds.{with_opens, with_files}
use Rattle.lnfs_nodes.specs.Acts.{placed, ActsLeaving, without_opens}
use Rattle.lnfs_engine.specs.Places.{place_of}
use Rattle.lnfs_engine.specs.Performs.{site_in}
use Rattle.lnfs_engine.specs.Counts.{TakenFrom}
use Rattle.lnfs_engine.specs.Names.{Serves}
use Rattle.lnfs_engine.specs.Stores.{opens_past}
use Rattle.lnfs_engine.proofs.Acting.{some_world}
use Rattle.lnfs_engine.proofs.OnNames.{on_gone, serves, taken}
use Rattle.lnfs_engine.proofs.Counting.{as_many, taken_held}
use Rattle.lnfs_operations.specs.Rename.{Renamed, rename}
use Rattle.lnfs_nodes.specs.Renames.{renamed_of, gone_past}
use Rattle.lnfs_engine.proofs.NamesCounts.{rename_went}
use Rattle.lnfs_engine.proofs.names.on_rename.Goals as goal

abbrev Told : Type 0
Told = Info × Info × Option Dropped

abbrev lost : Told → Option Gone
lost r = option_map gone_of r.2

abbrev told_of : Told → Renamed
told_of r = renamed_of r.0 r.1

gone : (site : Site) (old new : List ℕ) (at : Place) (t u : Rows) → NodeFacts site.dom t.nodes t.entries t.lasts → (told : Result Told Refusal) →
    ActsLeaving told_of (λ r. at) (λ r. without_opens (lost r)) at (with_opens some_world no_lists) t u (rename site old new at (with_files some_world t no_lists)) told →
    IfOk told (λ r. lost r ≡ gone_past t at.saved old at.current new) → TakenFrom lost told t.nodes u.nodes
gone site old new at t u facts told did is =
    let act = rename site old new at (with_files some_world t no_lists) in
    taken told_of (λ (r : Told). at) at (with_files some_world t no_lists) (with_files some_world u (opens_past lost told no_lists)) act lost (gone_past t at.saved old at.current new) told
    (on_gone lost told_of (λ (r : Told). at) at some_world t u no_lists act told did) is
    (as_many t.nodes) (rename_went site at (with_opens some_world no_lists) t facts old new)

pub take_renamed-requires : goal.take_renamed-requires
take_renamed-requires c =
    let p = place_of c.args.place.now in
    let t = c.args.tree.now in
    let u = c.rename.new.tree in
    let told = c.in_ok-told in
    record {
      held = taken_held c.args.quota.now t.nodes u.nodes c.requires.counts lost told.told
          (gone (site_in c.args.request.now) c.args.old.now c.args.new.now (placed p c.caller_of-caller.result) t u c.requires.facts told.told (told.ensures.acts p (with_opens some_world no_lists)) told.ensures.gone);
    }

pub returns-clause-serves : goal.returns-clause-serves
returns-clause-serves c = λ rest.
    let p = place_of c.args.place.now in
    let site = site_in c.args.request.now in
    let old = c.args.old.now in
    let new = c.args.new.now in
    let t = c.args.tree.now in
    let u = c.rename.new.tree in
    let s = c.args.opens.now in
    let told = c.in_ok-told in
    let result : Renamed → OpResult = λ r. results.Rename r.source r.target in
    let at : Place = placed p c.caller_of-caller.result in
    subst (λ v. Serves result (rename site old new p (with_files rest t s)) c.take_renamed.result p (with_files rest t s) (with_files rest u v)) (sym c.take_renamed.ensures.opens)
    (serves result told_of (with_files rest t s) (with_files rest u (opens_past lost told.told s)) at p (λ (q : Place). rename site old new q (with_files rest t s)) told.told c.take_renamed.result
    c.caller_of-caller.ensures c.take_renamed.ensures.answer (on_gone lost told_of (λ (r : Told). at) at rest t u s (rename site old new at (with_files rest t s)) told.told (told.ensures.acts p (with_opens rest s))))

pub returns-clause-counts : goal.returns-clause-counts
returns-clause-counts c =
    let p = place_of c.args.place.now in
    let t = c.args.tree.now in
    let u = c.rename.new.tree in
    let told = c.in_ok-told in
    c.take_renamed.ensures.counts t.nodes u.nodes c.requires.counts
    (gone (site_in c.args.request.now) c.args.old.now c.args.new.now (placed p c.caller_of-caller.result) t u c.requires.facts told.told (told.ensures.acts p (with_opens some_world no_lists)) told.ensures.gone)
