use Rattle.std.proofs.Common.{◌≡◌, ◌<◌, ℕ, true, length, Some, refl, sym, ap, ◌∙◌, subst}
use Rattle.std.specs.Prelude.{nat_lt}
use Rattle.lnfs_world.specs.Usage.{nodes_used}
use Rattle.lnfs_world.specs.Outcome.{Place, done_to}
use Rattle.lnfs_operations.specs.Create.{Made, create}
use Rattle.lnfs_results.specs.declared.types.OpResult.TheVariants as results
use Rattle.lnfs_tree.specs.Rows.{id_of}
use Rattle.lnfs_nodes.specs.Trees.{with_tree}
use Rattle.lnfs_nodes.specs.Acts.{placed}
use Rattle.lnfs_nodes.specs.Creating.{created_of}
use Rattle.lnfs_nodes.specs.declared.creating.Created.{Created}
use Rattle.lnfs_engine.specs.Places.{place_of}
use Rattle.lnfs_engine.specs.Performs.{site_in}
use Rattle.lnfs_quota.specs.Totals.{AreTotals}
use Rattle.lnfs_files.specs.Charges.{MayRise}
use Rattle.lnfs_engine.specs.Counts.{charged}
use Rattle.lnfs_engine.proofs.Acting.{some_world}
use Rattle.lnfs_engine.proofs.OnNames.{on_tree, serves_to, succeeded, charged_counts, lands_moved}
use Rattle.lnfs_engine.proofs.NamesCounts.{create_more, create_room}
use Rattle.lnfs_engine.proofs.Counting.{has_row}
use Rattle.lnfs_engine.proofs.names.on_create.Goals as goal

abbrev lands : Place → Created → Place
lands q c = record q { current = Some (id_of c.node) }

pub create-requires : goal.create-requires
create-requires c =
    let site = site_in c.args.request.now in
    let t = c.args.tree.now in
    record {
      facts = c.requires.facts;
      room = subst (λ (s : ℕ). c.room_for-room.result ≡ nat_lt (nodes_used t.nodes s) (site.nodes s)) (sym (ap (λ (q : Place). q.subject) c.caller_of-caller.ensures)) (c.room_for-room.ensures.room t.nodes c.requires.counts);
    }

pub take_made-requires : goal.take_made-requires
take_made-requires c =
    let site = site_in c.args.request.now in
    let p = place_of c.args.place.now in
    let at : Place = placed p c.caller_of-caller.result in
    let t = c.args.tree.now in
    let u = c.create.new.tree in
    let told = c.in_ok-told in
    let rows = c.args.quota.now in
    let what = c.args.what.now in
    let name = c.args.name.now in
    let given = c.args.given.now in
    let act = create site what name given at (with_tree some_world t) in
    let subject : at.subject ≡ p.subject = ap (λ (q : Place). q.subject) c.caller_of-caller.ensures in
    let tells = on_tree created_of (lands at) at some_world t u act told.told (told.ensures.acts p some_world) in
    record {
      known = succeeded created_of (lands at) at (with_tree some_world t) (with_tree some_world u) act (p.subject < length rows) told.told tells
          (λ made is. subst (λ (s : ℕ). s < length rows) subject (has_row rows t.nodes (done_to (with_tree some_world t) act).nodes c.requires.counts at.subject ((create_more site at some_world t c.requires.facts c.law_listed.ensures what name given made is).listed c.requires.counts.bounds)));
      rises = succeeded created_of (lands at) at (with_tree some_world t) (with_tree some_world u) act (MayRise rows p.subject) told.told tells
          (λ made is. c.room_for-room.ensures.rises (c.room_for-room.ensures.room t.nodes c.requires.counts
          ∙ subst (λ (s : ℕ). nat_lt (nodes_used t.nodes s) (site.nodes s) ≡ true) subject (create_room site at some_world t c.requires.facts what name given made is)));
    }

pub returns-clause-serves : goal.returns-clause-serves
returns-clause-serves c = λ rest.
    let p = place_of c.args.place.now in
    let t = c.args.tree.now in
    let u = c.create.new.tree in
    let told = c.in_ok-told in
    let at : Place = placed p c.caller_of-caller.result in
    serves_to (λ (m : Made). results.Create m.info m.set) created_of (with_tree rest t) (with_tree rest u) lands (placed p c.caller_of-caller.result) p (λ (q : Place). create (site_in c.args.request.now) c.args.what.now c.args.name.now c.args.given.now q (with_tree rest t))
    told.told c.take_made.result (place_of c.take_made.new.place) c.caller_of-caller.ensures c.take_made.ensures.answer c.take_made.ensures.place (on_tree created_of (lands at) at rest t u (create (site_in c.args.request.now) c.args.what.now c.args.name.now c.args.given.now at (with_tree rest t)) told.told (told.ensures.acts p rest))

pub returns-clause-moved : goal.returns-clause-moved
returns-clause-moved c =
    let p = place_of c.args.place.now in
    lands_moved (lands p) p (place_of c.take_made.new.place) c.in_ok-told.told (λ a. refl) c.take_made.ensures.place

pub returns-clause-counts : goal.returns-clause-counts
returns-clause-counts c =
    let site = site_in c.args.request.now in
    let p = place_of c.args.place.now in
    let at : Place = placed p c.caller_of-caller.result in
    let t = c.args.tree.now in
    let u = c.create.new.tree in
    let told = c.in_ok-told in
    let rows = c.args.quota.now in
    let what = c.args.what.now in
    let name = c.args.name.now in
    let given = c.args.given.now in
    let act = create site what name given at (with_tree some_world t) in
    let subject : at.subject ≡ p.subject = ap (λ (q : Place). q.subject) c.caller_of-caller.ensures in
    subst (λ quota. AreTotals quota u.nodes) (sym c.take_made.ensures.quota)
    (subst (λ (s : ℕ). AreTotals (charged rows s told.told) u.nodes) subject
    (charged_counts created_of (lands at) at (with_tree some_world t) (with_tree some_world u) act rows at.subject told.told (on_tree created_of (lands at) at some_world t u act told.told (told.ensures.acts p some_world)) c.requires.counts
    (create_more site at some_world t c.requires.facts c.law_listed.ensures what name given)))
