use Rattle.std.proofs.Common.{◌≡◌, ◌∙◌, ap, sym, subst, refl, Bool, Some, Ok, Err}
use Rattle.std.specs.Prelude.{if◌then◌else◌}
use Rattle.lnfs_arguments.specs.declared.statuses.TheConstants.{NFS4ERR_EXIST, NFS4ERR_NOSPC}
use Rattle.lnfs_world.specs.World.{Id, World, node_at}
use Rattle.lnfs_world.specs.Outcome.{Place, Outcome, begins_at}
use Rattle.lnfs_site.specs.Site.{site_of}
use Rattle.lnfs_operations.specs.declared.Gate.TheVariants.{Quota}
use Rattle.lnfs_operations.specs.Chain.{Answer, refuse}
use Rattle.lnfs_operations.specs.Chain as chain
use Rattle.lnfs_operations.specs.Given.{set_of}
use Rattle.lnfs_operations.specs.Create.{Made, new_node}
use Rattle.lnfs_tree.specs.Rows.{id_of}
use Rattle.lnfs_tree.specs.declared.node.TreeError.TheVariants.{Exist, Spent}
use Rattle.lnfs_tree.specs.Places.{world_of}
use Rattle.lnfs_nodes.specs.Trees.{with_tree, refusal_of}
use Rattle.lnfs_nodes.specs.Acts.{placed, Succeeds, Refuses}
use Rattle.lnfs_nodes.specs.GivenValues.{Asked, asked_of}
use Rattle.lnfs_nodes.specs.Creating.{namespace, created_of}
use Rattle.lnfs_nodes.specs.declared.creating.Created.{Created}
use Rattle.lnfs_tree.proofs.Kept.{kept}
use Rattle.lnfs_nodes.proofs.Refusing.{refused_as, not_held}
use Rattle.lnfs_nodes.proofs.Inserts.{seen, inserted, spent, only_spent, exists, only_exist, full, no_number, all_room, makes}
use Rattle.lnfs_nodes.proofs.Creates.{in_directory, refused, taken, child_refused, child_taken, no_space, with_space}
use Rattle.lnfs_nodes.proofs.creating.create.Goals as goal

pub returns-in-Err-clause-acts : goal.returns-in-Err-clause-acts
returns-in-Err-clause-acts c = λ p rest.
    let at : Place = placed p c.args.caller.now in
    record { outcome = refused (site_of c.args.site.now) c.args.what.now c.args.name.now c.args.given.now at (with_tree rest c.args.tree.now) c.in-Err.why (rw c.in-Err.is at c.in_ok-asked.ensures); tree = refl }

pub returns-in-Err-node_held-clause-acts : goal.returns-in-Err-node_held-clause-acts
returns-in-Err-node_held-clause-acts c = λ p rest.
    let at : Place = placed p c.args.caller.now in
    let w : World = with_tree rest c.args.tree.now in
    let site = site_of c.args.site.now in
    let x : Asked = asked_of c.in-Ok.asked in
    record {
      outcome =
          taken site c.args.what.now c.args.name.now c.args.given.now at w x (rw c.in-Ok.is at c.in_ok-asked.ensures)
          ∙ not_held at rest c.args.tree.now (in_directory site c.args.what.now c.args.name.now c.args.given.now at w x) c.in-Err-node_held.why c.in-Err-node_held.ensures;
      tree = refl;
    }

pub returns-in-Some-clause-acts : goal.returns-in-Some-clause-acts
returns-in-Some-clause-acts c = λ p rest.
    let at : Place = placed p c.args.caller.now in
    record {
      outcome =
          child_refused (site_of c.args.site.now) c.args.what.now c.args.name.now c.args.given.now at rest c.args.tree.now c.in-Ok-node_held.dir (asked_of c.in-Ok.asked) c.level_or-child.result.0
          c.in-Ok-node_held.ensures (rw c.in-Ok.is at c.in_ok-asked.ensures) c.level_or-child.ensures c.in-Some.why (c.in-Some.ensures c.args.tree.now);
      tree = refl;
    }

pub returns-then-not-room-clause-acts : goal.returns-then-not-room-clause-acts
returns-then-not-room-clause-acts c = λ p rest.
    let at : Place = placed p c.args.caller.now in
    let t = c.args.tree.now in
    let site = site_of c.args.site.now in
    let x : Asked = asked_of c.in-Ok.asked in
    let h = c.in-Ok-node_held.dir in
    let child = c.level_or-child.result.0 in
    let why = c.full.result in
    let none : chain.Refusal = record { gate = Quota; status = NFS4ERR_NOSPC } in
    record {
      outcome =
          child_taken site c.args.what.now c.args.name.now c.args.given.now at rest t h x child c.in-Ok-node_held.ensures (rw c.in-Ok.is at c.in_ok-asked.ensures) c.level_or-child.ensures
          (λ (o : Outcome (Answer Made)). o ≡ refuse at why.gate why.status) (c.in_default.ensures t)
          (λ d holds directory subject absent.
          no_space site c.args.what.now c.args.name.now c.args.given.now at rest t h x child c.in-Ok-node_held.ensures (rw c.in-Ok.is at c.in_ok-asked.ensures) c.level_or-child.ensures
          (with_tree rest t) d why (full site at rest t d c.args.room c.requires.room subject c.if-not-room.true)
          (c.full.ensures d holds directory ∙ ap (λ (b : Bool). if b then namespace NFS4ERR_EXIST else none) absent))
          (λ d holds directory present. refused_as at why (namespace NFS4ERR_EXIST) (c.full.ensures d holds directory ∙ ap (λ (b : Bool). if b then namespace NFS4ERR_EXIST else none) present));
      tree = refl;
    }

pub returns-in-Ok-insert-clause-acts : goal.returns-in-Ok-insert-clause-acts
returns-in-Ok-insert-clause-acts c = λ p rest.
    let at : Place = placed p c.args.caller.now in
    let t = c.args.tree.now in
    let u = c.insert.new.self in
    let site = site_of c.args.site.now in
    let what = c.args.what.now in
    let name = c.args.name.now in
    let given = c.args.given.now in
    let x : Asked = asked_of c.in-Ok.asked in
    let h = c.in-Ok-node_held.dir in
    let child = c.level_or-child.result.0 in
    let fresh = c.in_ok-fresh.fresh in
    let home : fresh.home.0 ≡ h.facts.label.0 = ap (λ l. l.0) c.in_ok-fresh.ensures.home in
    let it : Created = record { node = c.in-Ok-insert.made.0; info = c.in-Ok-insert.made.1; set = c.set_of.result } in
    child_taken site what name given at rest t h x child c.in-Ok-node_held.ensures (rw c.in-Ok.is at c.in_ok-asked.ensures) c.level_or-child.ensures
    (λ (o : Outcome (Answer Made)). Succeeds (created_of it) (record at { current = Some (id_of it.node) }) rest t u o) (c.in_default.ensures t)
    (λ d holds directory subject absent.
    let there = inserted t u (id_of h.id) d name fresh at.moment (ap (λ (i : Id). node_at t.nodes i) holds.id ∙ holds.node_is) directory absent c.in-Ok-insert.made c.in-Ok-insert.ensures.does in
    subst (λ (o : Outcome (Answer Made)). Succeeds (created_of it) (record at { current = Some (id_of it.node) }) rest t u o)
    (sym (with_space site what name given at rest t h x child c.in-Ok-node_held.ensures (rw c.in-Ok.is at c.in_ok-asked.ensures) c.level_or-child.ensures
    (with_tree rest t) d (all_room site at rest t d c.args.room c.requires.room subject c.if-not-room.false fresh.home.0 (home ∙ holds.tells.label) there.0)))
    (makes site at rest t u d name (set_of given) fresh (new_node site at (with_tree rest t) what x.mode x.label d) (home ∙ holds.tells.label) refl (c.in_ok-fresh.ensures.node d at (with_tree rest t) holds)
    it c.set_of.ensures (ap (λ r. r.0) there.1) (ap (λ r. r.1) there.1) there.2))
    (λ d holds directory present.
    absurd (exists t u (id_of h.id) d name fresh at.moment (ap (λ (i : Id). node_at t.nodes i) holds.id ∙ holds.node_is) directory present (Ok c.in-Ok-insert.made) c.in-Ok-insert.ensures.does))

pub returns-in-Spent-clause-acts : goal.returns-in-Spent-clause-acts
returns-in-Spent-clause-acts c = λ p rest.
    let at : Place = placed p c.args.caller.now in
    let t = c.args.tree.now in
    let u = c.insert.new.self in
    let site = site_of c.args.site.now in
    let what = c.args.what.now in
    let name = c.args.name.now in
    let given = c.args.given.now in
    let x : Asked = asked_of c.in-Ok.asked in
    let h = c.in-Ok-node_held.dir in
    let child = c.level_or-child.result.0 in
    let fresh = c.in_ok-fresh.fresh in
    let home : fresh.home.0 ≡ h.facts.label.0 = ap (λ l. l.0) c.in_ok-fresh.ensures.home in
    let why = c.no_space.result in
    child_taken site what name given at rest t h x child c.in-Ok-node_held.ensures (rw c.in-Ok.is at c.in_ok-asked.ensures) c.level_or-child.ensures
    (λ (o : Outcome (Answer Made)). Refuses why at t u o) (c.in_default.ensures t)
    (λ d holds directory subject absent.
    let there = spent t u (id_of h.id) d name fresh at.moment (ap (λ (i : Id). node_at t.nodes i) holds.id ∙ holds.node_is) directory absent (rw c.in-Spent.is at c.in-Err-insert.ensures.does) in
    record {
      outcome =
          no_space site what name given at rest t h x child c.in-Ok-node_held.ensures (rw c.in-Ok.is at c.in_ok-asked.ensures) c.level_or-child.ensures
          (with_tree rest t) d why (no_number site at rest t d c.args.room c.requires.room subject fresh.home.0 (home ∙ holds.tells.label) there.0) c.no_space.ensures;
      tree = there.1;
    })
    (λ d holds directory present.
    let told = (exists t u (id_of h.id) d name fresh at.moment (ap (λ (i : Id). node_at t.nodes i) holds.id ∙ holds.node_is) directory present (Err Spent) (rw c.in-Spent.is at c.in-Err-insert.ensures.does)).0 in
    absurd (cc))

pub returns-in-Exist-clause-acts : goal.returns-in-Exist-clause-acts
returns-in-Exist-clause-acts c = λ p rest.
    let at : Place = placed p c.args.caller.now in
    let t = c.args.tree.now in
    let u = c.insert.new.self in
    let site = site_of c.args.site.now in
    let what = c.args.what.now in
    let name = c.args.name.now in
    let given = c.args.given.now in
    let x : Asked = asked_of c.in-Ok.asked in
    let h = c.in-Ok-node_held.dir in
    let child = c.level_or-child.result.0 in
    let fresh = c.in_ok-fresh.fresh in
    let why = c.namespace.result in
    child_taken site what name given at rest t h x child c.in-Ok-node_held.ensures (rw c.in-Ok.is at c.in_ok-asked.ensures) c.level_or-child.ensures
    (λ (o : Outcome (Answer Made)). Refuses why at t u o) (c.in_default.ensures t)
    (λ d holds directory subject absent.
    absurd (only_spent t u (id_of h.id) d name fresh at.moment (ap (λ (i : Id). node_at t.nodes i) holds.id ∙ holds.node_is) directory absent Exist (λ e. cc) (λ e. cc) (rw c.in-Exist.is at c.in-Err-insert.ensures.does)))
    (λ d holds directory present.
    record {
      outcome = refused_as at why (namespace NFS4ERR_EXIST) (ap refusal_of c.namespace.ensures);
      tree = (exists t u (id_of h.id) d name fresh at.moment (ap (λ (i : Id). node_at t.nodes i) holds.id ∙ holds.node_is) directory present (Err Exist) (rw c.in-Exist.is at c.in-Err-insert.ensures.does)).1;
    })

pub returns-in-Memory : goal.returns-in-Memory
returns-in-Memory c = record { acts = tt; kept = kept seen _ c.args.tree.now c.insert.new.self c.in-Err-insert.error c.in-Err-insert.ensures.does }

pub unreachable-requires : goal.unreachable-requires
unreachable-requires c =
    let at : Place = placed (begins_at 0 c.args.caller.now.moment) c.args.caller.now in
    let t = c.args.tree.now in
    let name = c.args.name.now in
    let h = c.in-Ok-node_held.dir in
    child_taken (site_of c.args.site.now) c.args.what.now name c.args.given.now at (world_of t) t h (asked_of c.in-Ok.asked) c.level_or-child.result.0 c.in-Ok-node_held.ensures (rw c.in-Ok.is at c.in_ok-asked.ensures) c.level_or-child.ensures
    (λ (o : Outcome (Answer Made)). ⊥) (c.in_default.ensures t)
    (λ d holds directory subject absent.
    only_spent t c.insert.new.self (id_of h.id) d name c.in_ok-fresh.fresh at.moment (ap (λ (i : Id). node_at t.nodes i) holds.id ∙ holds.node_is) directory absent c.in-Err-insert.error c.in_default-error.not-Spent c.in_default-error.not-Memory c.in-Err-insert.ensures.does)
    (λ d holds directory present.
    only_exist t c.insert.new.self (id_of h.id) d name c.in_ok-fresh.fresh at.moment (ap (λ (i : Id). node_at t.nodes i) holds.id ∙ holds.node_is) directory present c.in-Err-insert.error c.in_default-error.not-Exist c.in_default-error.not-Memory c.in-Err-insert.ensures.does)
