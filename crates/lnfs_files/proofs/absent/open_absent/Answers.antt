use Rattle.std.proofs.Common.{◌≡◌, ◌<◌, refl, ap, sym, subst, ◌∙◌, ℕ, List, length, Option, Some, None, Ok, arith}
use Rattle.std.specs.Option.{option_map}
use Rattle.lnfs_calipso.specs.declared.lattice.TheConstants.{MAX_LEVELS}
use Rattle.lnfs_calipso.specs.declared.Level.{Level}
use Rattle.lnfs_arguments.specs.declared.types.Making.{Making}
use Rattle.lnfs_world.specs.World.{Id, Node, World, node_at, label_at}
use Rattle.std.specs.Prelude.{◌&&◌, IfSome}
use Rattle.lnfs_world.specs.Effects.{name_added, next_entry, has_number, has_cookie, next_id}
use Rattle.lnfs_world.specs.Change.{Change}
use Rattle.lnfs_world.specs.Outcome.{Place, Outcome}
use Rattle.lnfs_site.specs.Site.{site_of}
use Rattle.lnfs_operations.specs.Given.{level_or}
use Rattle.lnfs_operations.specs.Open as operation
use Rattle.lnfs_operations.specs.Open.{Arguments, Opened, Wanted, access_of}
use Rattle.lnfs_tree.specs.Rows.{Rows, id_of}
use Rattle.lnfs_tree.specs.Changed.{ran, new_node}
use Rattle.lnfs_open.specs.Opening.{Wish, Does, opened_of, own_open, new_open}
use Rattle.lnfs_open.specs.Listed.{node_id}
use Rattle.lnfs_nodes.specs.Acts.{placed}
use Rattle.lnfs_tree.proofs.Kept.{kept}
use Rattle.lnfs_nodes.proofs.Inserts.{seen, inserted, spent, only_spent}
use Rattle.lnfs_quota.specs.declared.quota.Row.{Row}
use Rattle.lnfs_quota.specs.Totals.{IsInBounds, AreTotals}
use Rattle.lnfs_nodes.specs.GivenValues.{given_of}
use Rattle.lnfs_nodes.specs.declared.held.Held.{Held}
use Rattle.lnfs_nodes.specs.declared.given.GivenLabel as code
use Rattle.lnfs_files.specs.Charges.{IsListed}
use Rattle.lnfs_files.specs.Worlds.{with_files}
use Rattle.lnfs_files.specs.Acts.{Succeeds}
use Rattle.lnfs_files.specs.Openings.{args_of, wanted_of}
use Rattle.lnfs_files.specs.Openings as files
use Rattle.lnfs_files.specs.declared.opened.Opened as code_opened
use Rattle.lnfs_world.proofs.NewNames.{next_absent}
use Rattle.lnfs_files.proofs.Makes.{makes, none_of}
use Rattle.lnfs_files.proofs.Opens.{wished, wished_so, only_memory}
use Rattle.lnfs_files.proofs.Absents.{behind, by_label, opens_left, is_full, is_spent, is_made, absent_in, made_in, counts_in, same_changes, no_label}
use Rattle.lnfs_files.proofs.absent.open_absent.Goals as goal

-- what is there has a label that a policy may list, and so has what is made in it
module _ (rows : List Row) (t : Rows) (h : Held) (name : List ℕ) (a : files.IsAbsentIn t h name) (counts : AreTotals rows t.nodes) (law : (i : Id) (n : Node) → AreTotals rows t.nodes → node_at t.nodes i ≡ Some n → IsInBounds n) where
  home_listed : IsListed h.facts.label.0
  home_listed = subst IsListed (sym a.1.0.tells.label) (law a.0.id a.0 counts a.1.0.node_is).label

  label_of_fresh : (given : Option code.GivenLabel) → IfSome given (λ (g : code.GivenLabel). IsListed g.level.0) → (level label : Level) → level.0 ≡ level_or h.facts.label.0 (option_map given_of given) → label ≡ level → IsListed label.0
  label_of_fresh given listed level label is same = subst IsListed (sym (ap (λ (l : Level). l.0) same ∙ is)) (by given listed)
    where
      by : (o : Option code.GivenLabel) → IfSome o (λ (g : code.GivenLabel). IsListed g.level.0) → IsListed (level_or h.facts.label.0 (option_map given_of o))
      by None listed = home_listed
      by (Some g) listed = listed

pub charge_node-requires : goal.charge_node-requires
charge_node-requires c =
    let rows = c.args.quota.now in
    let listed : c.args.dir.now.facts.label.0 < MAX_LEVELS = home_listed rows c.args.tree.now c.args.dir.now c.args.name.now c.requires.there c.requires.counts (c.law_totals.ensures.held_bounds rows c.args.tree.now.nodes) in
    let many : length rows ≡ MAX_LEVELS = c.requires.counts.levels in
    record { known = omega arith; fits = c.has_room.ensures.rises c.if-not-has_room.false }

pub returns-in-Err-clause-acts : goal.returns-in-Err-clause-acts
returns-in-Err-clause-acts c = λ p rest d holds.
    let at : Place = placed p c.args.opener.now.caller.now in
    let t = c.args.tree.now in
    let s = c.args.opens.now in
    let w : World = with_files rest t s in
    let site = site_of c.args.opener.now.site.now in
    let args : Arguments = args_of c.args.opener.now.args.now in
    let number = c.args.opener.now.client.number in
    let name = c.args.name.now in
    let wanted : Wanted = wanted_of c.args.wanted in
    let making : Making = c.in-Some.making in
    record {
      outcome =
          by_label site args at rest t s number d name wanted making _ _ c.level_or-label.result.0 c.in-Some.is holds.tells.label c.level_or-label.ensures _
          (c.in-Err.ensures at t d (behind site args at rest t s number d name wanted making) holds);
      tree = refl;
      opens = refl;
    }

pub returns-then-not-has_room-clause-acts : goal.returns-then-not-has_room-clause-acts
returns-then-not-has_room-clause-acts c = λ p rest d holds.
    let at : Place = placed p c.args.opener.now.caller.now in
    let t = c.args.tree.now in
    let s = c.args.opens.now in
    let w : World = with_files rest t s in
    let site = site_of c.args.opener.now.site.now in
    let args : Arguments = args_of c.args.opener.now.args.now in
    let number = c.args.opener.now.client.number in
    let name = c.args.name.now in
    let wanted : Wanted = wanted_of c.args.wanted in
    let making : Making = c.in-Some.making in
    record {
      outcome =
          by_label site args at rest t s number d name wanted making _ _ c.level_or-label.result.0 c.in-Some.is holds.tells.label c.level_or-label.ensures _
          (c.in_default-check_makable.ensures at t d (behind site args at rest t s number d name wanted making) holds
          ∙ is_full site args at rest t s number d name wanted making c.args.dir.now.facts.label.0 c.args.opener.now.client.level.0 holds.tells.label (ap (λ (l : Level). l.0) c.requires.level) c.no_space.result c.no_space.ensures
          (sym c.if-not-has_room.true ∙ c.has_room.ensures.room t.nodes c.requires.counts));
      tree = refl;
      opens = refl;
    }

pub returns-in-Spent-clause-acts : goal.returns-in-Spent-clause-acts
returns-in-Spent-clause-acts c = λ p rest d holds.
    let at : Place = placed p c.args.opener.now.caller.now in
    let t = c.args.tree.now in
    let s = c.args.opens.now in
    let w : World = with_files rest t s in
    let site = site_of c.args.opener.now.site.now in
    let args : Arguments = args_of c.args.opener.now.args.now in
    let number = c.args.opener.now.client.number in
    let name = c.args.name.now in
    let wanted : Wanted = wanted_of c.args.wanted in
    let making : Making = c.in-Some.making in
    let fresh = c.in_ok-fresh.fresh in
    let home : fresh.home.0 ≡ d.label = ap (λ (l : Level). l.0) c.in_ok-fresh.ensures.home ∙ holds.tells.label in
    let x = absent_in t c.args.dir.now name c.requires.there d holds in
    let there = spent t c.insert.new.self (id_of c.args.dir.now.id) d name fresh at.moment (ap (λ (i : Id). node_at t.nodes i) holds.id ∙ holds.node_is) x.0 x.1 (rw c.in-Spent.is at c.in-Err-insert.ensures.does) in
    record {
      outcome =
          by_label site args at rest t s number d name wanted making _ _ c.level_or-label.result.0 c.in-Some.is holds.tells.label c.level_or-label.ensures _
          (c.in_default-check_makable.ensures at t d (behind site args at rest t s number d name wanted making) holds
          ∙ is_spent site args at rest t s number d name wanted making fresh.home.0 c.args.opener.now.client.level.0 home (ap (λ (l : Level). l.0) c.requires.level) c.no_space-in-Spent.result c.no_space-in-Spent.ensures there.0);
      tree = there.1;
      opens = refl;
    }

pub returns-in-Memory : goal.returns-in-Memory
returns-in-Memory c =
    let same = kept seen _ c.args.tree.now c.insert.new.self c.in-Err-insert.error c.in-Err-insert.ensures.does in
    record { acts = tt; tree = (None, same); opens = refl; counts = subst (λ (x : Rows). AreTotals c.args.quota.now x.nodes) (sym same) c.requires.counts }

pub unreachable-requires : goal.unreachable-requires
unreachable-requires c =
    let t = c.args.tree.now in
    let holds = c.requires.there.1.0 in
    only_spent t c.insert.new.self (id_of c.args.dir.now.id) c.requires.there.0 c.args.name.now c.in_ok-fresh.fresh c.args.opener.now.caller.now.moment (ap (λ (i : Id). node_at t.nodes i) holds.id ∙ holds.node_is) c.requires.there.1.1 c.requires.there.1.2 c.in-Err-insert.error c.in_default-error.not-Spent c.in_default-error.not-Memory c.in-Err-insert.ensures.does

pub unreachable-requires-in_default-error-2 : goal.unreachable-requires-in_default-error-2
unreachable-requires-in_default-error-2 c =
    let opener = c.args.opener.now in
    only_memory c.args.opens.now c.open.new.self (wished opener.client.level.0 opener.client.number (args_of opener.args.now) (node_id c.node_key.result) c.share.result) c.in-Err-open.error c.in_default-error-2.not-Memory c.in-Err-open.ensures
    (opens_left _ _ (sym c.if-not-has_room.false ∙ c.has_room.ensures.room c.args.tree.now.nodes c.requires.counts))

pub returns-in-Ok-open-clause-acts : goal.returns-in-Ok-open-clause-acts
returns-in-Ok-open-clause-acts c = λ p rest d holds.
    let at : Place = placed p c.args.opener.now.caller.now in
    let t = c.args.tree.now in
    let u = c.insert.new.self in
    let s = c.args.opens.now in
    let v = c.open.new.self in
    let w : World = with_files rest t s in
    let site = site_of c.args.opener.now.site.now in
    let args : Arguments = args_of c.args.opener.now.args.now in
    let number = c.args.opener.now.client.number in
    let name = c.args.name.now in
    let wanted : Wanted = wanted_of c.args.wanted in
    let making : Making = c.in-Some.making in
    let fresh = c.in_ok-fresh.fresh in
    let home : fresh.home.0 ≡ d.label = ap (λ (l : Level). l.0) c.in_ok-fresh.ensures.home ∙ holds.tells.label in
    let level : c.args.opener.now.client.level.0 ≡ at.subject = ap (λ (l : Level). l.0) c.requires.level in
    let label : c.level_or-label.result.0 ≡ level_or d.label wanted.label = c.level_or-label.ensures ∙ ap (λ (l : ℕ). level_or l wanted.label) holds.tells.label in
    let x = absent_in t c.args.dir.now name c.requires.there d holds in
    let there = inserted t u (id_of c.args.dir.now.id) d name fresh at.moment (ap (λ (i : Id). node_at t.nodes i) holds.id ∙ holds.node_is) x.0 x.1 c.in-Ok.made c.in-Ok.ensures.does in
    let n : Node = operation.new_file site at w making wanted d in
    let node : new_node at.moment fresh (next_id t.lasts d.label) ≡ n = c.in_ok-fresh.ensures.node d at w holds label in
    let id : id_of c.in-Ok.made.0 ≡ n.id = ap (λ r. r.0) there.1 ∙ ap (next_id t.lasts) home in
    let none : own_open s (wished at.subject number args n.id (access_of args)) ≡ None =
    none_of site.dom (label_at t.nodes) (new_open s (wished at.subject number args n.id (access_of args))) s.opens (no_label t.nodes n.id (next_absent site.dom t.nodes t.entries t.lasts c.requires.facts d.label)) c.requires.opens in
    let r : code_opened.Opened = record { id = c.state_id_of.result; node = c.in-Ok.made.0; info = c.cinfo.result; set = c.args.wanted.set } in
    subst (λ (o : Outcome _). Succeeds (files.opened_of r) (record at { current = Some (id_of r.node) }) rest t u s v o)
    (sym (by_label site args at rest t s number d name wanted making _ _ c.level_or-label.result.0 c.in-Some.is holds.tells.label c.level_or-label.ensures _
    (c.in_default-check_makable.ensures at t d (behind site args at rest t s number d name wanted making) holds
    ∙ is_made site args at rest t s number d name wanted making c.args.dir.now.facts.label.0 c.args.opener.now.client.level.0 holds.tells.label level
    (sym c.if-not-has_room.false ∙ c.has_room.ensures.room t.nodes c.requires.counts)
    (ap (λ (l : Level). has_number t.lasts l.0 && has_cookie d) (sym c.in_ok-fresh.ensures.home) ∙ there.0))))
    (makes args at rest t u s v number d name wanted.set n c.in-Ok-open.id r c.in-Ok.made.1 none
    (wished_so (λ (x : Wish). Does (opened_of s x) s v (Ok c.in-Ok-open.id)) c.args.opener.now.client.level.0 at.subject number args (node_id c.node_key.result) n.id level (c.node_key.ensures ∙ id)
    (subst (λ (access : ℕ). Does (opened_of s (wished c.args.opener.now.client.level.0 number args (node_id c.node_key.result) access)) s v (Ok c.in-Ok-open.id)) c.share.ensures c.in-Ok-open.ensures))
    (there.2 ∙ ap (λ (cs : List Change). ran cs t) (same_changes at.moment t d name fresh n home node refl))
    c.state_id_of.ensures id c.cinfo.ensures (ap (λ r. r.1) there.1) refl)

pub returns-in-Ok-open-clause-counts : goal.returns-in-Ok-open-clause-counts
returns-in-Ok-open-clause-counts c =
    let rows = c.args.quota.now in
    subst (λ (rows : List Row). AreTotals rows c.insert.new.self.nodes) (sym c.charge_node.ensures)
    (counts_in rows (site_of c.args.opener.now.site.now).dom c.args.tree.now c.insert.new.self c.args.dir.now c.args.name.now c.requires.there c.in_ok-fresh.fresh c.args.opener.now.caller.now.moment c.args.dir.now.facts.label.0 c.in-Ok.made
    (c.law_totals.ensures.touched_alike rows) (c.law_totals.ensures.made rows) c.requires.counts c.requires.facts (ap (λ (l : Level). l.0) c.in_ok-fresh.ensures.home)
    (home_listed rows c.args.tree.now c.args.dir.now c.args.name.now c.requires.there c.requires.counts (c.law_totals.ensures.held_bounds rows c.args.tree.now.nodes))
    (label_of_fresh rows c.args.tree.now c.args.dir.now c.args.name.now c.requires.there c.requires.counts (c.law_totals.ensures.held_bounds rows c.args.tree.now.nodes) c.args.wanted.label c.requires.listed c.level_or-label.result c.in_ok-fresh.fresh.label c.level_or-label.ensures c.in_ok-fresh.ensures.label)
    c.in-Ok.ensures.does)

pub returns-in-Memory-error-clause-tree : goal.returns-in-Memory-error-clause-tree
returns-in-Memory-error-clause-tree c =
    let t = c.args.tree.now in
    let d : Node = c.requires.there.0 in
    let fresh = c.in_ok-fresh.fresh in
    let moment = c.args.opener.now.caller.now.moment in
    let i : Id = next_id t.lasts fresh.home.0 in
    (Some (record { directory = d.id; inner = name_added moment d.inner; node = new_node moment fresh i; entry = next_entry d c.args.name.now i }), made_in t c.insert.new.self c.args.dir.now c.args.name.now c.requires.there fresh moment c.in-Ok.made c.in-Ok.ensures.does)

pub returns-in-Memory-error-clause-counts : goal.returns-in-Memory-error-clause-counts
returns-in-Memory-error-clause-counts c =
    let rows = c.args.quota.now in
    subst (λ (rows : List Row). AreTotals rows c.insert.new.self.nodes) (sym c.charge_node.ensures)
    (counts_in rows (site_of c.args.opener.now.site.now).dom c.args.tree.now c.insert.new.self c.args.dir.now c.args.name.now c.requires.there c.in_ok-fresh.fresh c.args.opener.now.caller.now.moment c.args.dir.now.facts.label.0 c.in-Ok.made
    (c.law_totals.ensures.touched_alike rows) (c.law_totals.ensures.made rows) c.requires.counts c.requires.facts (ap (λ (l : Level). l.0) c.in_ok-fresh.ensures.home)
    (home_listed rows c.args.tree.now c.args.dir.now c.args.name.now c.requires.there c.requires.counts (c.law_totals.ensures.held_bounds rows c.args.tree.now.nodes))
    (label_of_fresh rows c.args.tree.now c.args.dir.now c.args.name.now c.requires.there c.requires.counts (c.law_totals.ensures.held_bounds rows c.args.tree.now.nodes) c.args.wanted.label c.requires.listed c.level_or-label.result c.in_ok-fresh.fresh.label c.level_or-label.ensures c.in_ok-fresh.ensures.label)
    c.in-Ok.ensures.does)
