use Rattle.std.proofs.Common.{◌≡◌, ◌+◌, ◌^◌, ◌<◌, ◌≤◌, ◌∙◌, ap, sym, refl, subst, arith, ℕ, List, length, [], ◌∷◌}
use Rattle.lnfs_attrs.specs.declared.bitmap.Bitmap.{Bitmap}
use Rattle.lnfs_calipso.specs.declared.lattice.TheConstants.{MAX_LEVELS}
use Rattle.lnfs_world.specs.declared.numbers.TheConstants.{MOST_FILE}
use Rattle.lnfs_world.specs.Change.{Relabel}
use Rattle.lnfs_world.specs.Effects.{attributes_changed}
use Rattle.lnfs_world.specs.Usage.{bytes_of}
use Rattle.lnfs_world.specs.Outcome.{Place, Outcome}
use Rattle.lnfs_operations.specs.declared.Refusal.{Refusal}
use Rattle.lnfs_operations.specs.Chain.{Answer, refuse}
use Rattle.lnfs_quota.specs.declared.quota.Row.{Row}
use Rattle.lnfs_quota.specs.Quota.{row_at, moved}
use Rattle.lnfs_quota.specs.Totals.{AreTotals}
use Rattle.lnfs_tree.specs.Rows.{Rows, id_of}
use Rattle.lnfs_tree.specs.Places.{world_of}
use Rattle.lnfs_nodes.specs.Acts.{placed}
use Rattle.lnfs_files.specs.Worlds.{with_files}
use Rattle.lnfs_files.specs.Acts.{Succeeds}
use Rattle.lnfs_files.specs.Charges.{AreBytesHeld}
use Rattle.lnfs_quota.proofs.Kept.{moved_levels}
use Rattle.lnfs_files.proofs.WriteOn.{is_there, is_counted, found, some_place}
use Rattle.lnfs_files.proofs.Labels.{raised_full, raised_so, full, was_raised, not_raised, succeeds, same_bytes}
use Rattle.lnfs_files.proofs.labelling.put_level.Goals as goal

pub move_up-requires : goal.move_up-requires
move_up-requires c =
    let rows = c.args.quota.now in
    let t = c.args.tree.now in
    let h = c.args.held.now in
    let x = is_there t _ h c.requires.held in
    let held : AreBytesHeld rows h.facts.label.0 c.args.bytes =
    is_counted rows t h _ x (λ n holds. sym (c.requires.bytes t n holds)) c.requires.counts (c.law_totals.ensures.held_bytes rows t.nodes) (c.law_totals.ensures.held_bounds rows t.nodes) in
    let few : c.args.bytes ≤ MOST_FILE = subst (λ (b : ℕ). b ≤ MOST_FILE) (sym (c.requires.bytes t x.0 x.1)) (c.law_totals.ensures.held_bounds rows t.nodes x.0.id x.0 c.requires.counts x.1.node_is).bytes in
    let room : (row_at rows c.args.level.0).bytes + MOST_FILE < 2 ^ 64 = c.law_fitting.ensures rows t.nodes c.args.level.0 c.requires.counts c.requires.facts.1.rise in
    let many : length rows ≡ MAX_LEVELS = c.requires.counts.levels in
    let listed : c.args.level.0 < MAX_LEVELS = c.requires.listed in
    record {
      from_known = held.0;
      to_known = omega arith;
      held = held.1;
      fits = omega arith;
    }

pub returns-in-Ok-clause-acts : goal.returns-in-Ok-clause-acts
returns-in-Ok-clause-acts c = λ n p rest opens set holds.
    let at : Place = placed p c.args.caller.now in
    let t = c.args.tree.now in
    let u = c.raise.new.self in
    let h = c.args.held.now in
    let level = c.args.level.0 in
    let done = was_raised t u (id_of h.id) n at.moment (found t n h holds) level c.in-Ok.field-0 c.in-Ok.ensures.does in
    subst (λ (o : Outcome (Answer Bitmap)). Succeeds set at rest t u opens opens o)
    (sym (raised_so at (with_files rest t opens) n _ level set holds.tells.label c.requires.other done.0))
    (succeeds set at rest t u opens (Relabel n.id level (attributes_changed at.moment n.inner) ∷ []) refl done.1)

pub returns-in-Ok-clause-counts : goal.returns-in-Ok-clause-counts
returns-in-Ok-clause-counts c =
    let at : Place = placed some_place c.args.caller.now in
    let rows = c.args.quota.now in
    let t = c.args.tree.now in
    let u = c.raise.new.self in
    let h = c.args.held.now in
    let level = c.args.level.0 in
    let x = is_there t _ h c.requires.held in
    let n = x.0 in
    let done = was_raised t u (id_of h.id) n at.moment (found t n h x.1) level c.in-Ok.field-0 c.in-Ok.ensures.does in
    subst (λ (rows : List Row). AreTotals rows u.nodes) (sym c.move_up.ensures)
    (subst (λ (label : ℕ). AreTotals (moved rows label level c.args.bytes) u.nodes) (sym x.1.tells.label)
    (subst (λ (bytes : ℕ). AreTotals (moved rows n.label level bytes) u.nodes) (sym (c.requires.bytes t n x.1))
    (subst (λ (r : Rows). AreTotals (moved rows n.label level (bytes_of n n.kind)) r.nodes) (sym done.1)
    (c.law_totals.ensures.relabelled rows n.id level (attributes_changed at.moment n.inner) n (world_of t) c.requires.counts x.1.node_is c.requires.listed (same_bytes n (attributes_changed at.moment n.inner) refl)))))

pub returns-in-Ok-clause-levels : goal.returns-in-Ok-clause-levels
returns-in-Ok-clause-levels c = ap (λ (rows : List Row). length rows) c.move_up.ensures ∙ moved_levels c.args.quota.now c.args.held.now.facts.label.0 c.args.level.0 c.args.bytes

pub returns-in-Err-clause-acts : goal.returns-in-Err-clause-acts
returns-in-Err-clause-acts c = λ n p rest opens set holds.
    let at : Place = placed p c.args.caller.now in
    let t = c.args.tree.now in
    let u = c.raise.new.self in
    let h = c.args.held.now in
    let level = c.args.level.0 in
    let not = not_raised t u (id_of h.id) n at.moment (found t n h holds) level c.in-Err.field-0 c.in-Err.ensures.calm c.in-Err.ensures.does in
    record {
      outcome =
          raised_full at (with_files rest t opens) n _ level set holds.tells.label c.requires.other (full c.requires.facts.0 t c.requires.facts.1 n holds.node_is not.0)
          ∙ ap (λ (r : Refusal). refuse {R = Bitmap} at r.gate r.status) (sym c.namespace.ensures);
      tree = not.1;
      opens = refl;
    }

pub returns-in-Err-clause-counts : goal.returns-in-Err-clause-counts
returns-in-Err-clause-counts c =
    let at : Place = placed some_place c.args.caller.now in
    let t = c.args.tree.now in
    let u = c.raise.new.self in
    let h = c.args.held.now in
    let x = is_there t _ h c.requires.held in
    let not = not_raised t u (id_of h.id) x.0 at.moment (found t x.0 h x.1) c.args.level.0 c.in-Err.field-0 c.in-Err.ensures.calm c.in-Err.ensures.does in
    subst (λ (r : Rows). AreTotals c.args.quota.now r.nodes) (sym not.1) c.requires.counts
