use Rattle.std.proofs.Common.{◌≡◌, ◌≤◌, ◌∙◌, sym, subst, ap, ℕ, List, length, refl, true, false}
use Rattle.lnfs_world.specs.declared.numbers.TheConstants.{LAST_NUMBER}
use Rattle.lnfs_world.specs.World.{Id, World}
use Rattle.lnfs_world.specs.Effects.{size_written}
use Rattle.lnfs_world.specs.Outcome.{Place, Outcome}
use Rattle.lnfs_site.specs.Site.{site_of}
use Rattle.lnfs_operations.specs.declared.Refusal.{Refusal}
use Rattle.lnfs_operations.specs.Chain.{Answer, refuse}
use Rattle.lnfs_operations.specs.Files.{passes_quota}
use Rattle.lnfs_operations.specs.Write.{Arguments, data_written}
use Rattle.lnfs_quota.specs.Quota.{resized}
use Rattle.lnfs_quota.specs.declared.quota.Row.{Row}
use Rattle.lnfs_quota.specs.Totals.{AreTotals}
use Rattle.lnfs_tree.specs.Changed.{ran}
use Rattle.lnfs_tree.specs.Places.{world_of}
use Rattle.lnfs_nodes.specs.Acts.{placed}
use Rattle.lnfs_files.specs.Worlds.{with_files}
use Rattle.lnfs_files.specs.Acts.{Succeeds}
use Rattle.lnfs_quota.proofs.Kept.{resized_levels}
use Rattle.lnfs_files.proofs.WriteOn.{is_there, file_is, no_data, only_memory, is_counted, file_bytes, fits_so, within, past, goes_on, is_past, written_so, succeeds, written_totals}
use Rattle.lnfs_files.proofs.WriteOn.{some_place, some_id}
use Rattle.lnfs_files.proofs.writing.put.Goals as goal

pub unreachable-requires : goal.unreachable-requires
unreachable-requires c =
    let t = c.args.tree.now in
    let h = c.args.held.now in
    let x = is_there t _ h c.requires.held in
    no_data t x.0 h _ x.1 c.requires.file c.in_default.ensures

pub byte_room-requires : goal.byte_room-requires
byte_room-requires c =
    let t = c.args.tree.now in
    let h = c.args.held.now in
    let old = c.in-Ok.file.now in
    record { held = is_counted c.args.quota.now t h _ (is_there t _ h c.requires.held) (λ n holds. file_bytes n old (file_is t n h old holds c.in-Ok.ensures) ∙ sym c.len-old.ensures.value) c.requires.counts (c.law_totals.ensures.held_bytes c.args.quota.now t.nodes) (c.law_totals.ensures.held_bounds c.args.quota.now t.nodes) }

pub resize-requires : goal.resize-requires
resize-requires c =
    let may = c.byte_room.ensures.resizes c.if-not-byte_room.false in
    record { known = may.held.0; held = may.held.1; fits = may.fits }

pub returns-then-not-byte_room-clause-acts : goal.returns-then-not-byte_room-clause-acts
returns-then-not-byte_room-clause-acts c = λ n p rest opens id stable holds.
    let site = site_of c.args.site.now in
    let at : Place = placed p c.args.caller.now in
    let t = c.args.tree.now in
    let h = c.args.held.now in
    let w : World = with_files rest t opens in
    let args : Arguments = record { id = id; offset = c.args.offset; stable = stable; content = c.args.content.now } in
    let is = file_is t n h c.in-Ok.file.now holds c.in-Ok.ensures in
    let f = fits_so args.offset args.content c.in-Ok.file.now n.inner.content c.in-Some.size is.same c.in-Some.ensures in
    let room = c.byte_room.ensures.room w n c.requires.counts (sym holds.tells.label) (sym (c.len-old.ensures.value ∙ ap length is.same)) in
    let passes : passes_quota site w n (size_written args.offset args.content n.inner.content) ≡ true = ap (passes_quota site w n) (sym f.1) ∙ past _ _ c.if-not-byte_room.true room in
    record {
      outcome = is_past site args at w n f.0 passes ∙ ap (λ (r : Refusal). refuse {R = ℕ} at r.gate r.status) (sym c.past_quota.ensures);
      tree = refl;
      opens = refl;
    }

pub returns-in-Ok-write-clause-acts : goal.returns-in-Ok-write-clause-acts
returns-in-Ok-write-clause-acts c = λ n p rest opens id stable holds.
    let site = site_of c.args.site.now in
    let at : Place = placed p c.args.caller.now in
    let t = c.args.tree.now in
    let u = c.write.new.self in
    let h = c.args.held.now in
    let w : World = with_files rest t opens in
    let args : Arguments = record { id = id; offset = c.args.offset; stable = stable; content = c.args.content.now } in
    let is = file_is t n h c.in-Ok.file.now holds c.in-Ok.ensures in
    let f = fits_so args.offset args.content c.in-Ok.file.now n.inner.content c.in-Some.size is.same c.in-Some.ensures in
    let room = c.byte_room.ensures.room w n c.requires.counts (sym holds.tells.label) (sym (c.len-old.ensures.value ∙ ap length is.same)) in
    let stays : passes_quota site w n (size_written args.offset args.content n.inner.content) ≡ false = ap (passes_quota site w n) (sym f.1) ∙ within _ _ c.if-not-byte_room.false room in
    subst (λ (o : Outcome (Answer ℕ)). Succeeds (length args.content) at rest t u opens opens o) (sym (goes_on site args at w n f.0 stays))
    (succeeds at t u n h args holds rest opens (written_so at t u n h args holds c.in-Ok-write.field-0 is.kind f.0 c.in-Ok-write.ensures))

pub returns-in-Ok-write-clause-levels : goal.returns-in-Ok-write-clause-levels
returns-in-Ok-write-clause-levels c = ap (λ (rows : List Row). length rows) c.resize.ensures ∙ resized_levels c.args.quota.now c.args.held.now.facts.label.0 c.len-old.result c.in-Some.size

pub returns-in-Ok-write-clause-counts : goal.returns-in-Ok-write-clause-counts
returns-in-Ok-write-clause-counts c =
    let at : Place = placed some_place c.args.caller.now in
    let t = c.args.tree.now in
    let u = c.write.new.self in
    let h = c.args.held.now in
    let x = is_there t _ h c.requires.held in
    let n = x.0 in
    let args : Arguments = record { id = some_id; offset = c.args.offset; stable = 0; content = c.args.content.now } in
    let is = file_is t n h c.in-Ok.file.now x.1 c.in-Ok.ensures in
    let f = fits_so args.offset args.content c.in-Ok.file.now n.inner.content c.in-Some.size is.same c.in-Some.ensures in
    let done : u ≡ ran (data_written at n args) t = written_so at t u n h args x.1 c.in-Ok-write.field-0 is.kind f.0 c.in-Ok-write.ensures in
    let old : c.len-old.result ≡ length n.inner.content = c.len-old.ensures.value ∙ ap length is.same in
    subst (λ (rows : List Row). AreTotals rows u.nodes) (sym c.resize.ensures)
    (subst (λ (label : ℕ). AreTotals (resized c.args.quota.now label c.len-old.result c.in-Some.size) u.nodes) (sym x.1.tells.label)
    (subst (λ (size : ℕ). AreTotals (resized c.args.quota.now n.label size c.in-Some.size) u.nodes) (sym old)
    (subst (λ (size : ℕ). AreTotals (resized c.args.quota.now n.label (length n.inner.content) size) u.nodes) (sym f.1)
    (written_totals c.args.quota.now t u n c.requires.counts x.1.node_is is.kind at args (λ inner few. c.law_totals.ensures.touched c.args.quota.now n.id inner n (world_of t) c.requires.counts x.1.node_is few (subst (λ (i : Id). i.number ≤ LAST_NUMBER) x.1.id c.law_numbered.ensures)) f.0 done))))

pub unreachable-requires-in_default-error : goal.unreachable-requires-in_default-error
unreachable-requires-in_default-error c =
    let at : Place = placed some_place c.args.caller.now in
    let t = c.args.tree.now in
    let h = c.args.held.now in
    let x = is_there t _ h c.requires.held in
    let n = x.0 in
    let args : Arguments = record { id = some_id; offset = c.args.offset; stable = 0; content = c.args.content.now } in
    let is = file_is t n h c.in-Ok.file.now x.1 c.in-Ok.ensures in
    let f = fits_so args.offset args.content c.in-Ok.file.now n.inner.content c.in-Some.size is.same c.in-Some.ensures in
    only_memory at t c.write.new.self n h args x.1 c.in-Err.error is.kind f.0 c.in_default-error.not-Memory c.in-Err.ensures
