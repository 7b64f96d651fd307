use Rattle.std.proofs.Common.{◌≡◌, ◌∙◌, ap, sym, true, false, None, Some}
use Rattle.std.specs.Prelude.{nat_le}
use Rattle.lnfs_world.specs.World.{World}
use Rattle.lnfs_world.specs.Outcome.{Place}
use Rattle.lnfs_site.specs.Site.{site_of}
use Rattle.lnfs_operations.specs.declared.Refusal.{Refusal}
use Rattle.lnfs_world.specs.declared.numbers.TheConstants.{MOST_FILE}
use Rattle.lnfs_operations.specs.Files.{passes_quota}
use Rattle.lnfs_nodes.specs.Trees.{with_tree, refusal_of}
use Rattle.lnfs_nodes.specs.Acts.{placed}
use Rattle.lnfs_files.specs.Worlds.{with_files}
use Rattle.lnfs_files.proofs.WriteOn.{is_there, is_counted, within, past}
use Rattle.lnfs_files.proofs.Writes.{up_to}
use Rattle.lnfs_files.proofs.Sizes.{too_many, too_big, past_limit, has_room, not_usable, by_size, held_bytes, held_size}
use Rattle.lnfs_files.proofs.values.check_size.Goals as goal

pub byte_room-requires : goal.byte_room-requires
byte_room-requires g c =
    let t = c.args.tree.now in
    let h = c.args.held.now in
    record { held = is_counted c.args.quota.now t h _ (is_there t _ h c.requires.held) (λ n holds. held_bytes t n h holds c.requires.file) c.requires.counts (c.law_totals.ensures.held_bytes c.args.quota.now t.nodes) (c.law_totals.ensures.held_bounds c.args.quota.now t.nodes) }

pub returns-clause-resizes : goal.returns-clause-resizes
returns-clause-resizes g c = c.byte_room.ensures.resizes c.if-not-byte_room.false

pub returns-in-Err-clause-refused : goal.returns-in-Err-clause-refused
returns-in-Err-clause-refused g c = λ n p rest tells client holds.
    let at : Place = placed p c.args.caller.now in
    let t = c.args.tree.now in
    not_usable (site_of c.args.site.now) at (with_files rest t c.args.opens.now) n c.args.size c.args.id.now (refusal_of c.in-Err.why) (c.in-Err.ensures p (with_tree rest t) n tells client holds.id)

pub returns-then-size-gt-MOST_FILE-clause-refused : goal.returns-then-size-gt-MOST_FILE-clause-refused
returns-then-size-gt-MOST_FILE-clause-refused g c = λ n p rest tells client holds.
    let site = site_of c.args.site.now in
    let at : Place = placed p c.args.caller.now in
    let t = c.args.tree.now in
    let w : World = with_files rest t c.args.opens.now in
    by_size site at w n c.args.size c.args.id.now (Some (refusal_of c.namespace.result)) (c.in_default.ensures p (with_tree rest t) n tells client holds.id)
    (ap (λ (r : Refusal). Some (refusal_of r)) c.namespace.ensures ∙ too_big site at w n c.args.size (too_many c.args.size MOST_FILE c.if-size-gt-MOST_FILE.true))

pub returns-then-not-byte_room-clause-refused : goal.returns-then-not-byte_room-clause-refused
returns-then-not-byte_room-clause-refused g c = λ n p rest tells client holds.
    let site = site_of c.args.site.now in
    let at : Place = placed p c.args.caller.now in
    let t = c.args.tree.now in
    let h = c.args.held.now in
    let w : World = with_files rest t c.args.opens.now in
    let fits : nat_le c.args.size MOST_FILE ≡ true = up_to c.args.size MOST_FILE c.if-size-gt-MOST_FILE.false in
    let room = c.byte_room.ensures.room w n c.requires.counts (sym holds.tells.label) (sym (held_size t n h holds c.requires.file)) in
    let passes : passes_quota site w n c.args.size ≡ true = past _ _ c.if-not-byte_room.true room in
    by_size site at w n c.args.size c.args.id.now (Some (refusal_of c.past_quota.result)) (c.in_default.ensures p (with_tree rest t) n tells client holds.id)
    (ap (λ (r : Refusal). Some (refusal_of r)) c.past_quota.ensures ∙ past_limit site at w n c.args.size fits passes)

pub returns-clause-refused : goal.returns-clause-refused
returns-clause-refused g c = λ n p rest tells client holds.
    let site = site_of c.args.site.now in
    let at : Place = placed p c.args.caller.now in
    let t = c.args.tree.now in
    let h = c.args.held.now in
    let w : World = with_files rest t c.args.opens.now in
    let fits : nat_le c.args.size MOST_FILE ≡ true = up_to c.args.size MOST_FILE c.if-size-gt-MOST_FILE.false in
    let room = c.byte_room.ensures.room w n c.requires.counts (sym holds.tells.label) (sym (held_size t n h holds c.requires.file)) in
    let stays : passes_quota site w n c.args.size ≡ false = within _ _ c.if-not-byte_room.false room in
    by_size site at w n c.args.size c.args.id.now None (c.in_default.ensures p (with_tree rest t) n tells client holds.id) (has_room site at w n c.args.size fits stays)
