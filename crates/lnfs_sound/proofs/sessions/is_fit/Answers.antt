use Rattle.std.proofs.Common.{length, sym, ap, subst, arith}
use Rattle.std.proofs.lemmas.List.{length-map}
use Rattle.lnfs_rows.specs.Told.{slot_of}
use Rattle.lnfs_fit.proofs.Indexed.{all_at, at_all}
use Rattle.lnfs_sound.specs.Parts.{IsFitSlot}
use Rattle.lnfs_sound.specs.RowsOf.{slots_of, no_slot, nth_slot}
use Rattle.lnfs_sound.proofs.sessions.is_fit.Goals as goal

pub returns : goal.returns
returns c =
    let most = c.args.row.now.channel.max_response in
    let items = c.args.row.now.slots.items in
    let same = c.deref.ensures.value in
    let len = length-map items slot_of in (
      λ fits. record {
        granted = c.is_granted.ensures.0 c.if-not-is_granted.false;
        slots = c.has_slots.ensures.0 c.if-not-has_slots.false;
        each = at_all no_slot (IsFitSlot most) (slots_of items) (λ k k_in. subst (λ xs. IsFitSlot most (nth_slot (slots_of xs) k)) same (c.slots_fit.ensures.0 fits k (omega (arith, len, ap length same, k_in))));
      },
      λ fit. c.slots_fit.ensures.1 (λ k k_in. subst (λ xs. IsFitSlot most (nth_slot (slots_of xs) k)) (sym same) (all_at no_slot (IsFitSlot most) (slots_of items) fit.each k (omega (arith, len, ap length same, k_in)))),
    )
