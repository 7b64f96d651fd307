use Rattle.std.proofs.Common.{◌≡◌, ◌∙◌, [], ◌∷◌, ap, arith, length}
use Rattle.std.proofs.lemmas.List.{length_push}
use Rattle.std.proofs.lemmas.List.Elements.{All-append, All-cons}
use Rattle.lnfs_workers.proofs.deal.empty_hands.Goals as goal

pub loop-preserved : goal.loop-preserved
loop-preserved g c =
    let items = c.in_ok-push_back.ensures.items in
    let more = ap length items ∙ length_push c.loop.hands.items c.new.result in
    record {
      count = omega arith;
      empty = rw items (All-append (λ hand. hand.items ≡ []) c.loop.hands.items (c.new.result ∷ []) c.loop.invariant.empty (All-cons (λ hand. hand.items ≡ []) c.new.result [] c.new.ensures.items (λ k d less. absurd (omega arith))));
    }
