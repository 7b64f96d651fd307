use Rattle.std.proofs.Common.{◌≡◌, ◌∙◌, ◌+◌, ◌++◌, ◌∷◌, [], ℕ, Some, sym, ap, subst, arith, length, append-nil, append_assoc, length-append}
use Rattle.std.specs.Prelude.{slice_get}
use Rattle.std.proofs.lemmas.List.{length_push}
use Rattle.lnfs_workers.proofs.Dealt.{Dealt, dealt_none, dealt_put, get_at}
use Rattle.lnfs_workers.proofs.deal.deal.Goals as goal

pub loop-item-init : goal.loop-item-init
loop-item-init g c = record {
  front = ([], sym (append-nil c.args.items.items));
  hands = dealt_none (λ hand. hand.items) (λ n x. slice_get c.args.items.items n ≡ Some x) (length c.args.items.items) c.args.count (length c.args.items.items) c.in_ok-hands.hands.items (omega arith) c.in_ok-hands.ensures.empty;
  count = c.in_ok-hands.ensures.count;
}

pub loop-item-preserved : goal.loop-item-preserved
loop-item-preserved g c =
    let i = c.loop-item.invariant in
    let items = c.args.items.items in
    let front = c.pop.new.self.items in
    let item = c.in-Some.item in
    let dealt = i.front.0 in
    let cut = c.in-Some.ensures.items in
    let all = i.front.1 ∙ ap (λ l. l ++ dealt) cut ∙ append_assoc front (item ∷ []) dealt in
    let long : length items ≡ length front + length (item ∷ dealt) = ap length all ∙ length-append front (item ∷ dealt) in
    let was : length c.loop-item.left.items ≡ length front + 1 = ap length cut ∙ length_push front item ∙ omega arith in
    let P = λ (n : ℕ) (x : g.row.T.Denot). slice_get items n ≡ Some x in
    let put = dealt_put (λ hand. hand.items) P (length items) c.args.count (length front) c.loop-item.hands.items c.put_next.new.hands.items item i.count (omega (arith, long))
    (ap (λ l. slice_get l (length front)) all ∙ get_at front item dealt) c.in_ok-put_next.ensures (subst (λ (k : ℕ). Dealt (λ hand. hand.items) P (length items) c.args.count k c.loop-item.hands.items) was i.hands) in
    record { front = (item ∷ dealt, all); hands = put.0; count = put.1 }

pub returns-clause-hands : goal.returns-clause-hands
returns-clause-hands g c =
    let i = c.loop-item.invariant in
    let none : length c.loop-item.left.items ≡ 0 = omega (arith, c.in_default.ensures.cases, c.loop-item.left.ok) in
    subst (λ (k : ℕ). Dealt (λ hand. hand.items) (λ n x. slice_get c.args.items.items n ≡ Some x) (length c.args.items.items) c.args.count k c.loop-item.hands.items) none i.hands
