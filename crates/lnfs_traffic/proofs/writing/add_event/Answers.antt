use Rattle.std.proofs.Common.{List, ℕ, ◌++◌, ◌∙◌, ap, append_assoc}
use Rattle.lnfs_traffic.proofs.writing.add_event.Goals as goal

pub returns-clause-text : goal.returns-clause-text
returns-clause-text c =
    c.in_ok-extend_from_slice-2.ensures.items ∙ (λ i. c.in_ok-extend_from_slice.ensures.items i ++ c.as_slice.ensures i)
    ∙ append_assoc c.args.out.now.items c.head_of.result c.args.event.now.message ∙ ap (λ (t : List ℕ). c.args.out.now.items ++ t) c.head_of.ensures.text
