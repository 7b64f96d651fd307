use Rattle.std.proofs.Common.{◌≡◌, ◌≤◌, ◌<◌, ◌+◌, ◌%◌, List, ℕ, ◌++◌, length, length-append, ap, sym, ◌∙◌, arith}
use Rattle.std.specs.Prelude.{sum_by}
use Rattle.lnfs_results.specs.Answering.{op_bound}
use Rattle.lnfs_xdr.specs.Canon.{word, opaque}
use Rattle.lnfs_xdr.specs.Format.{padding}
use Rattle.lnfs_xdr.proofs.Sizes.{length-word, length-opaque}
use Rattle.lnfs_results.specs.Texts.{head_text}
use Rattle.lnfs_engine.proofs.room.room_of.Goals as goal

head_length : (tag : List ℕ) → length (head_text 0 tag 0) ≡ 12 + (length tag + padding (length tag))
head_length tag = omega (arith, length-append (word 0 ++ opaque tag) (word 0), length-append (word 0) (opaque tag), length-word 0, length-opaque tag)

rounded : (n next : ℕ) → n ≤ next → next < n + 4 → next % 4 ≡ 0 → next ≡ n + padding n
rounded n next low high even = omega (arith, low, high, even)

pub returns : goal.returns
returns g c =
    let k = c.args.compound.now in
    let len : c.len.result ≡ length k.tag = c.len.ensures in
    let next = c.next_multiple_of-head.ensures in
    let head : 12 + c.next_multiple_of-head.result ≡ length (head_text 0 k.tag 0) = ap (λ n. 12 + n) (rounded c.len.result c.next_multiple_of-head.result next.lower_bound next.upper_bound next.multiple) ∙ ap (λ n. 12 + (n + padding n)) len ∙ sym (head_length k.tag) in
    (λ i. head i + c.bounds_of.result) ∙ ap (λ n. length (head_text 0 k.tag 0) + n) (c.bounds_of.ensures.sum ∙ ap (sum_by (op_bound g.E.ExtraGrammar.grammar)) c.as_slice.ensures)
