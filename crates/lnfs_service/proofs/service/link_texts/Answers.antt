use Rattle.std.proofs.Common.{List, ℕ, ◌++◌, ◌∷◌, [], map, ap, ◌∙◌}
use Rattle.std.proofs.lemmas.List.{map_push}
use Rattle.std.specs.Prelude.{codes, string_bytes}
use Rattle.std.specs.Fmt.{decimal}
use Rattle.lnfs_service.proofs.Sessions.{lines_next}
use Rattle.lnfs_service.proofs.service.link_texts.Goals as goal

pub loop-number-preserved : goal.loop-number-preserved
loop-number-preserved g c =
    let n = c.loop-number.number in
    let end = c.index-ends-number.result in
    let line = c.in_ok-line.ensures ∙ ap (λ (name : List ℕ). codes "link " ++ decimal n ++ 32 ∷ name ++ 32 ∷ decimal end.records ++ 10 ∷ []) c.name_of.ensures in
    ap (map string_bytes) c.in_ok-push.ensures.items ∙ map_push string_bytes c.loop-number.texts.items c.in_ok-line.line
    ∙ (λ i. c.loop-number.invariant i ++ line i ∷ []) ∙ lines_next c.args.ends.now n end c.loop-number-test.true c.index-ends-number.is
