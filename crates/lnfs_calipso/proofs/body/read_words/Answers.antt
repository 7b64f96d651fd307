use Rattle.std.proofs.Common.{ℕ, List, [], ◌∷◌, ◌++◌, ◌*◌, drop, sym, ap, ◌∙◌}
use Rattle.std.specs.Int.{from_be_bytes, w32}
use Rattle.lnfs_calipso.specs.Body.{words_in}
use Rattle.lnfs_calipso.proofs.BodyWords.{words_in-more, drop_head}
use Rattle.lnfs_calipso.proofs.body.read_words.Goals as goal

pub loop-place-init : goal.loop-place-init
unfolding words_in
loop-place-init c = c.in_ok-words.ensures.items

pub loop-place-preserved : goal.loop-place-preserved
loop-place-preserved c =
    c.in_ok-push.ensures.items ∙ ap (λ (ws : List ℕ). ws ++ c.word_from.result ∷ []) c.loop-place.invariant
    ∙ ap (λ (w : ℕ). words_in c.loop-place.place (drop 6 c.args.bytes.now) ++ w ∷ []) (c.word_from.ensures ∙ ap (from_be_bytes w32) (drop_head c.args.bytes.now (4 * c.loop-place.place)))
    ∙ sym (words_in-more c.loop-place.place (drop 6 c.args.bytes.now))
