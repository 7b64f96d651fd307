use Rattle.std.proofs.Common.{ℕ, List, sym, ◌∙◌, subst, arith}
use Rattle.lnfs_calipso.specs.Bitmap.{IsBitmap}
use Rattle.lnfs_calipso.proofs.Bodies.{read_as, label_unread, words_are}
use Rattle.lnfs_calipso.proofs.body.read_label.Goals as goal

pub returns-then-not-is_body : goal.returns-then-not-is_body
returns-then-not-is_body c = sym (label_unread c.args.bytes.now (sym c.is_body.ensures ∙ c.if-not-is_body.true))

pub of_words-requires : goal.of_words-requires
of_words-requires c =
    subst (λ (ws : List ℕ). IsBitmap ws) (sym c.in_ok-words.ensures) (words_are c.args.bytes.now (λ k. omega (arith, c.type_inv.bytes k)) (sym c.is_body.ensures ∙ c.if-not-is_body.false))

pub returns : goal.returns
returns c =
    read_as c.args.bytes.now c.in_ok-words.words.items c.of_words.result c.word_from-doi.result (sym c.is_body.ensures ∙ c.if-not-is_body.false) c.word_from-doi.ensures c.in_ok-words.ensures c.of_words.ensures
