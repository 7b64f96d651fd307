use Rattle.std.proofs.Common.{ℕ, ◌≡◌, ◌-◌, List, set, ◌+◌, ◌∙◌, ◌++◌, ◌∷◌, [], sym, ap, refl, arith}
use Rattle.lnfs_xdr.specs.Format.{Word, times}
use Rattle.lnfs_xdr.specs.Reading.{read, here}
use Rattle.lnfs_xdr.proofs.Loops.{goes_on}
use Rattle.std.proofs.lemmas.List.{length_push}
use Rattle.lnfs_attrs.proofs.Words.{grown_none, filled_none, filled_set}
use Rattle.lnfs_attrs.proofs.bitmap.words_of.Goals as goal

pub loop-place-init : goal.loop-place-init
loop-place-init c =
    let all : c.args.count - 0 ≡ c.args.count = omega arith in
    (([], refl, sym filled_none, rw all (grown_none (read (times c.args.count Word) c.args.reader.now.rest))), refl)

pub loop-place-preserved : goal.loop-place-preserved
loop-place-preserved c =
    let p = c.loop-place.invariant.0 in (
      (
        p.0 ++ c.in_ok-words.field-0 ∷ [],
        length_push p.0 c.in_ok-words.field-0 ∙ ap (λ (n : ℕ). n + 1) p.1,
        ap (λ (ws : List ℕ). set ws c.loop-place.place c.in_ok-words.field-0) p.2 ∙ filled_set 8 p.0 c.loop-place.place c.in_ok-words.field-0 p.1 (omega arith),
        goes_on {E = ℕ × ℕ} Word p.0 c.args.count c.loop-place.place c.loop-place.reader.rest c.in_ok-words.field-0 c.u32.new.self.rest (read (times c.args.count Word) c.args.reader.now.rest) c.loop-place-test.true (ap (here c.loop-place.reader.rest) c.in_ok-words.ensures.0) p.3,
      ),
      c.in_ok-words.ensures.1 ∙ c.loop-place.invariant.1,
    )
