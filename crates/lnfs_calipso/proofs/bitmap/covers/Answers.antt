use Rattle.std.proofs.Common.{ℕ, ◌≡◌, ◌≤◌, sym, ap, ◌∙◌, arith, bit_and, slice_index, length, inl, inr}
use Rattle.std.specs.Int.{bit_not, w32}
use Rattle.std.proofs.lemmas.Bool.{cases_lt}
use Rattle.std.proofs.lemmas.List.{get_or_past}
use Rattle.std.proofs.lemmas.Nat.{and_le_l}
use borrow.Author.Count.{below_more}
use Rattle.lnfs_calipso.proofs.Covers.{covers_all, covers_not}
use Rattle.lnfs_calipso.proofs.bitmap.covers.Goals as goal

none_left : (word n : ℕ) → word ≡ 0 → bit_and word n ≡ 0
none_left word n e = (let le = and_le_l word n in omega arith)

pub returns-then-word-word_at-ne0 : goal.returns-then-word-word_at-ne0
returns-then-word-word_at-ne0 c =
    sym (covers_not c.args.high.now c.args.low.now c.requires.high c.requires.low c.loop-place.place (λ e.
    c.if-word-word_at-ne0.true (ap (λ (h : ℕ). bit_and (slice_index c.args.low.now c.loop-place.place) (bit_not w32 h)) c.word_at.ensures ∙ e)))

pub returns : goal.returns
returns c =
    sym (covers_all c.args.high.now c.args.low.now c.requires.high c.requires.low (λ k.
    elim (cases_lt k (length c.args.low.now)) [
      | inl l ↦ c.loop-place.invariant k (omega arith)
      | inr past ↦ none_left (slice_index c.args.low.now k) _ (get_or_past c.args.low.now k 0 past)
    ]))

pub loop-place-preserved : goal.loop-place-preserved
loop-place-preserved c =
    below_more (λ k. bit_and (slice_index c.args.low.now k) (bit_not w32 (slice_index c.args.high.now k)) ≡ 0) _ c.loop-place.invariant
    (ap (λ (h : ℕ). bit_and (slice_index c.args.low.now c.loop-place.place) (bit_not w32 h)) (sym c.word_at.ensures) ∙ c.if-word-word_at-ne0.false)
