use Rattle.std.proofs.Common.{ℕ, ◌||◌, ◌==◌, Bool, List, arith, ap, ◌∙◌}
use Rattle.std.proofs.lemmas.List.{take_at}
use Rattle.lnfs_calipso.specs.Bitmap.{is_marked}
use Rattle.lnfs_calipso.proofs.Marks.{marks-same, get_or-grown}
use Rattle.lnfs_calipso.proofs.bitmap.insert.Goals as goal
use Rattle.lnfs_calipso.proofs.bitmap.insert.Goals.{then-len-count+in_ok-resize, else-len-count}

pub returns-clause-marked : goal.returns-clause-marked
returns-clause-marked c = λ k.
    ap (λ (xs : List ℕ). is_marked xs k) (take_at c.mark.new.words _ c.if-len-count.words.len (omega arith))
    ∙ c.mark.ensures.marked k
    ∙ ap (λ (b : Bool). b || c.args.comp == k)
    (ap (λ (xs : List ℕ). is_marked xs k) c.deref_mut.ensures.value
    ∙ elim c.if-len-count.branch [
      | then-len-count+in_ok-resize w ↦
          marks-same c.if-len-count.words.items c.args.words.now.items
          (λ j. rw w.words-is (get_or-grown c.args.words.now.items w.resize.new.self.items _ _ (omega arith) w.in_ok-resize.ensures.items j)) k
      | else-len-count w ↦ marks-same c.if-len-count.words.items c.args.words.now.items (λ j. rw w.words-is) k
    ])
