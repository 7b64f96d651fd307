use Rattle.std.proofs.Common.{◌≡◌, Bool, Option, Some, None, append-nil, ◌++◌, ap, ◌∙◌, sym, subst, refl}
use Rattle.lnfs_ranges.specs.Modes.{joined, below, above, asked_range, AreRuns}
use Rattle.lnfs_ranges.proofs.Joins.{joined_three, joined_apart}
use Rattle.lnfs_ranges.proofs.Rising.{set_runs}
use Rattle.lnfs_ranges.proofs.joining.with_mode.Goals as goal
use Rattle.lnfs_ranges.proofs.joining.with_mode.Goals.{in-Some+in_ok-push_joined, in_default}

none_left : (o : Option Bool) → ((write : Bool) → o ≡ Some write → ⊥) → o ≡ None
none_left None h = refl
none_left (Some write) h = absurd (h write refl)

pub returns-clause-value : goal.returns-clause-value
returns-clause-value c =
    let b = below c.args.first c.args.ranges.now in
    joined_three b (asked_range c.args.first c.args.last c.args.asked) (above c.args.last c.args.ranges.now) c.push_below.new.out.items c.match-asked.out.items c.push_above.new.out.items
    (c.in_ok-push_below.ensures.ok ∙ ap (λ xs. joined (xs ++ b)) c.new-out.ensures.items)
    (elim c.match-asked.branch [
      | in-Some+in_ok-push_joined w ↦ ap (λ v. v.items) w.out-is ∙ (w.in_ok-push_joined.ensures.ok ∙ ap (λ a. joined (c.push_below.new.out.items ++ asked_range c.args.first c.args.last a)) (sym w.in-Some.is))
      | in_default w ↦ ap (λ v. v.items) w.out-is
          ∙ (sym (ap joined (append-nil c.push_below.new.out.items) ∙ joined_apart c.push_below.new.out.items c.in_ok-push_below.ensures.apart)
          ∙ ap (λ a. joined (c.push_below.new.out.items ++ asked_range c.args.first c.args.last a)) (sym (none_left c.args.asked (λ write e. w.in_default.not-Some write e))))
    ])
    c.in_ok-push_above.ensures.ok

pub returns-clause-runs : goal.returns-clause-runs
returns-clause-runs c h k = subst AreRuns (sym (returns-clause-value c)) (set_runs c.args.ranges.now c.args.first c.args.last c.args.asked h k)
