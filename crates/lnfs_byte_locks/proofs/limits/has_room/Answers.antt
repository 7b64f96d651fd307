use Rattle.std.proofs.Common.{◌≡◌, ◌≤◌, ◌<◌, ◌∙◌, ap, sym, subst, true, false, ◌&&◌, Bool, arith}
use Rattle.std.specs.Prelude.{nat_le}
use Rattle.std.proofs.lemmas.Bool.Decides.{nat_tests}
use Rattle.lnfs_world.specs.declared.numbers.TheConstants.{LAST_NUMBER}
use Rattle.lnfs_world.specs.World.{Id}
use Rattle.lnfs_locks.specs.declared.numbers.TheConstants.{LOCKS_OF_A_LEVEL, RANGES_OF_A_LEVEL}
use Rattle.lnfs_byte_locks.proofs.Room.{too_many, counted}
use Rattle.lnfs_byte_locks.proofs.limits.has_room.Goals as goal

pub returns-then-ranges : goal.returns-then-ranges
returns-then-ranges c = λ l id long.
    sym (too_many c.args.store.now l c.args.locks.now.locks (subst (λ n. RANGES_OF_A_LEVEL < n) (sym long) c.if-ranges.true))

pub returns-then-usage-from : goal.returns-then-usage-from
returns-then-usage-from c = λ l id long.
    let few : c.args.id.number ≤ LAST_NUMBER = omega arith in
    let locks = c.usage_with-usage.result.locks in
    let ranges = c.usage_with-usage.result.ranges in
    let room : nat_le locks LOCKS_OF_A_LEVEL ≡ true = grind (arith, nat_tests, c.if-usage-from.true, c.from.ensures) in
    ap (nat_le ranges) c.from-then-usage-from.ensures
    ∙ sym (ap (λ (b : Bool). b && nat_le ranges RANGES_OF_A_LEVEL) room)
    ∙ counted c.args.store.now c.args.locks.now c.requires.facts c.opens.result.now c.opens.ensures l locks ranges (subst (λ (i : Id). i.number ≤ LAST_NUMBER) (sym id) few)
    (c.usage_with-usage.ensures.locks l id) (c.usage_with-usage.ensures.ranges l id long)

pub returns-else-usage-from : goal.returns-else-usage-from
returns-else-usage-from c = λ l id long.
    let few : c.args.id.number ≤ LAST_NUMBER = omega arith in
    let locks = c.usage_with-usage.result.locks in
    let ranges = c.usage_with-usage.result.ranges in
    let none : nat_le locks LOCKS_OF_A_LEVEL ≡ false = grind (arith, nat_tests, c.if-usage-from.false, c.from.ensures) in
    ap (nat_le locks) c.from.ensures ∙ none
    ∙ sym (ap (λ (b : Bool). b && nat_le ranges RANGES_OF_A_LEVEL) none)
    ∙ counted c.args.store.now c.args.locks.now c.requires.facts c.opens.result.now c.opens.ensures l locks ranges (subst (λ (i : Id). i.number ≤ LAST_NUMBER) (sym id) few)
    (c.usage_with-usage.ensures.locks l id) (c.usage_with-usage.ensures.ranges l id long)
