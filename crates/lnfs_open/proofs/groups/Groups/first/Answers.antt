use Rattle.std.proofs.Common.{◌≡◌, Bool, true, false, refl, sym, ap, subst, ◌∙◌, arith}
use Rattle.std.specs.Prelude.{is_some, slice_get}
use Rattle.std.specs.Ordering.{is_gt}
use Rattle.std.specs.Option.{IfSome, IfNone}
use Rattle.std.specs.BTreeMap.Range.{IsLeBy, IsEntryInRange}
use Rattle.std.specs.declared.ops.Bound.TheVariants.{Included, Unbounded}
use Rattle.std.proofs.lemmas.Bool.{false≢true}
use Rattle.std.proofs.lemmas.Bool.Decides.{nat_tests}
use Rattle.lnfs_world.specs.World.{Id, same_id}
use Rattle.lnfs_open.specs.declared.groups.Member.{Member}
use Rattle.lnfs_open.specs.Listed.{id_of}
use Rattle.lnfs_open.specs.Groups.{place_cmp, place_of, holds}
use Rattle.lnfs_open.proofs.Places.{from_front, between}
use Rattle.lnfs_open.proofs.groups.Groups.first.Goals as goal

pub returns-in_err-place-clause-none : goal.returns-in_err-place-clause-none
returns-in_err-place-clause-none c =
    let group = c.args.group in
    let from : (i : Id) → is_gt (place_cmp c.front.result (place_of (id_of group) i)) ≡ false = λ i. ap (λ (f : Member). is_gt (place_cmp f (place_of (id_of group) i))) c.front.ensures ∙ from_front group i in
    subst (λ o. IfNone o ((i : Id) → holds c.args.self.now (id_of group) i ≡ false)) (sym c.from_residual.ensures)
    (λ i. ap is_some ((c.range.ensures.in_range tt).5 c.in_err-place.ensures.steps.0 (place_of (id_of group) i) (from i, tt)))

pub returns-then-ne-clause-none : goal.returns-then-ne-clause-none
returns-then-ne-clause-none c = λ i. by i (holds c.args.self.now (id_of c.args.group) i) refl
  where
    by : (i : Id) (b : Bool) → holds c.args.self.now (id_of c.args.group) i ≡ b → holds c.args.self.now (id_of c.args.group) i ≡ false
    by i false is = is
    by i true is =
        let group = c.args.group in
        let place : Member = c.in_ok-place.place.now in
        let range = c.range.ensures.in_range tt in
        let steps = c.in_ok-place.ensures.steps in
        let from : is_gt (place_cmp c.front.result (place_of (id_of group) i)) ≡ false = ap (λ (f : Member). is_gt (place_cmp f (place_of (id_of group) i))) c.front.ensures ∙ from_front group i in
        let first : is_gt (place_cmp c.front.result place) ≡ false = (subst (λ r. IfSome (slice_get r 0) (IsEntryInRange place_cmp (Included c.front.result) Unbounded c.args.self.now.places)) steps (range.1)).0.0 in
        let least : is_gt (place_cmp place (place_of (id_of group) i)) ≡ false = subst (λ r. IfSome (slice_get r 0) (λ e. IsLeBy place_cmp e.0 (place_of (id_of group) i))) steps (range.2 (place_of (id_of group) i) (from, tt) is) in
        let here : same_id (id_of place.group) (id_of group) ≡ true = between group i place (ap (λ (f : Member). is_gt (place_cmp f place)) (sym c.front.ensures) ∙ first) least in
        let other : same_id (id_of place.group) (id_of group) ≡ false = grind (arith, nat_tests, c.ne.ensures, c.if-ne.true) in
        absurd (false≢true (sym other ∙ here))
