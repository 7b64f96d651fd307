use Rattle.std.proofs.Common.{◌≡◌, Bool, true, false, not, ◌||◌, sym, ap, ◌∙◌, subst}
use Rattle.std.specs.Prelude.{IfSome, IfNone}
use Rattle.std.specs.List.{list_any, list_all}
use Rattle.lnfs_world.specs.World.{Open, same_id}
use Rattle.lnfs_open.specs.Lists.{Lists}
use Rattle.lnfs_open.specs.Listed.{id_of}
use Rattle.lnfs_open.specs.Kept.{lists_in}
use Rattle.lnfs_open.specs.Stopping.{yields_to}
use Rattle.lnfs_open.specs.Tallies.{may_clash}
use Rattle.lnfs_open.proofs.Certain.{none_yields}
use Rattle.lnfs_open.proofs.Grouped.{some_weaker, there, only}
use Rattle.lnfs_open.proofs.opens.Opens.first_given_way.Goals as goal

pub first_given_way-requires-clause-found : goal.first_given_way-requires-clause-found
first_given_way-requires-clause-found g c = record { own = c.self.invariant.own; rise = c.self.invariant.indexed.counted.rise; grouped = c.self.invariant.indexed.nodes }

pub returns-then-may_clash-clause-there : goal.returns-then-may_clash-clause-there
returns-then-may_clash-clause-there g c =
    let s = lists_in c.self.inside.rows.entries c.self.inside.counters in
    subst (λ (lists : Lists). IfSome c.first_given_way.result (λ id. list_any (λ o. same_id (id_of id) o.id) lists.opens ≡ true)) c.self.view_is
    (some_weaker _ _ c.first_given_way.result (λ id held. there s.opens (λ o. true) (id_of id) held) c.first_given_way.ensures.there)

pub returns-then-may_clash-clause-only : goal.returns-then-may_clash-clause-only
returns-then-may_clash-clause-only g c = λ told tells.
    let s = lists_in c.self.inside.rows.entries c.self.inside.counters in
    let test : Open → Bool = yields_to c.args.asked.now (id_of c.args.node) told in
    subst (λ (lists : Lists). IfSome c.first_given_way.result (λ id. list_all (λ o. not (same_id (id_of id) o.id) || test o) lists.opens ≡ true)) c.self.view_is
    (some_weaker _ _ c.first_given_way.result (λ id held. only s.opens test c.self.invariant.indexed.counted.rise (id_of id) held) (c.first_given_way.ensures.some told tells))

pub returns-then-may_clash-clause-none : goal.returns-then-may_clash-clause-none
returns-then-may_clash-clause-none g c = λ told tells.
    let test : Open → Bool = yields_to c.args.asked.now (id_of c.args.node) told in
    subst (λ (lists : Lists). IfNone c.first_given_way.result (list_any test lists.opens ≡ false)) c.self.view_is (c.first_given_way.ensures.none told tells)

pub returns-clause-none : goal.returns-clause-none
returns-clause-none g c = λ told tells.
    let s = lists_in c.self.inside.rows.entries c.self.inside.counters in
    let asked = c.args.asked.now in
    let node = id_of c.args.node in
    let test : Open → Bool = yields_to asked node told in
    let none = ap (may_clash asked.access asked.deny) (sym (c.self.invariant.tallied node asked.subject.0)) ∙ sym c.may_clash.ensures ∙ c.if-may_clash.false in
    subst (λ (lists : Lists). list_any test lists.opens ≡ false) c.self.view_is (none_yields s.opens c.self.invariant.indexed.counted.rise asked node told none)
