use Rattle.std.proofs.Common.{◌≡◌, Bool, true, false, not, ◌||◌, sym, subst, ◌∙◌}
use Rattle.std.specs.Prelude.{IfSome, IfNone}
use Rattle.std.specs.List.{list_any, list_all}
use Rattle.lnfs_world.specs.World.{Open, same_id}
use Rattle.lnfs_open.specs.Lists.{Lists}
use Rattle.lnfs_open.specs.Listed.{id_of}
use Rattle.lnfs_open.specs.Kept.{lists_in}
use Rattle.lnfs_open.proofs.Grouped.{some_weaker, none_weaker, there, only, none}
use Rattle.lnfs_open.proofs.opens.Opens.first_of_node.Goals as goal

pub returns-clause-there : goal.returns-clause-there
returns-clause-there c =
    let s = lists_in c.self.inside.rows.entries c.self.inside.counters in
    let test : Open → Bool = (λ o. same_id (id_of c.args.node) o.node) in
    subst (λ (lists : Lists). IfSome c.first.result (λ id. list_any (λ o. same_id (id_of id) o.id) lists.opens ≡ true)) c.self.view_is
    (some_weaker _ _ c.first.result (λ id held. there s.opens test (id_of id) (sym (c.self.invariant.indexed.nodes (id_of c.args.node) (id_of id)) ∙ held)) c.first.ensures.some)

pub returns-clause-only : goal.returns-clause-only
returns-clause-only c =
    let s = lists_in c.self.inside.rows.entries c.self.inside.counters in
    let test : Open → Bool = (λ o. same_id (id_of c.args.node) o.node) in
    subst (λ (lists : Lists). IfSome c.first.result (λ id. list_all (λ o. not (same_id (id_of id) o.id) || test o) lists.opens ≡ true)) c.self.view_is
    (some_weaker _ _ c.first.result (λ id held. only s.opens test c.self.invariant.indexed.counted.rise (id_of id) (sym (c.self.invariant.indexed.nodes (id_of c.args.node) (id_of id)) ∙ held)) c.first.ensures.some)

pub returns-clause-none : goal.returns-clause-none
returns-clause-none c =
    let s = lists_in c.self.inside.rows.entries c.self.inside.counters in
    let test : Open → Bool = (λ o. same_id (id_of c.args.node) o.node) in
    subst (λ (lists : Lists). IfNone c.first.result (list_any test lists.opens ≡ false)) c.self.view_is
    (none_weaker c.first.result (λ free. none s.opens test c.self.invariant.indexed.counted.rise (λ i. sym (c.self.invariant.indexed.nodes (id_of c.args.node) i) ∙ free i)) c.first.ensures.none)
