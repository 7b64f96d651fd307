use Rattle.std.proofs.Common.{◌≡◌, Bool, true, false, sym, ap, ◌∙◌, arith}
use Rattle.std.specs.Prelude.{filter}
use Rattle.std.specs.List.{list_any}
use Rattle.std.proofs.lemmas.Bool.Decides.{nat_tests}
use Rattle.std.specs.declared.ops.Bound.TheVariants.{Included, Unbounded}
use Rattle.std.specs.BTreeMap.Range.{entries_between}
use Rattle.lnfs_world.specs.World.{Open}
use Rattle.lnfs_open.specs.declared.groups.Member.{Member}
use Rattle.lnfs_open.specs.Groups.{place_cmp}
use Rattle.lnfs_open.specs.Listed.{id_of}
use Rattle.lnfs_open.specs.Indexed.{open_at, passes}
use Rattle.lnfs_open.specs.Stopping.{opens_in, yields_to}
use Rattle.lnfs_open.proofs.Runs.{run, is_member, members_run, any_filtered, walk_on, walk_out, walk_done}
use Rattle.lnfs_open.proofs.Sharings.{any-members}
use Rattle.lnfs_open.proofs.Yielding.{in_whole}
use Rattle.lnfs_open.proofs.revoking.Asked.first_given_way.Goals as goal

pub loop-place-init : goal.loop-place-init
loop-place-init g c = λ told tells.
    let self = c.args.self.now in
    let node = c.args.node in
    let level = self.subject.0 in
    let opens = opens_in c.args.rows.now in
    let test : Open → Bool = yields_to self (id_of node) told in
    let yields : Member × Unit {0} → Bool = λ e. passes test (open_at opens (id_of e.0.id)) in
    let entries = c.args.nodes.now.places.entries in
    let found : run (is_member node level) c.into_iter-place-iterator.result ≡ filter (λ e. is_member node level e.0) entries =
    ap (run (is_member node level)) (c.into_iter-place-iterator.ensures.into_iter_gives ∙ c.range-place-items.ensures.between tt ∙ ap (λ (f : Member). entries_between place_cmp (Included f) Unbounded entries) c.first_place.ensures)
    ∙ members_run node level entries c.range-place-items.ensures.ordered in
    ap (list_any yields) found
    ∙ any_filtered (λ e. is_member node level e.0) yields entries
    ∙ any-members opens c.requires.found.rise c.args.nodes.now c.requires.found.grouped node level test

pub returns-then-ne-clause-none : goal.returns-then-ne-clause-none
returns-then-ne-clause-none g c = λ told tells.
    let self = c.args.self.now in
    let node = c.args.node in
    let level = self.subject.0 in
    let opens = opens_in c.args.rows.now in
    let test : Open → Bool = yields_to self (id_of node) told in
    let yields : Member × Unit {0} → Bool = λ e. passes test (open_at opens (id_of e.0.id)) in
    let place : Member = c.in-Some.place.now in
    let outside : is_member node level place ≡ false = grind (arith, nat_tests, c.ne.ensures, c.if-ne.true) in
    sym (walk_out (is_member node level) yields c.loop-place.place-iterator _ (c.loop-place.invariant told tells) (place, tt) c.next.new.self c.in-Some.ensures.steps outside ∙ in_whole self (id_of node) told opens)

pub returns-then-place-level-clause-none : goal.returns-then-place-level-clause-none
returns-then-place-level-clause-none g c = λ told tells.
    let self = c.args.self.now in
    let node = c.args.node in
    let level = self.subject.0 in
    let opens = opens_in c.args.rows.now in
    let test : Open → Bool = yields_to self (id_of node) told in
    let yields : Member × Unit {0} → Bool = λ e. passes test (open_at opens (id_of e.0.id)) in
    let place : Member = c.in-Some.place.now in
    let outside : is_member node level place ≡ false = grind (arith, nat_tests, c.if-place-level.true) in
    sym (walk_out (is_member node level) yields c.loop-place.place-iterator _ (c.loop-place.invariant told tells) (place, tt) c.next.new.self c.in-Some.ensures.steps outside ∙ in_whole self (id_of node) told opens)

pub returns-then-is_given_way_at-clause-some : goal.returns-then-is_given_way_at-clause-some
returns-then-is_given_way_at-clause-some g c = λ told tells. sym (c.is_given_way_at.ensures.exact told tells) ∙ c.if-is_given_way_at.true

pub loop-place-preserved : goal.loop-place-preserved
loop-place-preserved g c = λ told tells.
    let self = c.args.self.now in
    let node = c.args.node in
    let level = self.subject.0 in
    let opens = opens_in c.args.rows.now in
    let test : Open → Bool = yields_to self (id_of node) told in
    let yields : Member × Unit {0} → Bool = λ e. passes test (open_at opens (id_of e.0.id)) in
    let place : Member = c.in-Some.place.now in
    let inside : is_member node level place ≡ true = grind (arith, nat_tests, c.ne.ensures, c.if-ne.false, c.if-place-level.false) in
    let goes_on : yields (place, tt) ≡ false = sym (c.is_given_way_at.ensures.exact told tells) ∙ c.if-is_given_way_at.false in
    walk_on (is_member node level) yields (place, tt) c.next.new.self c.loop-place.place-iterator c.in-Some.ensures.steps inside _ (c.loop-place.invariant told tells) goes_on

pub returns-clause-none : goal.returns-clause-none
returns-clause-none g c = λ told tells.
    let self = c.args.self.now in
    let node = c.args.node in
    let level = self.subject.0 in
    let opens = opens_in c.args.rows.now in
    let test : Open → Bool = yields_to self (id_of node) told in
    let yields : Member × Unit {0} → Bool = λ e. passes test (open_at opens (id_of e.0.id)) in
    sym (walk_done (is_member node level) yields c.loop-place.place-iterator _ (c.loop-place.invariant told tells) c.in-None.ensures.steps.0 ∙ in_whole self (id_of node) told opens)
