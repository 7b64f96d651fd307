use Rattle.std.proofs.Common.{◌≡◌, Bool, true, false, sym, ap, ◌∙◌, arith}
use Rattle.std.specs.Prelude.{filter}
use Rattle.std.specs.List.{list_any}
use Rattle.std.proofs.lemmas.Bool.Decides.{nat_tests}
use Rattle.std.specs.declared.ops.Bound.TheVariants.{Included, Unbounded}
use Rattle.std.specs.BTreeMap.Range.{entries_between}
use Rattle.lnfs_open.specs.declared.groups.Member.{Member}
use Rattle.lnfs_open.specs.Groups.{place_cmp}
use Rattle.lnfs_open.specs.Listed.{id_of}
use Rattle.lnfs_open.specs.Indexed.{open_at, passes}
use Rattle.lnfs_open.specs.Stopping.{opens_in, stopped_by}
use Rattle.lnfs_open.proofs.Runs.{run, is_member, members_run, any_filtered, walk_on, walk_ends, walk_out, walk_done}
use Rattle.lnfs_open.proofs.Sharings.{any-members}
use Rattle.lnfs_open.proofs.shares.Share.is_stopped_in.Goals.{then-ne-via-then-ne, then-ne-via-else-ne+then-place-layer}
use Rattle.lnfs_open.proofs.shares.Share.is_stopped_in.Goals as goal

pub loop-place-init : goal.loop-place-init
loop-place-init g c = λ told tells.
    let node = c.args.layer.node in
    let level = c.args.layer.level in
    let opens = opens_in c.args.rows.now in
    let entries = c.args.nodes.now.places.entries in
    let stops : Member × Unit {0} → Bool = λ e. passes (stopped_by c.args.self.now told) (open_at opens (id_of e.0.id)) in
    let found : run (is_member node level) c.into_iter-place-iterator.result ≡ filter (λ e. is_member node level e.0) entries =
    ap (run (is_member node level)) (c.into_iter-place-iterator.ensures.into_iter_gives ∙ c.range-place-items.ensures.between tt ∙ ap (λ (f : Member). entries_between place_cmp (Included f) Unbounded entries) c.first_of.ensures)
    ∙ members_run node level entries c.range-place-items.ensures.ordered in
    ap (list_any stops) found
    ∙ any_filtered (λ e. is_member node level e.0) stops entries
    ∙ any-members opens c.requires.found.rise c.args.nodes.now c.requires.found.grouped node level (stopped_by c.args.self.now told)

pub returns-then-ne : goal.returns-then-ne
returns-then-ne g c = λ told tells.
    let self = c.args.self.now in
    let node = c.args.layer.node in
    let level = c.args.layer.level in
    let opens = opens_in c.args.rows.now in
    let stops : Member × Unit {0} → Bool = λ e. passes (stopped_by self told) (open_at opens (id_of e.0.id)) in
    let place : Member = c.in-Some.place.now in
    let outside : is_member node level place ≡ false = elim c.then-ne.branch [
      | then-ne-via-then-ne w ↦ grind (arith, nat_tests, c.ne.ensures, w.if-ne.true)
      | then-ne-via-else-ne+then-place-layer w ↦ grind (arith, nat_tests, w.if-place-layer.true)
    ] in
    walk_out (is_member node level) stops c.loop-place.place-iterator _ (c.loop-place.invariant told tells) (place, tt) c.next.new.self c.in-Some.ensures.steps outside

pub returns-then-is_stopped_at : goal.returns-then-is_stopped_at
returns-then-is_stopped_at g c = λ told tells.
    let self = c.args.self.now in
    let node = c.args.layer.node in
    let level = c.args.layer.level in
    let opens = opens_in c.args.rows.now in
    let stops : Member × Unit {0} → Bool = λ e. passes (stopped_by self told) (open_at opens (id_of e.0.id)) in
    let place : Member = c.in-Some.place.now in
    let inside : is_member node level place ≡ true = grind (arith, nat_tests, c.ne.ensures, c.if-ne.false, c.if-place-layer.false) in
    let stops_here : stops (place, tt) ≡ true = sym (c.is_stopped_at.ensures told tells) ∙ c.if-is_stopped_at.true in
    walk_ends (is_member node level) stops (place, tt) c.next.new.self c.loop-place.place-iterator c.in-Some.ensures.steps inside _ (c.loop-place.invariant told tells) stops_here

pub loop-place-preserved : goal.loop-place-preserved
loop-place-preserved g c = λ told tells.
    let self = c.args.self.now in
    let node = c.args.layer.node in
    let level = c.args.layer.level in
    let opens = opens_in c.args.rows.now in
    let stops : Member × Unit {0} → Bool = λ e. passes (stopped_by self told) (open_at opens (id_of e.0.id)) in
    let place : Member = c.in-Some.place.now in
    let inside : is_member node level place ≡ true = grind (arith, nat_tests, c.ne.ensures, c.if-ne.false, c.if-place-layer.false) in
    let goes_on : stops (place, tt) ≡ false = sym (c.is_stopped_at.ensures told tells) ∙ c.if-is_stopped_at.false in
    walk_on (is_member node level) stops (place, tt) c.next.new.self c.loop-place.place-iterator c.in-Some.ensures.steps inside _ (c.loop-place.invariant told tells) goes_on

pub returns : goal.returns
returns g c = λ told tells.
    let self = c.args.self.now in
    let node = c.args.layer.node in
    let level = c.args.layer.level in
    let opens = opens_in c.args.rows.now in
    let stops : Member × Unit {0} → Bool = λ e. passes (stopped_by self told) (open_at opens (id_of e.0.id)) in
    walk_done (is_member node level) stops c.loop-place.place-iterator _ (c.loop-place.invariant told tells) c.in-None.ensures.steps.0
