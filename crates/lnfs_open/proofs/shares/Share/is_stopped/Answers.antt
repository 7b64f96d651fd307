use Rattle.std.proofs.Common.{◌≡◌, ◌&&◌, Bool, true, false, option_map, sym, ap, ◌∙◌, arith}
use Rattle.std.specs.Prelude.{filter}
use Rattle.std.specs.List.{list_any}
use Rattle.std.specs.declared.ops.Bound.TheVariants.{Included, Unbounded}
use Rattle.std.specs.BTreeMap.Range.{entries_between}
use Rattle.std.proofs.lemmas.Bool.Decides.{nat_tests}
use Rattle.lnfs_world.proofs.Keys.{id_same}
use Rattle.lnfs_calipso.specs.Label.{dom_of}
use Rattle.lnfs_open.specs.declared.tallies.Layer.{Layer}
use Rattle.lnfs_open.specs.declared.tallies.Tally.{Tally}
use Rattle.lnfs_open.specs.Listed.{id_of, owner_of}
use Rattle.lnfs_open.specs.Tallies.{layer_cmp, in_layer}
use Rattle.lnfs_open.specs.Stopping.{opens_in, stopped_by, may_stop}
use Rattle.lnfs_open.proofs.Runs.{run, is_of_node, layers_run, any_filtered, walk_on, walk_ends, walk_out, walk_done}
use Rattle.lnfs_open.proofs.Sharings.{any-layers}
use Rattle.lnfs_open.proofs.Certain.{certain}
use Rattle.lnfs_open.proofs.shares.Share.is_stopped.Goals as goal

pub loop-layer-init : goal.loop-layer-init
loop-layer-init g c = λ told tells.
    let self = c.args.self.now in
    let node = c.args.node in
    let opens = opens_in c.args.rows.now in
    let entries = c.args.tallies.now.layers.entries in
    let stops : Layer × Tally → Bool = λ e. may_stop self e.0.level e.1 && list_any (λ o. in_layer (id_of node) e.0.level o && stopped_by self told o) opens in
    let found : run (is_of_node node) c.into_iter-layer-iterator.result ≡ filter (λ e. is_of_node node e.0) entries =
    ap (run (is_of_node node)) (c.into_iter-layer-iterator.ensures.into_iter_gives ∙ c.range-layer-items.ensures.between tt ∙ ap (λ (f : Layer). entries_between layer_cmp (Included f) Unbounded entries) c.lowest.ensures)
    ∙ layers_run node entries c.range-layer-items.ensures.ordered in
    ap (list_any stops) found
    ∙ any_filtered (λ e. is_of_node node e.0) stops entries
    ∙ any-layers opens c.requires.found.rise c.args.tallies.now c.requires.tallied node (may_stop self) (stopped_by self told)
    (certain opens c.requires.found.rise (dom_of self.lattice.now) self.subject.0 (option_map owner_of self.own) self.access self.deny told)

pub returns-then-is_stopped_among : goal.returns-then-is_stopped_among
returns-then-is_stopped_among g c = λ told tells.
    let self = c.args.self.now in
    let node = c.args.node in
    let opens = opens_in c.args.rows.now in
    let stops : Layer × Tally → Bool = λ e. may_stop self e.0.level e.1 && list_any (λ o. in_layer (id_of node) e.0.level o && stopped_by self told o) opens in
    let layer : Layer = c.in-Some.layer.now in
    let inside : is_of_node node layer ≡ true = grind (arith, nat_tests, c.ne.ensures, c.if-ne.false) in
    let same : id_of node ≡ id_of layer.node = id_same (id_of node) (id_of layer.node) inside in
    let stops_here : stops (layer, c.in-Some.tally.now) ≡ true = ap (λ n. may_stop self layer.level c.in-Some.tally.now && list_any (λ o. in_layer n layer.level o && stopped_by self told o) opens) same ∙ sym (c.is_stopped_among.ensures told tells) ∙ c.if-is_stopped_among.true in
    walk_ends (is_of_node node) stops (layer, c.in-Some.tally.now) c.next.new.self c.loop-layer.layer-iterator c.in-Some.ensures.steps inside _ (c.loop-layer.invariant told tells) stops_here

pub loop-layer-preserved : goal.loop-layer-preserved
loop-layer-preserved g c = λ told tells.
    let self = c.args.self.now in
    let node = c.args.node in
    let opens = opens_in c.args.rows.now in
    let stops : Layer × Tally → Bool = λ e. may_stop self e.0.level e.1 && list_any (λ o. in_layer (id_of node) e.0.level o && stopped_by self told o) opens in
    let layer : Layer = c.in-Some.layer.now in
    let inside : is_of_node node layer ≡ true = grind (arith, nat_tests, c.ne.ensures, c.if-ne.false) in
    let same : id_of node ≡ id_of layer.node = id_same (id_of node) (id_of layer.node) inside in
    let stops_here : stops (layer, c.in-Some.tally.now) ≡ false = ap (λ n. may_stop self layer.level c.in-Some.tally.now && list_any (λ o. in_layer n layer.level o && stopped_by self told o) opens) same ∙ sym (c.is_stopped_among.ensures told tells) ∙ c.if-is_stopped_among.false in
    walk_on (is_of_node node) stops (layer, c.in-Some.tally.now) c.next.new.self c.loop-layer.layer-iterator c.in-Some.ensures.steps inside _ (c.loop-layer.invariant told tells) stops_here

pub returns-then-ne : goal.returns-then-ne
returns-then-ne g c = λ told tells.
    let self = c.args.self.now in
    let node = c.args.node in
    let opens = opens_in c.args.rows.now in
    let stops : Layer × Tally → Bool = λ e. may_stop self e.0.level e.1 && list_any (λ o. in_layer (id_of node) e.0.level o && stopped_by self told o) opens in
    let layer : Layer = c.in-Some.layer.now in
    let outside : is_of_node node layer ≡ false = grind (arith, nat_tests, c.ne.ensures, c.if-ne.true) in
    walk_out (is_of_node node) stops c.loop-layer.layer-iterator _ (c.loop-layer.invariant told tells) (layer, c.in-Some.tally.now) c.next.new.self c.in-Some.ensures.steps outside

pub returns : goal.returns
returns g c = λ told tells.
    let self = c.args.self.now in
    let node = c.args.node in
    let opens = opens_in c.args.rows.now in
    let stops : Layer × Tally → Bool = λ e. may_stop self e.0.level e.1 && list_any (λ o. in_layer (id_of node) e.0.level o && stopped_by self told o) opens in
    walk_done (is_of_node node) stops c.loop-layer.layer-iterator _ (c.loop-layer.invariant told tells) c.in-None.ensures.steps.0
