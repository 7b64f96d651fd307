use Rattle.std.proofs.Common.{ℕ, not, sym, ap, ◌∙◌, subst}
use Rattle.std.specs.Prelude.{filter}
use Rattle.std.specs.Option.{option_map}
use Rattle.lnfs_world.specs.World.{Id, Open, same_id}
use Rattle.lnfs_tree.specs.Changed.{gone_of}
use Rattle.lnfs_files.specs.Charges.{AreBytesHeld, IsLess}
use Rattle.lnfs_engine.specs.Counts.{IsHeld, WentFrom}
use Rattle.lnfs_engine.specs.Stores.{opens_without}
use Rattle.lnfs_engine.proofs.Counting.{many_counts}
use Rattle.lnfs_engine.proofs.going.take_gone.Goals as goal

pub returns-in_default-clause-opens : goal.returns-in_default-clause-opens
returns-in_default-clause-opens c = ap (λ g. opens_without (option_map gone_of g) c.args.opens.now) (sym c.in_default.is)

pub returns-in_default-clause-counts : goal.returns-in_default-clause-counts
returns-in_default-clause-counts c = λ before after counts went.
    many_counts c.args.quota.now before after counts (subst (λ g. WentFrom (option_map gone_of g) before after) c.in_default.is went)

pub credit-requires : goal.credit-requires
credit-requires c =
    let rows = c.args.quota.now in
    let d = c.in-Some.dropped in
    let held = subst (λ g. IsHeld rows (option_map gone_of g)) c.in-Some.is c.requires.held in
    record { node = held.0; bytes = subst (λ (b : ℕ). AreBytesHeld rows d.label.0 b) (sym c.gone_bytes-bytes.ensures) held.1 }

pub returns-clause-opens : goal.returns-clause-opens
returns-clause-opens c =
    let s = c.args.opens.now in
    c.drop_node.ensures
    ∙ ap (λ (i : Id). record s { opens = filter (λ (o : Open). not (same_id i o.node)) s.opens }) c.key_of.ensures
    ∙ ap (λ g. opens_without (option_map gone_of g) s) (sym c.in-Some.is)

pub returns-clause-counts : goal.returns-clause-counts
returns-clause-counts c = λ before after counts went.
    let d = c.in-Some.dropped in
    c.credit.ensures.counts before after counts
    (subst (λ (b : ℕ). IsLess d.node.home.0 d.label.0 b before after) (sym c.gone_bytes-bytes.ensures) (subst (λ g. WentFrom (option_map gone_of g) before after) c.in-Some.is went))
