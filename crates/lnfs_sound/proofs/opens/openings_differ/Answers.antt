use Rattle.std.proofs.Common.{◌≡◌, ◌+◌, ◌<◌, true, false, length, sym, ap, ◌∙◌, subst, arith, take}
use Rattle.std.proofs.lemmas.List.{length-map, take_more}
use Rattle.std.proofs.lemmas.Bool.{false≢true, not-true, not-false}
use Rattle.std.specs.BTreeSet.{contains}
use Rattle.lnfs_world.specs.Rows.{Apart}
use Rattle.lnfs_world.specs.Facts.{same_opening}
use Rattle.lnfs_rows.specs.Told.{open_of}
use Rattle.lnfs_fit.proofs.Keyed.{so_far}
use Rattle.lnfs_sound.specs.Keys.{Opening, opening_cmp, AreOpenings}
use Rattle.lnfs_sound.specs.RowsOf.{opens_of, no_open, nth_open}
use Rattle.lnfs_sound.proofs.KeyGrowth.{openings_grown, openings_apart, openings_clash}
use Rattle.lnfs_sound.proofs.opens.openings_differ.Goals as goal

pub returns-then-not-branch : goal.returns-then-not-branch
returns-then-not-branch c =
    let rows = opens_of c.args.rows.now in
    let t = c.loop-place.place in
    let x = nth_open rows t in
    let id = c.id_at-id.result in
    let node = c.node_at-node.result in
    let k : Opening = (id.level, c.client_at-client.result, node.level, node.number, c.in_ok-owner.owner) in
    let level : x.id.level ≡ k.0 = ap (λ i. i.level) (sym c.id_at-id.ensures) in
    let client : x.client ≡ k.1 = sym c.client_at-client.ensures in
    let node_level : x.node.level ≡ k.2 = ap (λ i. i.level) (sym c.node_at-node.ensures) in
    let node_number : x.node.number ≡ k.3 = ap (λ i. i.number) (sym c.node_at-node.ensures) in
    let owner : x.owner ≡ k.4.items = sym c.owner_at.ensures ∙ sym c.in_ok-owner.ensures.items in
    let less : t < length rows = omega (arith, length-map c.args.rows.now open_of, c.loop-place-test.true) in
    let more = take_more rows t no_open less in
    let there : contains opening_cmp c.loop-place.seen k ≡ true = not-false _ (sym c.in_ok-insert.ensures.added ∙ c.if-not-branch.true) in (
      λ never. absurd (false≢true never),
      λ apart. absurd (openings_clash k x level client node_level node_number owner (take t rows) c.loop-place.seen c.loop-place.invariant.seen there (subst (Apart same_opening) more (so_far same_opening rows (t + 1) apart))),
    )

pub loop-place-preserved : goal.loop-place-preserved
loop-place-preserved c =
    let rows = opens_of c.args.rows.now in
    let t = c.loop-place.place in
    let x = nth_open rows t in
    let id = c.id_at-id.result in
    let node = c.node_at-node.result in
    let k : Opening = (id.level, c.client_at-client.result, node.level, node.number, c.in_ok-owner.owner) in
    let level : x.id.level ≡ k.0 = ap (λ i. i.level) (sym c.id_at-id.ensures) in
    let client : x.client ≡ k.1 = sym c.client_at-client.ensures in
    let node_level : x.node.level ≡ k.2 = ap (λ i. i.level) (sym c.node_at-node.ensures) in
    let node_number : x.node.number ≡ k.3 = ap (λ i. i.number) (sym c.node_at-node.ensures) in
    let owner : x.owner ≡ k.4.items = sym c.owner_at.ensures ∙ sym c.in_ok-owner.ensures.items in
    let less : t < length rows = omega (arith, length-map c.args.rows.now open_of, c.loop-place-test.true) in
    let more = take_more rows t no_open less in
    let fresh : contains opening_cmp c.loop-place.seen k ≡ false = not-true _ (sym c.in_ok-insert.ensures.added ∙ c.if-not-branch.false) in
    record {
      apart = subst (Apart same_opening) (sym more) (openings_apart k x level client node_level node_number owner (take t rows) c.loop-place.seen c.loop-place.invariant.seen fresh c.loop-place.invariant.apart);
      seen = subst (AreOpenings c.insert.new.self) (sym more) (openings_grown k x level client node_level node_number owner (take t rows) c.loop-place.seen c.loop-place.invariant.seen c.insert.new.self c.in_ok-insert.ensures.updates.0);
    }
