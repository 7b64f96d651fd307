use Rattle.std.proofs.Common.{◌≡◌, ◌+◌, ◌<◌, true, false, length, sym, ap, ◌∙◌, subst, arith, take}
use Rattle.std.proofs.lemmas.List.{length-map, take_more}
use Rattle.std.proofs.lemmas.Bool.{false≢true, not-true, not-false}
use Rattle.std.specs.BTreeSet.{contains}
use Rattle.lnfs_world.specs.Rows.{Apart}
use Rattle.lnfs_world.specs.Facts.{are_rivals}
use Rattle.lnfs_rows.specs.Told.{client_of}
use Rattle.lnfs_fit.proofs.Keyed.{so_far}
use Rattle.lnfs_sound.specs.Keys.{Rival, rival_cmp, AreRivals, flag}
use Rattle.lnfs_sound.specs.RowsOf.{clients_of, no_client, nth_client}
use Rattle.lnfs_sound.proofs.KeyGrowth.{rivals_grown, rivals_apart, rivals_clash}
use Rattle.lnfs_sound.proofs.clients.rivals_differ.Goals as goal

pub returns-then-not-branch : goal.returns-then-not-branch
returns-then-not-branch c =
    let rows = clients_of c.args.rows.now in
    let t = c.loop-place.place in
    let x = nth_client rows t in
    let id = c.id_at-id.result in
    let k : Rival = (id.level, c.flag-confirmed.result, c.in_ok-owner.owner) in
    let level : x.id.level ≡ k.0 = ap (λ i. i.level) (sym c.id_at-id.ensures) in
    let confirmed : flag x.confirmed ≡ k.1 = ap flag (sym c.is_confirmed_at.ensures) ∙ sym c.flag-confirmed.ensures in
    let owner : x.owner ≡ k.2.items = sym c.owner_at.ensures ∙ sym c.in_ok-owner.ensures.items in
    let less : t < length rows = omega (arith, length-map c.args.rows.now client_of, c.loop-place-test.true) in
    let more = take_more rows t no_client less in
    let there : contains rival_cmp c.loop-place.seen k ≡ true = not-false _ (sym c.in_ok-insert.ensures.added ∙ c.if-not-branch.true) in (
      λ never. absurd (false≢true never),
      λ apart. absurd (rivals_clash k x level confirmed owner (take t rows) c.loop-place.seen c.loop-place.invariant.seen there (subst (Apart are_rivals) more (so_far are_rivals rows (t + 1) apart))),
    )

pub loop-place-preserved : goal.loop-place-preserved
loop-place-preserved c =
    let rows = clients_of c.args.rows.now in
    let t = c.loop-place.place in
    let x = nth_client rows t in
    let id = c.id_at-id.result in
    let k : Rival = (id.level, c.flag-confirmed.result, c.in_ok-owner.owner) in
    let level : x.id.level ≡ k.0 = ap (λ i. i.level) (sym c.id_at-id.ensures) in
    let confirmed : flag x.confirmed ≡ k.1 = ap flag (sym c.is_confirmed_at.ensures) ∙ sym c.flag-confirmed.ensures in
    let owner : x.owner ≡ k.2.items = sym c.owner_at.ensures ∙ sym c.in_ok-owner.ensures.items in
    let less : t < length rows = omega (arith, length-map c.args.rows.now client_of, c.loop-place-test.true) in
    let more = take_more rows t no_client less in
    let fresh : contains rival_cmp c.loop-place.seen k ≡ false = not-true _ (sym c.in_ok-insert.ensures.added ∙ c.if-not-branch.false) in
    record {
      apart = subst (Apart are_rivals) (sym more) (rivals_apart k x level confirmed owner (take t rows) c.loop-place.seen c.loop-place.invariant.seen fresh c.loop-place.invariant.apart);
      seen = subst (AreRivals c.insert.new.self) (sym more) (rivals_grown k x level confirmed owner (take t rows) c.loop-place.seen c.loop-place.invariant.seen c.insert.new.self c.in_ok-insert.ensures.updates.0);
    }
