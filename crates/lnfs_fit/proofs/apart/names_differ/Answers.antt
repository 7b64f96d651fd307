use Rattle.std.proofs.Common.{◌≡◌, ◌+◌, true, false, sym, ap, ◌∙◌, subst, arith, take}
use Rattle.std.proofs.lemmas.List.{length-map}
use Rattle.std.proofs.lemmas.Bool.{false≢true, not-true, not-false}
use Rattle.std.specs.BTreeSet.{contains}
use Rattle.lnfs_world.specs.Rows.{Apart}
use Rattle.lnfs_world.specs.Facts.{same_name}
use Rattle.lnfs_fit.specs.Places.{nth_entry}
use Rattle.lnfs_rows.specs.Told.{entry_of}
use Rattle.lnfs_fit.specs.RowsOf.{entries_of}
use Rattle.lnfs_fit.specs.Keys.{Key, key_cmp, AreSeen}
use Rattle.lnfs_fit.proofs.Growth.{grown, apart_grown, clashes, so_far, one_more}
use Rattle.lnfs_fit.proofs.apart.names_differ.Goals as goal

pub returns-then-not-branch : goal.returns-then-not-branch
returns-then-not-branch c =
    let rows = c.args.entries.now in
    let t = c.loop-place.place in
    let d = c.dir_at-directory.result in
    let k : Key = (d.level, d.number, c.in_ok-name.name) in
    let e = nth_entry (entries_of rows) t in
    let level : e.directory.level ≡ k.0 = ap (λ i. i.level) (sym c.dir_at-directory.ensures) in
    let number : e.directory.number ≡ k.1 = ap (λ i. i.number) (sym c.dir_at-directory.ensures) in
    let name : e.name ≡ k.2.items = sym c.name_at.ensures ∙ sym c.in_ok-name.ensures.items in
    let there : contains key_cmp c.loop-place.seen k ≡ true = not-false _ (sym c.in_ok-insert.ensures.added ∙ c.if-not-branch.true) in (
      λ never. absurd (false≢true never),
      λ apart. absurd (clashes k e level number name (take t (entries_of rows)) c.loop-place.seen c.loop-place.invariant.seen there
          (subst (Apart same_name) (one_more (entries_of rows) t (omega (arith, length-map rows entry_of, c.loop-place-test.true))) (so_far (entries_of rows) (t + 1) apart))),
    )

pub loop-place-preserved : goal.loop-place-preserved
loop-place-preserved c =
    let rows = c.args.entries.now in
    let t = c.loop-place.place in
    let d = c.dir_at-directory.result in
    let k : Key = (d.level, d.number, c.in_ok-name.name) in
    let e = nth_entry (entries_of rows) t in
    let level : e.directory.level ≡ k.0 = ap (λ i. i.level) (sym c.dir_at-directory.ensures) in
    let number : e.directory.number ≡ k.1 = ap (λ i. i.number) (sym c.dir_at-directory.ensures) in
    let name : e.name ≡ k.2.items = sym c.name_at.ensures ∙ sym c.in_ok-name.ensures.items in
    let fresh : contains key_cmp c.loop-place.seen k ≡ false = not-true _ (sym c.in_ok-insert.ensures.added ∙ c.if-not-branch.false) in
    let more = sym (one_more (entries_of rows) t (omega (arith, length-map rows entry_of, c.loop-place-test.true))) in
    record {
      apart = subst (Apart same_name) more (apart_grown k e level number name (take t (entries_of rows)) c.loop-place.seen c.loop-place.invariant.seen fresh c.loop-place.invariant.apart);
      seen = subst (AreSeen c.insert.new.self) more (grown k e level number name (take t (entries_of rows)) c.loop-place.seen c.loop-place.invariant.seen c.insert.new.self c.in_ok-insert.ensures.updates.0);
    }
