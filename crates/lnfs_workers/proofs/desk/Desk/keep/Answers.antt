use Rattle.std.proofs.Common.{◌++◌, ◌∷◌, [], sym, ap, subst, ◌∙◌}
use Rattle.std.specs.Prelude.{All}
use Rattle.std.proofs.lemmas.List.Elements.{All-push}
use Rattle.lnfs_types.specs.Moments.{Fits}
use Rattle.lnfs_history.specs.Entries.{entry}
use Rattle.lnfs_workers.specs.Transcripts.{entries_of}
use Rattle.lnfs_workers.specs.Lines.{lines_in, lines_of}
use Rattle.lnfs_workers.proofs.Journals.{entries_push, said_more}
use Rattle.lnfs_workers.proofs.desk.Desk.keep.Goals as goal

pub invariant_of-self : goal.invariant_of-self
invariant_of-self g c =
    let X = g.X.ExtraRows.extra in
    let m = g.M.Mechanism.signing in
    let p = g.B.Room.policy in
    let now = c.args.self.now in
    let e = c.args.event in
    let added = c.add_entry-place.ensures.keeper in
    let kept = c.keep.ensures in
    record {
      site = ap (λ k. k.policy) kept ∙ now.site;
      told = ap (λ k. k.log) added
          ∙ (λ i. now.told i ++ entry e (c.requires.reply i) ∷ [])
          ∙ sym (entries_push X m p now.books.journal e)
          ∙ sym (ap (λ v. entries_of X m p v.journal) kept);
      said = ap lines_in c.put_line.ensures
          ∙ said_more X m p now.books.journal e now.notes.lines.items c.args.line now.said c.requires.line
          ∙ sym (ap (λ v. lines_of X m p v.journal) kept);
      whole = ap (λ k. k.made) added ∙ now.whole;
      fits = subst (λ v. All Fits v.journal) (sym kept) (All-push Fits now.books.journal e now.fits c.requires.event);
    }
