use Rattle.std.proofs.Common.{◌≡◌, ◌∙◌, [], ℕ, List, ap, refl, sym, subst, arith, length}
use Rattle.std.specs.Prelude.{All}
use Rattle.lnfs_types.specs.Moments.{Fits}
use Rattle.lnfs_types.specs.declared.event.Event.{Event}
use Rattle.lnfs_history.specs.Entries.{of}
use Rattle.lnfs_workers.specs.Transcripts.{entries_of}
use Rattle.lnfs_workers.specs.Lines.{lines_in, lines_of}
use Rattle.lnfs_workers.specs.Served.{telling}
use Rattle.lnfs_workers.specs.Links.{IsServed, Waits}
use Rattle.lnfs_workers.specs.Pairs.{EachAt}
use Rattle.lnfs_workers.specs.declared.line.LinkEnd.{LinkEnd}
use Rattle.lnfs_workers.proofs.Dealt.{dealt_all, each_of_all}
use Rattle.lnfs_workers.proofs.Seats.{waits_empty, all_served}
use Rattle.lnfs_workers.proofs.pool.serve_seated.Goals as goal

pub serve_hands-requires-clause-entries : goal.serve_hands-requires-clause-entries
serve_hands-requires-clause-entries g c κs within =
    let links = c.args.links.now.value.items in
    dealt_all (λ hand. hand.items) (Waits {B = g.row.B.Denot} links) (λ one. one.place.entries ≡ []) (length links) (length c.args.hands.items)
    (waits_empty {B = g.row.B.Denot} links) 0 c.args.hands.items c.requires.hands

pub settle-requires-clause-some : goal.settle-requires-clause-some
settle-requires-clause-some g c =
    let tell = telling g.L.Source.left g.L.Sink.taken g.L.Source.read_faults g.L.Sink.write_faults in
    let served = all_served {B = g.row.B.Denot} c.args.links.now.value.items tell (g.C.Clock.may c.args.clock.now) (λ hand. hand.items) (λ hand. hand.items) c.args.hands.items c.in_ok-done.done.items c.requires.hands c.in_ok-done.ensures in
    omega (arith, served.0, c.requires.some)

pub settle-requires-clause-hands : goal.settle-requires-clause-hands
settle-requires-clause-hands g c =
    let tell = telling g.L.Source.left g.L.Sink.taken g.L.Source.read_faults g.L.Sink.write_faults in
    (all_served {B = g.row.B.Denot} c.args.links.now.value.items tell (g.C.Clock.may c.args.clock.now) (λ hand. hand.items) (λ hand. hand.items) c.args.hands.items c.in_ok-done.done.items c.requires.hands c.in_ok-done.ensures).1

pub returns-clause-ends : goal.returns-clause-ends
returns-clause-ends g c =
    let links = c.args.links.now.value.items in
    let settled = c.in_ok-books.ensures in
    let ends = c.in_ok-books.field-0.ends.items in
    let tell = telling g.L.Source.left g.L.Sink.taken g.L.Source.read_faults g.L.Sink.write_faults in
    let may = g.C.Clock.may c.args.clock.now in
    let U = λ (journal : List Event) (n : ℕ) (link : ℕ × g.row.L.Denot) (end : LinkEnd g.row.L.Denot). IsServed tell may link.0 link.1 end (of n (entries_of g.X.ExtraRows.extra g.M.Mechanism.signing g.B.Room.policy journal)) in
    let journal : c.into_inner.result.books.journal ≡ c.from_parts-vault.result.journal = ap (λ b. b.journal) (sym settled.books) ∙ sym c.from_parts-vault.ensures.journal in
    subst (λ (j : List Event). EachAt (U j) 0 links ends) journal
    (each_of_all (U c.into_inner.result.books.journal) 0 [] links ends refl settled.count settled.ends)

pub returns-clause-policy : goal.returns-clause-policy
returns-clause-policy g c = c.from_parts-vault.ensures.policy ∙ c.requires.site

pub returns-clause-others : goal.returns-clause-others
returns-clause-others g c = λ link le.
    let settled = c.in_ok-books.ensures in
    let journal : c.into_inner.result.books.journal ≡ c.from_parts-vault.result.journal = ap (λ b. b.journal) (sym settled.books) ∙ sym c.from_parts-vault.ensures.journal in
    ap (λ (j : List Event). of link (entries_of g.X.ExtraRows.extra g.M.Mechanism.signing g.B.Room.policy j)) (sym journal) ∙ settled.others link le

pub returns-clause-lines : goal.returns-clause-lines
returns-clause-lines g c =
    let settled = c.in_ok-books.ensures in
    let journal : c.into_inner.result.books.journal ≡ c.from_parts-vault.result.journal = ap (λ b. b.journal) (sym settled.books) ∙ sym c.from_parts-vault.ensures.journal in
    ap (λ l. lines_in l.items) settled.lines
    ∙ c.into_inner.result.said
    ∙ ap (λ (j : List Event). lines_of g.X.ExtraRows.extra g.M.Mechanism.signing g.B.Room.policy j) journal

pub returns-clause-fits : goal.returns-clause-fits
returns-clause-fits g c =
    let settled = c.in_ok-books.ensures in
    let journal : c.into_inner.result.books.journal ≡ c.from_parts-vault.result.journal = ap (λ b. b.journal) (sym settled.books) ∙ sym c.from_parts-vault.ensures.journal in
    subst (λ (j : List Event). All Fits j) journal settled.fits
