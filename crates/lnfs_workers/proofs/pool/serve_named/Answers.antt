use Rattle.std.proofs.Common.{◌≡◌, ◌≤◌, ◌∙◌, ℕ, List, ap, sym, subst, length}
use Rattle.std.proofs.lemmas.Result.{IfOk-weaker}
use Rattle.lnfs_policy.specs.Policy.{Policy}
use Rattle.lnfs_history.specs.Entries.{of}
use Rattle.lnfs_workers.specs.Transcripts.{entries_of}
use Rattle.lnfs_workers.specs.Lines.{lines_of}
use Rattle.lnfs_workers.specs.Served.{telling}
use Rattle.lnfs_workers.specs.Links.{IsServed, Waits}
use Rattle.lnfs_workers.specs.Pairs.{EachAt}
use Rattle.lnfs_workers.proofs.Dealt.{Dealt}
use Rattle.lnfs_workers.proofs.pool.serve_named.Goals as goal

pub serve_seated-requires-clause-hands : goal.serve_seated-requires-clause-hands
serve_seated-requires-clause-hands g c κs within =
    let given : c.of-given.result.value.items ≡ c.args.links.items = ap (λ v. v.items) c.of-given.ensures in
    let count = c.in_ok-hands.ensures.count in
    subst (λ (x : List (ℕ × g.row.L.Denot) × ℕ). Dealt (λ hand. hand.items) (Waits {B = g.row.B.Denot} x.0) (length x.0) x.1 0 c.in_ok-hands.hands.items)
    (λ i. (sym given i, sym count i)) c.in_ok-hands.ensures.hands

pub returns-clause-ends : goal.returns-clause-ends
returns-clause-ends g c =
    let tell = telling g.L.Source.left g.L.Sink.taken g.L.Source.read_faults g.L.Sink.write_faults in
    let may = g.C.Clock.may c.args.clock.now in
    let given : c.of-given.result.value.items ≡ c.args.links.items = ap (λ v. v.items) c.of-given.ensures in
    IfOk-weaker c.serve_seated.result _ _
    (λ ended ends.
    subst (λ (x : List (ℕ × g.row.L.Denot) × Policy).
    EachAt (λ n link end. IsServed tell may link.0 link.1 end (of n (entries_of g.X.ExtraRows.extra g.M.Mechanism.signing x.1 ended.vault.journal))) 0 x.0 ended.ends.items)
    (λ i. (given i, c.requires.site i)) ends)
    c.serve_seated.ensures.ends

pub returns-clause-policy : goal.returns-clause-policy
returns-clause-policy g c =
    IfOk-weaker c.serve_seated.result _ _ (λ ended same. same ∙ c.requires.site) c.serve_seated.ensures.policy

pub returns-clause-others : goal.returns-clause-others
returns-clause-others g c =
    let extra = g.X.ExtraRows.extra in
    let signing = g.M.Mechanism.signing in
    IfOk-weaker c.serve_seated.result _ _
    (λ ended none link le.
    ap (λ (p : Policy). of link (entries_of extra signing p ended.vault.journal)) (sym c.requires.site)
    ∙ none link (subst (λ (k : ℕ). k ≤ link) (sym c.requires.count) le))
    c.serve_seated.ensures.others

pub returns-clause-lines : goal.returns-clause-lines
returns-clause-lines g c =
    let extra = g.X.ExtraRows.extra in
    let signing = g.M.Mechanism.signing in
    IfOk-weaker c.serve_seated.result _ _
    (λ ended lines. lines ∙ ap (λ (p : Policy). lines_of extra signing p ended.vault.journal) c.requires.site)
    c.serve_seated.ensures.lines

pub returns-clause-fits : goal.returns-clause-fits
returns-clause-fits g c = c.serve_seated.ensures.fits
