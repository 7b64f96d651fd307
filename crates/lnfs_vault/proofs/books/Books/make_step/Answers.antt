use Rattle.std.proofs.Common.{arith, length, ◌+◌, ◌≡◌, [], ◌∷◌, ◌++◌, ℕ, List, Option, sym, ap, ◌∙◌, subst}
use Rattle.std.specs.Prelude.{IfSome, ◌≤◌}
use Rattle.lnfs_types.specs.declared.limits.TheConstants.{RECORD_LIMIT}
use Rattle.lnfs_policy.specs.Policy.{Policy}
use Rattle.lnfs_policy.specs.PolicyText.{IsPolicy}
use Rattle.lnfs_world.specs.Both.{both}
use Rattle.lnfs_step.specs.Step.{step_with}
use Rattle.lnfs_step.specs.Journal.{IsKept, first_state, state_after, reply_with, line_with}
use Rattle.lnfs_step.proofs.Steps.{state_from-append}
use Rattle.lnfs_vault.specs.Pieces.{Held}
use Rattle.lnfs_vault.specs.Lines.{IsLineOf}
use Rattle.lnfs_vault.specs.Sealed.{sealed_of}
use Rattle.lnfs_vault.proofs.Keeping.{quiet, is_line}
use Rattle.lnfs_vault.proofs.books.Books.make_step.Goals as goal

pub make_step-requires-clause-kept : goal.make_step-requires-clause-kept
make_step-requires-clause-kept g c = λ running.
    let X = g.X.ExtraRows.extra in
    let m = g.M.Mechanism.signing in
    let p = c.self.inside.site.value in
    let journal = c.self.inside.journal.items in
    let b = both c.self.inside.stand.engine.store (g.X.ExtraRows.rows c.self.inside.stand.engine.extra) in
    let site : p ≡ c.args.site.now = ap (λ k. k.policy) c.self.view_is ∙ sym c.requires.site in
    let was = quiet X m p b journal (λ s. s.value) c.self.inside.pending (sym c.is_some.ensures ∙ c.if-is_some.false) (c.self.invariant.0 running) in
    let spelled : IsPolicy p = subst IsPolicy (c.policy.ensures ∙ sym site) c.law_policy.ensures in
    subst (λ (q : Policy). IsKept X q b) site (subst (IsKept X p) (sym was) (c.purge.ensures.kept p spelled journal))

pub returns-clause-reply : goal.returns-clause-reply
unfolding reply_with
returns-clause-reply g c =
    let X = g.X.ExtraRows.extra in
    let m = g.M.Mechanism.signing in
    let e = c.args.event.now in
    let p = c.self.inside.site.value in
    let b = both c.self.inside.stand.engine.store (g.X.ExtraRows.rows c.self.inside.stand.engine.extra) in
    let site : p ≡ c.args.site.now = ap (λ k. k.policy) c.self.view_is ∙ sym c.requires.site in
    let was = quiet X m p b c.self.inside.journal.items (λ s. s.value) c.self.inside.pending (sym c.is_some.ensures ∙ c.if-is_some.false) (c.self.invariant.0 c.if-self.false) in
    subst (λ (k : Held). sealed_of m c.in_ok-said.said.unsealed ≡ (step_with X m k.policy (state_after X m k.policy k.journal) e).reply) c.self.view_is
    (c.in_ok-said.ensures.says.reply ∙ (λ i. (step_with X m (sym site i) (was i) e).reply))

pub returns-clause-line : goal.returns-clause-line
unfolding line_with
returns-clause-line g c =
    let X = g.X.ExtraRows.extra in
    let m = g.M.Mechanism.signing in
    let e = c.args.event.now in
    let p = c.self.inside.site.value in
    let b = both c.self.inside.stand.engine.store (g.X.ExtraRows.rows c.self.inside.stand.engine.extra) in
    let site : p ≡ c.args.site.now = ap (λ k. k.policy) c.self.view_is ∙ sym c.requires.site in
    let was = quiet X m p b c.self.inside.journal.items (λ s. s.value) c.self.inside.pending (sym c.is_some.ensures ∙ c.if-is_some.false) (c.self.invariant.0 c.if-self.false) in
    subst (λ (k : Held). IsLineOf (length k.journal + 1) (step_with X m k.policy (state_after X m k.policy k.journal) e).line c.in_ok-said.said.line) c.self.view_is
    (is_line _ _ _ _ _ (omega arith) (λ i. (step_with X m (sym site i) (was i) e).line) c.in_ok-said.ensures.says.line)

pub returns-clause-short : goal.returns-clause-short
unfolding reply_with
returns-clause-short g c =
    let X = g.X.ExtraRows.extra in
    let m = g.M.Mechanism.signing in
    let e = c.args.event.now in
    let p = c.self.inside.site.value in
    let journal = c.self.inside.journal.items in
    let b = both c.self.inside.stand.engine.store (g.X.ExtraRows.rows c.self.inside.stand.engine.extra) in
    let site : p ≡ c.args.site.now = ap (λ k. k.policy) c.self.view_is ∙ sym c.requires.site in
    let was = quiet X m p b journal (λ s. s.value) c.self.inside.pending (sym c.is_some.ensures ∙ c.if-is_some.false) (c.self.invariant.0 c.if-self.false) in
    let spelled : IsPolicy p = subst IsPolicy (c.policy.ensures ∙ sym site) c.law_policy.ensures in
    subst (λ (reply : Option (List ℕ)). IfSome reply (λ bytes. length bytes ≤ RECORD_LIMIT))
    (sym (c.in_ok-said.ensures.says.reply ∙ (λ i. (step_with X m (sym site i) (was i) e).reply)))
    (c.purge.ensures.short p spelled journal e)

pub invariant_of-self-2 : goal.invariant_of-self-2
invariant_of-self-2 g c =
    let X = g.X.ExtraRows.extra in
    let m = g.M.Mechanism.signing in
    let rows = g.X.ExtraRows.rows in
    let e = c.args.event.now in
    let p = c.self.inside.site.value in
    let journal = c.self.inside.journal.items in
    let b = both c.self.inside.stand.engine.store (rows c.self.inside.stand.engine.extra) in
    let site : p ≡ c.args.site.now = ap (λ k. k.policy) c.self.view_is ∙ sym c.requires.site in
    let was = quiet X m p b journal (λ s. s.value) c.self.inside.pending (sym c.is_some.ensures ∙ c.if-is_some.false) (c.self.invariant.0 c.if-self.false) in
    let now : both c.make_step.new.self.engine.store (rows c.make_step.new.self.engine.extra) ≡ state_after X m p (journal ++ e ∷ []) =
    c.in_ok-said.ensures.says.stands ∙ (λ i. (step_with X m (sym site i) (was i) e).state) ∙ sym (state_from-append X m p (first_state X p) journal e) in (
      λ running. now ∙ (λ i. state_after X m p (sym c.reserve.ensures.items i ++ sym c.of.ensures i ∷ [])),
      λ some. omega (arith, c.in_ok-reserve.ensures.ok, c.in_ok-reserve.ensures.len),
    )
