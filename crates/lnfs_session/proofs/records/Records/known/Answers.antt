use Rattle.std.proofs.Common.{◌≡◌, true, false, Some, None, find, map, ap, sym, ◌∙◌, arith}
use Rattle.lnfs_world.specs.World.{Client}
use Rattle.lnfs_operations.specs.ExchangeId.{is_confirmed_as, others_of}
use Rattle.lnfs_session.specs.declared.levels.OwnerNumbers.{OwnerNumbers}
use Rattle.lnfs_session.specs.Listed.{client_of}
use Rattle.lnfs_session.specs.Levels.{without, last_at, records_at, numbers_at, lasts_of}
use Rattle.lnfs_session.specs.Records.{ClientLists}
use Rattle.lnfs_session.proofs.Indexed.{none_confirmed, find-verified, there_at, others-indexed}
use Rattle.lnfs_session.proofs.records.Records.known.Goals as goal

pub returns-in_default-clause-confirmed : goal.returns-in_default-clause-confirmed
returns-in_default-clause-confirmed c =
    let levels = c.self.inside.levels in
    let none = ap (λ (n : OwnerNumbers). n.confirmed) (sym c.numbers_at-numbers.ensures) ∙ c.in_default.is in
    sym (none_confirmed (map client_of c.self.inside.rows.entries) (lasts_of levels.entries) (last_at levels) (records_at levels) (numbers_at levels) c.self.invariant c.args.level c.args.owner.now c.args.verifier none)
    ∙ ap (λ (lists : ClientLists). find (is_confirmed_as c.args.level c.args.owner.now c.args.verifier) lists.clients) c.self.view_is

pub returns-in_default-client_at-clause-confirmed : goal.returns-in_default-client_at-clause-confirmed
returns-in_default-client_at-clause-confirmed c =
    let levels = c.self.inside.levels in
    let known = ap (λ (n : OwnerNumbers). n.confirmed) (sym c.numbers_at-numbers.ensures) ∙ c.in-Some.is in
    let there = there_at (map client_of c.self.inside.rows.entries) (lasts_of levels.entries) (last_at levels) (records_at levels) (numbers_at levels) c.self.invariant c.args.level c.args.owner.now true c.in-Some.number known in
    let none : None ≡ Some there.row = c.in_default-client_at.ensures ∙ there.found in
    absurd (cc)

pub returns-then-ne-clause-confirmed : goal.returns-then-ne-clause-confirmed
returns-then-ne-clause-confirmed c =
    let levels = c.self.inside.levels in
    let row : Client = client_of (record { level = c.args.level; number = c.in-Some.number }, c.in-Some-client_at.client.now) in
    let known = ap (λ (n : OwnerNumbers). n.confirmed) (sym c.numbers_at-numbers.ensures) ∙ c.in-Some.is in
    find-verified (map client_of c.self.inside.rows.entries) (lasts_of levels.entries) (last_at levels) (records_at levels) (numbers_at levels) c.self.invariant c.args.level c.args.owner.now c.args.verifier c.in-Some.number known row c.in-Some-client_at.ensures false (grind arith)
    ∙ ap (λ (lists : ClientLists). find (is_confirmed_as c.args.level c.args.owner.now c.args.verifier) lists.clients) c.self.view_is

pub returns-clause-confirmed : goal.returns-clause-confirmed
returns-clause-confirmed c =
    let levels = c.self.inside.levels in
    let row : Client = client_of (record { level = c.args.level; number = c.in-Some.number }, c.in-Some-client_at.client.now) in
    let known = ap (λ (n : OwnerNumbers). n.confirmed) (sym c.numbers_at-numbers.ensures) ∙ c.in-Some.is in
    find-verified (map client_of c.self.inside.rows.entries) (lasts_of levels.entries) (last_at levels) (records_at levels) (numbers_at levels) c.self.invariant c.args.level c.args.owner.now c.args.verifier c.in-Some.number known row c.in-Some-client_at.ensures true (grind arith)
    ∙ ap (λ (lists : ClientLists). find (is_confirmed_as c.args.level c.args.owner.now c.args.verifier) lists.clients) c.self.view_is

-- ---- the others

pub returns-in_default-clause-others : goal.returns-in_default-clause-others
returns-in_default-clause-others c =
    let levels = c.self.inside.levels in
    c.without-others.ensures
    ∙ (λ t. without (c.count.ensures t) (c.numbers_at-numbers.ensures t).pending)
    ∙ sym (others-indexed (map client_of c.self.inside.rows.entries) (lasts_of levels.entries) (last_at levels) (records_at levels) (numbers_at levels) c.self.invariant c.args.level c.args.owner.now)
    ∙ ap (λ (lists : ClientLists). others_of c.args.level c.args.owner.now lists.clients) c.self.view_is

pub returns-in_default-client_at-clause-others : goal.returns-in_default-client_at-clause-others
returns-in_default-client_at-clause-others c =
    let levels = c.self.inside.levels in
    c.without-others.ensures
    ∙ (λ t. without (c.count.ensures t) (c.numbers_at-numbers.ensures t).pending)
    ∙ sym (others-indexed (map client_of c.self.inside.rows.entries) (lasts_of levels.entries) (last_at levels) (records_at levels) (numbers_at levels) c.self.invariant c.args.level c.args.owner.now)
    ∙ ap (λ (lists : ClientLists). others_of c.args.level c.args.owner.now lists.clients) c.self.view_is

pub returns-then-ne-clause-others : goal.returns-then-ne-clause-others
returns-then-ne-clause-others c =
    let levels = c.self.inside.levels in
    c.without-others.ensures
    ∙ (λ t. without (c.count.ensures t) (c.numbers_at-numbers.ensures t).pending)
    ∙ sym (others-indexed (map client_of c.self.inside.rows.entries) (lasts_of levels.entries) (last_at levels) (records_at levels) (numbers_at levels) c.self.invariant c.args.level c.args.owner.now)
    ∙ ap (λ (lists : ClientLists). others_of c.args.level c.args.owner.now lists.clients) c.self.view_is

pub returns-clause-others : goal.returns-clause-others
returns-clause-others c =
    let levels = c.self.inside.levels in
    c.without-others.ensures
    ∙ (λ t. without (c.count.ensures t) (c.numbers_at-numbers.ensures t).pending)
    ∙ sym (others-indexed (map client_of c.self.inside.rows.entries) (lasts_of levels.entries) (last_at levels) (records_at levels) (numbers_at levels) c.self.invariant c.args.level c.args.owner.now)
    ∙ ap (λ (lists : ClientLists). others_of c.args.level c.args.owner.now lists.clients) c.self.view_is
