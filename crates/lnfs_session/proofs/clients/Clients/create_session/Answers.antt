use Rattle.std.proofs.Common.{ap, subst, ◌∙◌, arith}
use Rattle.std.proofs.lemmas.Bool.Decides.{nat_tests}
use Rattle.lnfs_world.specs.World.{Client}
use Rattle.lnfs_world.specs.Outcome.{Outcome, done_to}
use Rattle.lnfs_operations.specs.Chain.{Answer}
use Rattle.lnfs_operations.specs.CreateSession.{Created}
use Rattle.lnfs_session.specs.Answers.{Answers}
use Rattle.lnfs_session.specs.Creates.{created_of}
use Rattle.lnfs_session.specs.Listed.{id_of, client_of}
use Rattle.lnfs_session.specs.Standing.{Lists, standing, lists_of}
use Rattle.lnfs_session.proofs.Answered.{unless_weaker}
use Rattle.lnfs_session.proofs.Creating.{is_next}
use Rattle.lnfs_session.proofs.clients.Clients.create_session.Goals as goal

pub returns-in-Next-clause-answer : goal.returns-in-Next-clause-answer
returns-in-Next-clause-answer c =
    let args = c.args.args.now in
    let lists : Lists = c.args.self.now in
    let id = c.client_named-id.result in
    let row : Client = client_of (id, c.in-Some.client.now) in
    let is = is_next args c.args.bytes.now _ lists c.args.level (id_of id) row c.sequence_before-last.result c.self.view_is c.in-Some.ensures c.client_named-id.ensures (grind (arith, nat_tests)) c.sequence_before-last.ensures c.in-Next.ensures in
    let P : Outcome (Answer Created) → Type 0 = λ o. Answers (created_of lists args) c.make_session.result o.answer in
    λ moment rest.
    subst P (is.makes moment rest)
    (c.make_session.ensures.answer moment rest row is.there)

pub returns-in-Next-clause-lists : goal.returns-in-Next-clause-lists
returns-in-Next-clause-lists c =
    let args = c.args.args.now in
    let lists : Lists = c.args.self.now in
    let id = c.client_named-id.result in
    let row : Client = client_of (id, c.in-Some.client.now) in
    let is = is_next args c.args.bytes.now _ lists c.args.level (id_of id) row c.sequence_before-last.result c.self.view_is c.in-Some.ensures c.client_named-id.ensures (grind (arith, nat_tests)) c.sequence_before-last.ensures c.in-Next.ensures in
    unless_weaker c.make_session.result (λ made_lists moment rest at.
    made_lists moment rest row at is.there
    ∙ ap (λ o. lists_of (done_to (standing rest lists) o)) (is.makes moment rest)) c.make_session.ensures.lists
