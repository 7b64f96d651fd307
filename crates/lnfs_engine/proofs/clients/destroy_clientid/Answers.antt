use Rattle.std.proofs.Common.{List, sym, ap, ◌∙◌}
use Rattle.std.specs.List.{list_any}
use Rattle.lnfs_arguments.specs.declared.types.Op.TheVariants as ops
use Rattle.lnfs_results.specs.declared.types.OpResult.TheVariants as results
use Rattle.lnfs_world.specs.World.{Id, Open}
use Rattle.lnfs_world.specs.Change.{is_open_of}
use Rattle.lnfs_world.specs.Outcome.{begins_at}
use Rattle.lnfs_operations.specs.DestroyClientId.{destroy_clientid}
use Rattle.lnfs_operations.specs.Identifiers.{client_named}
use Rattle.lnfs_operations.specs.Served.{Reply, Nowhere, success, reply_of}
use Rattle.lnfs_session.specs.Standing.{standing}
use Rattle.lnfs_session.specs.Answers.{nothing_of}
use Rattle.lnfs_engine.proofs.Own.{destroy_clientid_own}
use Rattle.lnfs_engine.proofs.Acting.{not_memory, refused_as, acts}
use Rattle.lnfs_engine.proofs.clients.destroy_clientid.Goals as goal

abbrev told : Unit {0} → Reply
told _ = success results.DestroyClientId Nowhere

pub returns-in-Ok : goal.returns-in-Ok
returns-in-Ok c = λ site sent moment rest same.
    let p = begins_at c.args.level moment in
    let w = standing rest c.args.clients.now in
    let named = c.key_of.ensures ∙ c.client_named.ensures in
    let known = c.any_of-has_opens.ensures ∙ ap (λ (i : Id). list_any (is_open_of i) c.args.opens.now.opens) named ∙ ap (λ (opens : List Open). list_any (is_open_of (client_named c.args.client)) opens) (sym same) in
    acts rest rest.opens c.args.clients.now c.destroy_clientid.new.self (destroy_clientid c.args.client p w) _ p _ (destroy_clientid_own c.args.level moment w c.args.client)
    (ap (reply_of (ops.DestroyClientId c.args.client) told) (sym (c.in-Ok.ensures.answer moment rest known)))
    (c.in-Ok.ensures.lists moment rest known)

pub returns-in_ok-refused_by-in-Err : goal.returns-in_ok-refused_by-in-Err
returns-in_ok-refused_by-in-Err c = λ site sent moment rest same.
    let p = begins_at c.args.level moment in
    let w = standing rest c.args.clients.now in
    let why = c.in_ok-refused_by-in-Err.field-0 in
    let is = c.in_ok-refused_by-in-Err.ensures in
    let named = c.key_of.ensures ∙ c.client_named.ensures in
    let known = c.any_of-has_opens.ensures ∙ ap (λ (i : Id). list_any (is_open_of i) c.args.opens.now.opens) named ∙ ap (λ (opens : List Open). list_any (is_open_of (client_named c.args.client)) opens) (sym same) in
    acts rest rest.opens c.args.clients.now c.destroy_clientid.new.self (destroy_clientid c.args.client p w) _ p _ (destroy_clientid_own c.args.level moment w c.args.client)
    (refused_as nothing_of (ops.DestroyClientId c.args.client) told _ c.in-Err.error why is (c.in-Err.ensures.answer moment rest known))
    (not_memory (Unit {0}) c.in-Err.error why is c.in-Err.ensures.lists moment rest known)
