use Rattle.std.proofs.Common.{refl, ap, sym, ◌∙◌, None, []}
use Rattle.lnfs_world.specs.World.{Node, World}
use Rattle.lnfs_world.specs.Outcome.{Place, begins_at}
use Rattle.lnfs_site.specs.Site.{site_of}
use Rattle.lnfs_operations.specs.declared.Refusal.{Refusal}
use Rattle.lnfs_operations.specs.Chain.{refuse}
use Rattle.lnfs_operations.specs.Create.{new_inner}
use Rattle.lnfs_operations.specs.Open.{Arguments, Opened}
use Rattle.lnfs_tree.specs.Rows.{kind_of}
use Rattle.lnfs_nodes.specs.Acts.{placed}
use Rattle.lnfs_nodes.proofs.Peeling.{err_checked}
use Rattle.lnfs_files.specs.Worlds.{with_files}
use Rattle.lnfs_files.specs.Openings.{args_of}
use Rattle.lnfs_files.proofs.Openable.{file_off, is_file, asks, there, to_shares, is_denied, to_undenied, not_there, in_way, out_of_way}
use Rattle.lnfs_files.proofs.sharing.check_openable.Goals as goal

pub returns-in_err-check_file-clause-checked : goal.returns-in_err-check_file-clause-checked
returns-in_err-check_file-clause-checked g c = λ p rest t n next tells holds.
    let at : Place = placed p c.args.caller.now in
    let why : Refusal = c.in_err-check_file.field-0.0 in
    file_off at n (there (site_of c.args.site.now) (args_of c.args.args.now) at (with_files rest t c.args.opens.now) c.args.client.number c.args.sized n next) why (c.in_err-check_file.ensures at n holds.tells.kind)
    ∙ sym (err_checked at c.from_residual.result (λ it. next) why c.from_residual.ensures.1)

pub returns-then-not-may_be_there-clause-checked : goal.returns-then-not-may_be_there-clause-checked
returns-then-not-may_be_there-clause-checked g c = λ p rest t n next tells holds.
    let at : Place = placed p c.args.caller.now in
    not_there (site_of c.args.site.now) (args_of c.args.args.now) at (with_files rest t c.args.opens.now) c.args.client.number c.args.sized n next (c.in_ok-check_file.ensures at n holds.tells.kind) (sym (c.may_be_there.ensures n holds.tells.verifier) ∙ c.if-not-may_be_there.true)
    ∙ ap (λ (r : Refusal). refuse {R = Opened} at r.gate r.status) (sym c.namespace.ensures)

pub returns-in_err-check_shared-clause-checked : goal.returns-in_err-check_shared-clause-checked
returns-in_err-check_shared-clause-checked g c = λ p rest t n next tells holds.
    let at : Place = placed p c.args.caller.now in
    let why : Refusal = c.in_err-check_shared.field-0.0 in
    let site = site_of c.args.site.now in
    let args : Arguments = args_of c.args.args.now in
    let w : World = with_files rest t c.args.opens.now in
    to_shares site args at w c.args.client.number c.args.sized n next _ holds.tells.label (c.in_ok-check_file.ensures at n holds.tells.kind) (sym (c.may_be_there.ensures n holds.tells.verifier) ∙ c.if-not-may_be_there.false)
    ∙ c.in_err-check_shared.ensures at (asks site args at w c.args.client.number c.args.sized n next)
    ∙ sym (err_checked at c.from_residual-in_err-check_shared.result (λ it. next) why c.from_residual-in_err-check_shared.ensures.1)

pub returns-in_err-check_asked-clause-checked : goal.returns-in_err-check_asked-clause-checked
returns-in_err-check_asked-clause-checked g c = λ p rest t n next tells holds.
    let at : Place = placed p c.args.caller.now in
    let why : Refusal = c.in_err-check_asked.field-0.0 in
    let site = site_of c.args.site.now in
    let args : Arguments = args_of c.args.args.now in
    let w : World = with_files rest t c.args.opens.now in
    is_denied site args at w c.args.client.number c.args.sized n next _ holds.tells.label (c.in_ok-check_file.ensures at n holds.tells.kind) (sym (c.may_be_there.ensures n holds.tells.verifier) ∙ c.if-not-may_be_there.false) (c.in_ok-check_shared.ensures at) why c.in_err-check_asked.ensures
    ∙ sym (err_checked at c.from_residual-in_err-check_asked.result (λ it. next) why c.from_residual-in_err-check_asked.ensures.1)

pub returns-then-has_conflict-clause-checked : goal.returns-then-has_conflict-clause-checked
returns-then-has_conflict-clause-checked g c = λ p rest t n next tells holds.
    let at : Place = placed p c.args.caller.now in
    let site = site_of c.args.site.now in
    let args : Arguments = args_of c.args.args.now in
    let w : World = with_files rest t c.args.opens.now in
    to_undenied site args at w c.args.client.number c.args.sized n next _ holds.tells.label (c.in_ok-check_file.ensures at n holds.tells.kind) (sym (c.may_be_there.ensures n holds.tells.verifier) ∙ c.if-not-may_be_there.false) (c.in_ok-check_shared.ensures at) c.in_ok-check_asked.ensures
    ∙ in_way site args at w c.args.client.number c.args.sized n next (sym (c.has_conflict.ensures p rest t n tells c.requires.level holds.id) ∙ c.if-has_conflict.true)

pub returns-clause-file : goal.returns-clause-file
returns-clause-file g c =
    let at : Place = begins_at 0 c.args.caller.now.moment in
    let n : Node = record { id = record { level = 0; number = 0 }; kind = kind_of c.args.held.now.facts.kind; label = 0; verifier = None; inner = new_inner at.moment None 0 [] } in
    is_file at n n.kind refl (c.in_ok-check_file.ensures at n refl)

pub returns-clause-checked : goal.returns-clause-checked
returns-clause-checked g c = λ p rest t n next tells holds.
    let at : Place = placed p c.args.caller.now in
    let site = site_of c.args.site.now in
    let args : Arguments = args_of c.args.args.now in
    let w : World = with_files rest t c.args.opens.now in
    to_undenied site args at w c.args.client.number c.args.sized n next _ holds.tells.label (c.in_ok-check_file.ensures at n holds.tells.kind) (sym (c.may_be_there.ensures n holds.tells.verifier) ∙ c.if-not-may_be_there.false) (c.in_ok-check_shared.ensures at) c.in_ok-check_asked.ensures
    ∙ out_of_way site args at w c.args.client.number c.args.sized n next (sym (c.has_conflict.ensures p rest t n tells c.requires.level holds.id) ∙ c.if-has_conflict.false)
