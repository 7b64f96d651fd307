use Rattle.std.proofs.Common.{◌≡◌, Option, None, sym, ap, ◌∙◌, subst}
use Rattle.lnfs_world.specs.World.{Open}
use Rattle.lnfs_open.specs.Lists.{Lists}
use Rattle.lnfs_open.specs.Listed.{client_id, node_id}
use Rattle.lnfs_world.specs.Opens.{joined}
use Rattle.lnfs_open.specs.Opening.{Wish, own_open, rows_set, opened_by, Does}
use Rattle.lnfs_open.proofs.Joining.{none_joined}
use Rattle.lnfs_open.proofs.opens.Opens.«open».Goals as goal

pub returns : goal.returns
returns c =
    let s = c.args.self.now in
    let wish : Wish = record { client = client_id c.args.client; owner = c.args.owner.now; node = node_id c.args.node; access = c.args.access; deny = c.args.deny } in
    let none : own_open s wish ≡ None = none_joined c.args.access c.args.deny (own_open s wish) c.in_default.ensures.answer in
    let stays : c.join.new.self ≡ s = c.in_default.ensures.lists ∙ ap (λ (x : Option Open). record s { opens = rows_set (joined c.args.access c.args.deny) x s.opens }) none in
    subst (λ (x : Option Open). Does (opened_by s wish x) s c.add.new.self c.add.result) (sym none)
    (subst (λ (k : Lists). Does (opened_by k wish None) k c.add.new.self c.add.result) stays c.add.ensures)
