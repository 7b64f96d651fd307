use Rattle.std.proofs.Common.{refl, subst, ◌∙◌, ℕ, ◌+◌, arith}
use Rattle.std.specs.Prelude.{◌<◌}
use Rattle.lnfs_world.specs.World.{last_of}
use Rattle.lnfs_world.specs.Effects.{next_id}
use Rattle.lnfs_open.specs.Listed.{client_id, node_id}
use Rattle.lnfs_open.specs.Opening.{Wish}
use Rattle.lnfs_files.specs.Passing.{Passes, Fails}
use Rattle.lnfs_files.proofs.Passing.{passes, failed_leaves}
use Rattle.lnfs_files.proofs.present.open_past.Goals as goal

pub returns-in-Ok-clause-opened : goal.returns-in-Ok-clause-opened
returns-in-Ok-clause-opened g c = λ told tells.
    let opener = c.args.opener.now in
    let s = c.args.opens.now in
    let mid = c.open.new.self in
    let node = node_id c.args.node in
    let wish : ℕ → Wish = λ access. record { client = client_id opener.client; owner = opener.args.now.owner.now; node = node; access = access; deny = opener.args.now.deny } in
    let past : c.last_number-last.result < last_of opener.client.level.0 s.lasts + 1 = grind (arith, c.last_number-last.ensures.value) in
    let fresh = c.last_number-last.ensures.most (next_id s.lasts opener.client.level.0) refl past in
    subst (λ (access : ℕ). Passes (wish access) told s c.revoke.new.self c.in-Ok.id) c.share-share.ensures
    (mid, (c.in-Ok.ensures, c.revoke.ensures told tells ∙ passes s (wish c.share-share.result) told mid c.law_order.ensures fresh c.in-Ok.id c.in-Ok.ensures))

pub returns-in-Err-clause-refused : goal.returns-in-Err-clause-refused
returns-in-Err-clause-refused g c =
    let opener = c.args.opener.now in
    let wish : ℕ → Wish = λ access. record { client = client_id opener.client; owner = opener.args.now.owner.now; node = node_id c.args.node; access = access; deny = opener.args.now.deny } in
    subst (λ (access : ℕ). Fails (wish access) c.args.opens.now c.open.new.self c.in-Err.error) c.share-share.ensures c.in-Err.ensures

pub returns-in-Err-clause-kept : goal.returns-in-Err-clause-kept
returns-in-Err-clause-kept g c = failed_leaves c.args.opens.now c.open.new.self _ c.in-Err.error c.in-Err.ensures
