use Rattle.std.proofs.Common.{sym, ◌∙◌, arith}
use Rattle.lnfs_site.proofs.Readings.{site_read}
use Rattle.lnfs_site.proofs.site.Site.read_label.Goals as goal

pub returns : goal.returns
returns c =
    let p = c.self.inside.policy.now in
    c.read.ensures
    ∙ site_read c.formats.ensures.read_back c.formats.ensures.written_back p c.args.self.now c.self.inside.labels.now
    (c.site.ensures.labels p.text p c.law_policy.ensures) (c.site.ensures.formats p.text p c.law_policy.ensures)
    c.self.invariant c.self.view_is (sym c.is_limited.ensures ∙ c.if-is_limited.false) c.args.lfs c.args.pi c.args.bytes.now (λ k. omega (arith, c.type_inv.bytes k))
