use Rattle.std.proofs.Common.{sym, subst}
use Rattle.lnfs_site.specs.Site.{site_of}
use Rattle.lnfs_fit.specs.RowsOf.{AreIdsOf}
use Rattle.lnfs_sound.specs.RowsOf.{contexts_of}
use Rattle.lnfs_sound.proofs.OfContexts.{to_contexts, contexts_given}
use Rattle.lnfs_sound.proofs.contexts.are_contexts.Goals as goal

pub returns : goal.returns
returns c =
    let contexts = contexts_of c.args.rows.now in
    let are = subst (AreIdsOf (λ x. x.id) contexts) (sym c.deref.ensures.value) c.in_ok-ids.ensures in (
      λ fit. to_contexts (site_of c.args.site.now) c.args.last.now contexts c.deref.result.now are (c.ids_fit.ensures.0 fit),
      λ sound. c.ids_fit.ensures.1 (contexts_given (site_of c.args.site.now) c.args.last.now contexts c.deref.result.now are sound),
    )
