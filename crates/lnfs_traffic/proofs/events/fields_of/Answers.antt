use Rattle.std.proofs.Common.{Err, ap, ◌∙◌}
use Rattle.std.proofs.lemmas.Result.{err_from_is_err_and}
use Rattle.lnfs_traffic.proofs.Few.{few_size, few_message}
use Rattle.lnfs_traffic.proofs.events.fields_of.Goals as goal

pub returns-in_err-size-clause-few : goal.returns-in_err-size-clause-few
returns-in_err-size-clause-few c =
    let p = err_from_is_err_and c.from_residual-in_err-size.result c.from_residual-in_err-size.ensures.1 in
    rw (p.1, p.2) (λ short. few_size _ _ _ _ _ _ _ _ _ c.in_ok-class.ensures.0 c.in_ok-link.ensures.0 c.in_ok-secs.ensures.0 c.in_ok-nanos.ensures.0 (c.in_err-size.ensures.0 ∙ ap Err short))

pub returns-in_err-message-clause-few : goal.returns-in_err-message-clause-few
returns-in_err-message-clause-few c =
    let p = err_from_is_err_and c.from_residual-in_err-message.result c.from_residual-in_err-message.ensures.1 in
    rw (p.1, p.2) (λ short. few_message _ _ _ _ _ _ _ _ _ c.in_ok-class.ensures.0 c.in_ok-link.ensures.0 c.in_ok-secs.ensures.0 c.in_ok-nanos.ensures.0 _ _ _ c.in_ok-size.ensures.0 c.in_err-message.ensures.0)
