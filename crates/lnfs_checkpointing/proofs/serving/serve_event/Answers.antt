use Rattle.std.proofs.Common.{rules, ◌∙◌, List, ap, subst, unwrap_or, []}
use Rattle.lnfs_stage.specs.Writes.{Write}
use Rattle.lnfs_stage.specs.Due.{written}
use Rattle.lnfs_stage.specs.Does.{Does}
use Rattle.lnfs_stage.proofs.Doing.{does_short}
use Rattle.lnfs_commands.proofs.Lines.{line_is}
use Rattle.lnfs_checkpointing.specs.Servings.{got_of}
use Rattle.lnfs_checkpointing.proofs.Served.{behind_one, on_ok, shown_is}
use Rattle.lnfs_checkpointing.proofs.serving.serve_event.Goals as goal

pub returns-in_err-served-clause-does : goal.returns-in_err-served-clause-does
returns-in_err-served-clause-does g c = does_short _ _ (search rules)

pub returns-in_err-line-clause-does : goal.returns-in_err-line-clause-does
returns-in_err-line-clause-does g c = does_short _ _ (search rules)

pub returns-clause-does : goal.returns-clause-does
returns-clause-does g c =
    subst (λ (ws : List Write). Does c.show.result (g.O.Outside.seen c.args.outside.now) (g.O.Outside.seen c.show.new.outside) (written ws))
    (shown_is c.args.shown (got_of c.args.server.now c.args.event) c.in_ok-served.ensures.reply (c.deref.ensures.value ∙ c.in_ok-line.ensures ∙ ap (λ l. unwrap_or l []) (line_is _ _ _ c.in_ok-served.ensures.line))) c.show.ensures

pub returns-clause-behind : goal.returns-clause-behind
returns-clause-behind g c = on_ok c.show.result (behind_one c.in_ok-served.ensures.policy c.in_ok-served.ensures.events c.in_ok-served.ensures.state)
