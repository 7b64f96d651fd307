use Rattle.std.proofs.lemmas.Result.{err_from_is_err_and}
use Rattle.std.specs.Option.{option_copied}
use Rattle.lnfs_client.proofs.Turned.{idle_is, refused, goes}
use Rattle.lnfs_client.proofs.turning.succeed.Goals as goal

pub returns-in_err-judge : goal.returns-in_err-judge
returns-in_err-judge g c =
    let p = err_from_is_err_and c.from_residual.result c.from_residual.ensures.1 in
    rw (p.1, p.2) (refused c.args.policy.now c.args.known.now c.args.running c.args.results.now c.in_err-judge.field-0.0 c.requires.idle c.in_err-judge.ensures)

pub returns-in_err-keep : goal.returns-in_err-keep
returns-in_err-keep g c =
    let p = err_from_is_err_and c.from_residual-in_err-keep.result c.from_residual-in_err-keep.ensures.1 in
    rw (p.1, p.2) (idle_is c.args.known.now c.requires.idle)

pub returns : goal.returns
returns g c = goes c.args.policy.now c.args.known.now c.move_on.new.known c.args.running c.keep.new.running c.args.results.now (option_copied c.last.result) c.move_on.result c.in_ok-judge.ensures c.in_ok-keep.ensures c.last.ensures.value c.move_on.ensures
