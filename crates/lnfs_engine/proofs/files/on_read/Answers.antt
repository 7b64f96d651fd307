use Rattle.std.proofs.Common.{refl, sym, subst}
use Rattle.std.proofs.lemmas.Result.{IfOk-weaker}
use Rattle.lnfs_arguments.specs.declared.types.Op.{Op}
use Rattle.lnfs_arguments.specs.declared.types.Op.TheVariants as ops
use Rattle.lnfs_results.specs.declared.types.OpResult.{OpResult}
use Rattle.lnfs_world.specs.World.{World}
use Rattle.lnfs_operations.specs.Read.{Arguments, Data, read}
use Rattle.lnfs_nodes.specs.Writes.{Writes}
use Rattle.lnfs_world.specs.Outcome.{Place}
use Rattle.lnfs_results.specs.declared.types.OpResult.TheVariants as results
use Rattle.lnfs_files.specs.Worlds.{with_files}
use Rattle.lnfs_nodes.specs.Acts.{placed}
use Rattle.lnfs_engine.specs.Places.{place_of}
use Rattle.lnfs_engine.specs.Performs.{site_in}
use Rattle.lnfs_files.specs.Worlds.{with_opens}
use Rattle.lnfs_engine.specs.declared.place.Keeper as code
use Rattle.lnfs_engine.specs.declared.reply.Came.{Came}
use Rattle.lnfs_engine.specs.Replies.{SaysWritten}
use Rattle.lnfs_engine.specs.Performs.{sent_of, turn, Performs}
use Rattle.lnfs_engine.specs.Counts.{AreAsMany}
use Rattle.lnfs_files.specs.Leases.{Leases}
use Rattle.lnfs_engine.proofs.Told.{told_at}
use Rattle.lnfs_engine.proofs.Counting.{many_counts}
use Rattle.lnfs_engine.proofs.NamesCounts.{read_many}
use Rattle.lnfs_engine.proofs.OnNodes.{wrote_performs}
use Rattle.lnfs_engine.proofs.files.on_read.Goals as goal

abbrev result_of : Data → OpResult
result_of d = results.Read d.eof d.content

pub returns-clause-performs : goal.returns-clause-performs
returns-clause-performs g c =
    let r = c.args.request.now in
    let p = place_of c.args.place.now in
    let x = c.args.args.now in
    let args : Arguments = record { id = x.id.now; offset = x.offset; count = x.count } in
    let op = ops.Read x.id.now x.offset x.count in
    let t = c.args.tree.now in
    let u = c.read.new.tree in
    let s = c.args.opens.now in
    let mid = c.read.new.out in
    let answer = c.in_ok-answer in
    let Goal : Op → Came → Type 0 = λ o came. (keeper : code.Keeper) (rest : World) → Leases (goal.F-post g c.args.over.now) rest p.moment → Performs r.begin c.args.out.now c.wrote.new.out keeper keeper p (with_files rest u s) (turn (site_in r) (sent_of r) o p (with_files rest t s)) came in
    IfOk-weaker c.wrote.result _ (Goal c.args.op.now)
    (λ came more. subst (λ o. Goal o came) (sym c.requires.op) (λ keeper rest tells.
    let before = with_files rest t s in
    let after = with_files rest u s in
    wrote_performs result_of (λ d. refl) op r.begin c.args.out.now mid c.wrote.new.out keeper p before after (read (site_in r) args p before) answer.answer came
    (subst (λ (q : Place). Writes c.args.out.now mid result_of q before after (read (site_in r) args q before) answer.answer) c.caller_of-caller.ensures (answer.ensures.writes p rest (told_at _ rest p c.caller_of-caller.result c.caller_of-caller.ensures tells) refl))
    (subst (λ o. SaysWritten mid c.wrote.new.out o answer.answer came) c.requires.op more)))
    c.wrote.ensures

pub returns-clause-counts : goal.returns-clause-counts
returns-clause-counts g c = λ rows rest tells counts.
    let p = place_of c.args.place.now in
    let site = site_in c.args.request.now in
    let x = c.args.args.now in
    let args : Arguments = record { id = x.id.now; offset = x.offset; count = x.count } in
    let t = c.args.tree.now in
    let u = c.read.new.tree in
    let s = c.args.opens.now in
    let at : Place = placed p c.caller_of-caller.result in
    many_counts rows t.nodes u.nodes counts
    (subst (λ (w : World). AreAsMany t.nodes w.nodes) (sym (c.in_ok-answer.ensures.writes p rest (told_at _ rest p c.caller_of-caller.result c.caller_of-caller.ensures tells) refl).world) (read_many site at (with_opens rest s) t c.requires.facts args))
