use Rattle.lnfs_retries.proofs.Schedules.{acts_once, awaits_same}
use Rattle.lnfs_retries.proofs.Writers.{level_small, runs}
use Rattle.lnfs_retries.proofs.Twice.{sent_twice}
use Rattle.lnfs_slots.specs.OneClient.{before_all}
use Rattle.lnfs_retries.proofs.NoLevel.{never}
use Rattle.lnfs_retries.proofs.laws.acts_once.Goals as goal

pub returns : goal.returns
returns g c = let X = g.X.ExtraRows.extra in let owed = g.X.ExtraRows.lawful in let m = g.M.Mechanism.signing in let sized = g.M.Mechanism.sized in record {
  once = λ p lattice grammar accepts s may level served turns.
      let run = runs X grammar m sized accepts p s level may.words served in
      acts_once X owed grammar m sized p lattice s level (level_small X grammar m sized accepts p s level may.words served) may.known may.words.owner run.writes run.hears turns;
  awaited = λ p lattice grammar accepts s may level served turns.
      let run = runs X grammar m sized accepts p s level may.words served in
      awaits_same X owed grammar m sized p lattice s level (level_small X grammar m sized accepts p s level may.words served) may.known may.words.owner run.writes run.hears turns;
  none = λ p accepts s may level served turns.
      let never = never X m sized accepts p s level may.known may.words served in
      (never.acts (before_all X p) turns, never.once (before_all X p) turns);
  asks = λ p s level when. sent_twice X m p s level when s.who;
}
