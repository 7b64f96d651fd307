-- What the code's questions ask, and its verdicts.
use Rattle.std.specs.Prelude.{ℕ, Bool, map, if◌then◌else◌}
use Rattle.lnfs_monitor.specs.declared.question.Question.{Question}
use Rattle.lnfs_monitor.specs.declared.question.Question.TheVariants as questions
use Rattle.lnfs_monitor.specs.declared.question.Verdict.{Verdict}
use Rattle.lnfs_monitor.specs.declared.question.Verdict.TheVariants.{Allow, Deny}
use Rattle.lnfs_monitor.specs.Rules.{Asks, Read, Write, Change, Child, Raise, Drop, Deny as DenyOthers, Home, Own, allows, rule_of}

abbrev pub asked : Question → Asks
asked (questions.Read label) = Read label.0
asked (questions.Write label) = Write label.0
asked (questions.Change dir) = Change dir.0
asked (questions.Child dir child) = Child dir.0 child.0
asked (questions.Raise old parents new) = Raise old.0 (map (λ parent. parent.0) parents.now) new.0
asked (questions.Drop child) = Drop child.0
asked (questions.Deny label) = DenyOthers label.0
asked (questions.Home home) = Home home.0
asked (questions.Own level) = Own level.0

abbrev pub verdict : (ℕ → ℕ → Bool) → (subject : ℕ) → Asks → Verdict
verdict dom s asks = if allows dom s asks then Allow else Deny (rule_of asks)
