-- What a request that comes again gets.
use Rattle.std.specs.Prelude.{◌≡◌, ℕ, List, Some, None}
use Rattle.lnfs_operations.specs.Extra.{Extra}
use Rattle.lnfs_gss3.specs.Mechanism.{Signing}
use Rattle.lnfs_step.specs.Wrapping.{answer_text}
use Rattle.lnfs_step.specs.Request.{Call}
use Rattle.lnfs_step.specs.Journal.{state_after}
use Rattle.lnfs_step.specs.Sessions.{HasOrigin}
use Rattle.lnfs_vault.specs.Kept.{Kept}
use Rattle.lnfs_vault.specs.declared.vault.Served.{Served}

-- The result of the first time, which an event of the journal with the same arguments got, under its own
-- transaction and wrapped as its own call asks; nothing is refused, and the state stays.
pub record IsRetried (X : Extra) (m : Signing) (old new : Kept) (call : Call) (arguments first : List ℕ) (served : Served) : Type 0 where
  pub origin : HasOrigin X m old.policy old.journal call.level (record { arguments = arguments; reply = first })
  pub reply : served.reply ≡ Some (answer_text m call.wrapping call.xid first)
  pub line : served.line ≡ None
  pub state : state_after X m new.policy new.journal ≡ state_after X m old.policy old.journal
