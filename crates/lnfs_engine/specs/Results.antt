-- The results of the operations that make a session and stand in it, by the code's values.
use Rattle.std.specs.Prelude.{ℕ, None}
use Rattle.lnfs_arguments.specs.declared.channel.Channel.{Channel}
use Rattle.lnfs_arguments.specs.declared.types.CreateSession.{CreateSession}
use Rattle.lnfs_arguments.specs.declared.types.Sequence.{Sequence}
use Rattle.lnfs_results.specs.declared.types.OpResult.{OpResult}
use Rattle.lnfs_results.specs.declared.types.OpResult.TheVariants as results
use Rattle.lnfs_arguments.specs.Identifiers.{session_id}

-- a session of a level, with what was granted, and the back channel as it was asked
abbrev pub created_result : ℕ → CreateSession → ℕ → Channel → OpResult
created_result level args session granted = results.CreateSession (session_id level session) args.sequence 0 granted (record args.back { ird = None })

abbrev pub sequence_result : Sequence → ℕ → OpResult
sequence_result args highest = results.Sequence args.session args.sequence args.slot highest highest 0
