-- What the code's values of a request stand for.
use Rattle.std.specs.Prelude.{◌≡◌, ◌≤◌, length, Some, option_map}
use Rattle.lnfs_format.specs.declared.formats.TheConstants.{MAX_SPELLING}
use Rattle.lnfs_operations.specs.Sizes.{IsRead}
use Rattle.lnfs_step.specs.Request as request
use Rattle.lnfs_step.specs.Request.{Request}
use Rattle.lnfs_step.specs.Wrapping as wrapping
use Rattle.lnfs_vault.specs.declared.request.Request as code
use Rattle.lnfs_vault.specs.declared.request.Request.TheVariants as asked
use Rattle.lnfs_vault.specs.declared.request.Task as task_code
use Rattle.lnfs_vault.specs.declared.request.Task.TheVariants as task
use Rattle.lnfs_vault.specs.declared.request.Call as call_code
use Rattle.lnfs_vault.specs.declared.request.InContext as context_code
use Rattle.lnfs_vault.specs.declared.request.Wrapping as wrapping_code
use Rattle.lnfs_vault.specs.declared.request.Wrapping.TheVariants as wrappings
use Rattle.lnfs_vault.specs.declared.request.Cause as cause_code
use Rattle.lnfs_vault.specs.declared.request.Cause.TheVariants as cause

abbrev pub seen_cause : cause_code.Cause → wrapping.Cause
seen_cause (cause.Caller stat) = wrapping.caller stat
seen_cause (cause.Called stat) = wrapping.called stat
seen_cause cause.Version = wrapping.version

abbrev pub seen_wrapping : wrapping_code.Wrapping → wrapping.Wrapping
seen_wrapping wrappings.Plain = wrapping.Plain
seen_wrapping (wrappings.Signed parent header sequence) = wrapping.Signed parent.now header.now sequence

abbrev pub seen_context : context_code.InContext → request.InContext
seen_context c = record { parent = c.parent; number = c.number }

abbrev pub seen_call : call_code.Call → request.Call
seen_call c = record { level = c.level.0; xid = c.xid; wrapping = seen_wrapping c.wrapping; context = option_map seen_context c.context }

abbrev pub seen_task : task_code.Task → request.Task
seen_task task.Garbled = request.Garbled
seen_task (task.Run r) = request.Run r.arguments.now r.compound
seen_task (task.MakeContext c) = request.MakeContext c.parent (record { lfs = c.lfs; pi = c.pi; label = c.label })
seen_task (task.EndContext c) = request.EndContext c.number

abbrev pub seen_asked : code.Request → Request
seen_asked asked.Silent = request.Silent
seen_asked (asked.Refused xid w c) = request.Refused xid (seen_wrapping w) (seen_cause c)
seen_asked (asked.Nothing xid) = request.Nothing xid
seen_asked (asked.Asked c t) = request.Asked (seen_call c) (seen_task t)

-- A COMPOUND was read, and a label that is asserted has at most as many bytes as a spelling.
abbrev pub IsTask : request.Task → Type 0
IsTask request.Garbled = Unit {0}
IsTask (request.Run arguments c) = IsRead c
IsTask (request.MakeContext parent assertion) = length assertion.label ≤ MAX_SPELLING
IsTask (request.EndContext number) = Unit {0}

abbrev pub IsAsked : Request → Type 0
IsAsked request.Silent = Unit {0}
IsAsked (request.Refused xid w c) = Unit {0}
IsAsked (request.Nothing xid) = Unit {0}
IsAsked (request.Asked c t) = IsTask t

-- what is run has at most 32 operations, and ends no context
abbrev pub IsBrief : task_code.Task → Type 0
IsBrief (task.Run r) = length r.compound.ops ≤ 32
IsBrief (task.EndContext c) = ⊥
IsBrief _ = Unit {0}

-- A COMPOUND that is run has at most 32 operations, and a context that ends is the one that the call comes in.
abbrev pub HasForm : call_code.Call → task_code.Task → Type 0
HasForm call (task.Run r) = length r.compound.ops ≤ 32
HasForm call (task.EndContext c) = call.context ≡ Some c
HasForm call _ = Unit {0}

abbrev pub IsFormed : code.Request → Type 0
IsFormed (asked.Asked call t) = HasForm call t
IsFormed _ = Unit {0}
