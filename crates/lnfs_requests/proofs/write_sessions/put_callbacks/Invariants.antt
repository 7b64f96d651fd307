use Rattle.std.proofs.Common.{◌≡◌, ◌++◌, length, take}
use Rattle.std.specs.List.{flat_map}
use Rattle.lnfs_xdr.specs.Canon.{word}
use Rattle.lnfs_requests.specs.Texts.{callback_text}
use Rattle.lnfs_requests.proofs.write_sessions.put_callbacks.Given as goal

abbrev pub invariant-loop-callback : goal.invariant-loop-callback
invariant-loop-callback l = l.out ≡ l.fn.out ++ word (length l.callbacks) ++ flat_map callback_text (take l.callback-index l.callbacks)
