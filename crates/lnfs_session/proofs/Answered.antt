-- What holds of an answer unless memory was wanting.
use Rattle.std.proofs.Common.{Result, Ok, Err}
use Rattle.lnfs_session.specs.declared.clients.SessionError.{SessionError}
use Rattle.lnfs_session.specs.declared.clients.SessionError.TheVariants.{Status, Memory}
use Rattle.lnfs_session.specs.Answers.{UnlessMemory}

pub unless_weaker : {S P Q : Type 0} (r : Result S SessionError) → (P → Q) → UnlessMemory r P → UnlessMemory r Q
unless_weaker (Ok x) f h = f h
unless_weaker (Err (Status code foreign)) f h = f h
unless_weaker (Err Memory) f h = tt
