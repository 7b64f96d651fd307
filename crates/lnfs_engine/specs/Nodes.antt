-- What the code's answers of operations on nodes stand for.
use Rattle.std.specs.Prelude.{ℕ, List, Some, Result, Ok, Err}
use Rattle.lnfs_arguments.specs.declared.types.Op.{Op}
use Rattle.lnfs_results.specs.declared.types.OpResult.{OpResult}
use Rattle.lnfs_operations.specs.declared.Refusal.{Refusal}
use Rattle.lnfs_operations.specs.Served.{Keeper}
use Rattle.lnfs_tree.specs.declared.node.NodeId.{NodeId}
use Rattle.lnfs_engine.specs.declared.place.Place.{Place}
use Rattle.lnfs_engine.specs.declared.reply.Came.{Came}
use Rattle.lnfs_engine.specs.Replies.{IsBare, Says, own_of}

-- the result of what is told, or the refusal
abbrev pub told_as : {A : Type 0} → (A → OpResult) → Result A Refusal → Result OpResult Refusal
told_as told (Ok a) = Ok (told a)
told_as told (Err why) = Err why

-- how an operation ended of which nothing is told
abbrev pub bare_of : {A : Type 0} → Result A Refusal → Result (Unit {0}) Refusal
bare_of (Ok a) = Ok tt
bare_of (Err why) = Err why

-- what was appended by an operation that answers nothing behind its status, or is refused
abbrev pub SaysBare : (old new : List ℕ) → Op → Result (Unit {0}) Refusal → Came → Type 0
SaysBare old new op ended came = (told : OpResult) → IsBare op told → (begin : ℕ) (keeper : Keeper) → Says begin old new (own_of op keeper (told_as (λ it. told) ended)) came

-- what was found becomes the current file handle, or the saved one
abbrev pub goes_to : Place → Result NodeId Refusal → Place
goes_to p (Ok i) = record p { current = Some i }
goes_to p (Err why) = p

abbrev pub saves_as : Place → Result NodeId Refusal → Place
saves_as p (Ok i) = record p { saved = Some i }
saves_as p (Err why) = p
