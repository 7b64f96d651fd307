-- What the code says of a further operation that ran.
use Rattle.std.specs.Prelude.{ℕ, List, option_map}
use Rattle.lnfs_operations.specs.Extra.{Said, After}
use Rattle.lnfs_operations.specs.Extra as operations
use Rattle.lnfs_tree.specs.Rows.{id_of}
use Rattle.lnfs_engine.specs.declared.extra.ExtraRan.{ExtraRan}
use Rattle.lnfs_engine.specs.declared.extra.Spot.{Spot}
use Rattle.lnfs_engine.specs.declared.further.FurtherOp.{FurtherOp}
use Rattle.lnfs_nodes.specs.Trees.{refusal_of}

abbrev pub said_of : ExtraRan → Said
said_of ran = record { refusal = option_map refusal_of ran.refusal; bytes = ran.bytes }

abbrev pub spot_of : Spot → operations.Spot
spot_of at = record {
  subject = at.subject.0;
  moment = at.moment;
  client = at.client;
  current = option_map id_of at.current;
  saved = option_map id_of at.saved;
}

abbrev pub after_of : {S : Type 0} → ExtraRan → Spot → S → After S
after_of ran at state = record { said = said_of ran; current = option_map id_of at.current; saved = option_map id_of at.saved; state = state }

-- the number and the arguments
abbrev pub asked_of : FurtherOp → ℕ × List ℕ
asked_of asked = (asked.number, asked.args.now)
