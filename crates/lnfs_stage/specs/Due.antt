-- What is due: writes, and then an ending, or none where all goes well.
use Rattle.std.specs.Prelude.{ℕ, List, [], ◌∷◌, ◌++◌}
use Rattle.std.specs.declared.option.Option.{Option}
use Rattle.std.specs.declared.option.Option.TheVariants.{Some, None}
use Rattle.lnfs_stage.specs.declared.ending.Ending.{Ending}
use Rattle.lnfs_stage.specs.declared.ending.Ending.TheVariants.{NoFile}
use Rattle.lnfs_stage.specs.Ending.{fault_line}
use Rattle.lnfs_stage.specs.Writes.{Write, to_audit}

pub record Due : Type 0 where
  pub writes : List Write
  pub ending : Option Ending

abbrev pub written : List Write → Due
written writes = record { writes = writes; ending = None }

abbrev pub ends : Ending → Due
ends ending = record { writes = []; ending = Some ending }

-- one thing, and then another, unless the first ends the run
abbrev pub follow : List Write → Option Ending → Due → Due
follow writes None next = record { writes = writes ++ next.writes; ending = next.ending }
follow writes (Some ending) next = record { writes = writes; ending = Some ending }

abbrev pub and_then : Due → Due → Due
and_then due next = follow due.writes due.ending next

-- where there is such a file
abbrev pub given : Option (List ℕ) → List ℕ → (List ℕ → Due) → Due
given None name next = ends (NoFile name)
given (Some text) name next = next text

-- with the line that tells the ending
abbrev pub line_for : List Write → Option Ending → Due
line_for writes None = record { writes = writes; ending = None }
line_for writes (Some ending) = record { writes = writes ++ to_audit (fault_line ending) ∷ []; ending = Some ending }

abbrev pub told : Due → Due
told due = line_for due.writes due.ending
