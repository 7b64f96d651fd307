use Rattle.std.proofs.lemmas.List.Elements.{All-weaker}
use Rattle.lnfs_script.specs.Fits.{ActionFits, ActionSuits, IsOfLine}
use Rattle.lnfs_script.proofs.Said.{IsLine, read_is}
use Rattle.lnfs_script.proofs.laws.scripts.Goals as goal

pub returns-clause-fits : goal.returns-clause-fits
returns-clause-fits c = λ p text s e. All-weaker (IsLine p) ActionFits (λ asked h. h.fits) s.actions (read_is p text s e).lines

pub returns-clause-suits : goal.returns-clause-suits
returns-clause-suits c = λ p text s e. All-weaker (IsLine p) (ActionSuits p) (λ asked h. h.suits) s.actions (read_is p text s e).lines

pub returns-clause-of_lines : goal.returns-clause-of_lines
returns-clause-of_lines c = λ p text s e. All-weaker (IsLine p) IsOfLine (λ asked h. h.of_line) s.actions (read_is p text s e).lines

pub returns-clause-class : goal.returns-clause-class
returns-clause-class c = λ p text s e. (read_is p text s e).class

pub returns-clause-identity : goal.returns-clause-identity
returns-clause-identity c = λ p text s e. (read_is p text s e).identity
