use Rattle.std.proofs.Common.{◌≡◌, Bool, true, false, not, List, ℕ, Bor, ◌∙◌, refl}
use Rattle.std.specs.Prelude.{Option, Some, None, is_some}
use Rattle.std.specs.Option.{option_copied}
use Rattle.lnfs_words.specs.Words.{is_empty, parts_of}
use Rattle.lnfs_words.proofs.Splits.{not_done}
use Rattle.lnfs_words.proofs.parts.Parts.is_done.Goals as goal

-- no part is left where no text is
done : (s : ℕ) (rest : Option (Bor (List ℕ))) (b : Bool) → is_some rest ≡ not b → b ≡ is_empty (parts_of s (option_copied rest))
done s None true e = refl
done s None false e = e
done s (Some text) false e = not_done s text.now
done s (Some text) true e = e ∙ not_done s text.now

pub returns : goal.returns
returns c = rw (← c.self.view_is) (done c.self.inside.separator c.self.inside.rest c.is_none.result c.is_none.ensures)
