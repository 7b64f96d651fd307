-- The long text of a label: its DOI, its sensitivity and its compartments, between slashes.
use Rattle.std.specs.Prelude.{ℕ, ◌-◌, ◌^◌, List, [], ◌∷◌, ◌++◌, Option, Some, None, option_and_then, codes, if◌then◌else◌}
use Rattle.std.specs.Fmt.{decimal}
use Rattle.std.specs.Str.{bytes_eq}
use Rattle.lnfs_words.specs.Words.{split, slash, three_of}
use Rattle.lnfs_words.specs.Numbers.{number, number_up_to}
use Rattle.lnfs_calipso.specs.Label.{Label}
use Rattle.lnfs_format.specs.Text.{comps_text}
use Rattle.lnfs_format.specs.Reading.{bare, reads_comps, short}

-- `-` where there is no compartment, and otherwise their maximal runs
abbrev pub comps_word : List ℕ → List ℕ
comps_word [] = codes "-"
comps_word (c ∷ comps) = comps_text (c ∷ comps)

unfoldable pub long_of : Label → List ℕ
long_of label = decimal label.doi ++ slash ∷ decimal label.sens ++ slash ∷ comps_word label.comps

-- the label of a DOI and a sensitivity whose compartments a word tells
unfoldable pub label_with : (doi sens : ℕ) → List ℕ → Option Label
label_with doi sens word = if bytes_eq word (codes "-") then Some (bare doi sens) else reads_comps doi sens word

-- the label whose long text three words are
abbrev pub of_words : List ℕ × List ℕ × List ℕ → Option Label
of_words p =
    option_and_then (λ doi. option_and_then (λ sens. label_with doi sens p.2) (number_up_to 255 p.1)) (number p.0)

-- the label whose long text some bytes are
unfoldable pub reads_long : List ℕ → Option Label
reads_long bytes = option_and_then (λ text. option_and_then of_words (three_of (split slash text))) (short bytes)

-- the long text of a label, where it isn't too long
unfoldable pub writes_long : Label → Option (List ℕ)
writes_long label = short (long_of label)
