-- The labels of a policy are labels, its formats are formats, and dominance of its levels is a preorder.
use Rattle.std.proofs.Common.{◌≡◌, ◌<◌, ◌≤◌, ◌+◌, ◌^◌, ◌==◌, ℕ, zero, suc, Bool, true, false, not, ◌&&◌, List, [], ◌∷◌, ◌++◌, length, map, filter, nat_le, refl, sym, ap, subst, ◌∙◌, inl, inr, arith}
use Rattle.std.specs.Prelude.{Ok, Option, Some, None, option_map, All, find, codes}
use Rattle.std.specs.List.{list_any, filter_map, range_with_len}
use Rattle.std.proofs.lemmas.Bool.{cases_Bool, and_parts, ltb-true, leb-true, not-true}
use Rattle.std.proofs.lemmas.List.{length_push}
use Rattle.std.proofs.lemmas.List.Elements.{All-push, All-nil, All-head, All-tail}
use Rattle.lnfs_calipso.specs.Levels.{Apart, AreFirstLevels}
use Rattle.lnfs_calipso.specs.Label.{Label, IsLabel, IsPreorderWithBottom, has_comp, compartments, numbers_below, dom_of}
use Rattle.lnfs_calipso.proofs.Lattices.{preorder_of}
use Rattle.lnfs_format.specs.Reading.{bare, reads_comps}
use Rattle.lnfs_format.specs.Long.{label_with}
use Rattle.lnfs_format.specs.Laws.{IsFormat, IsComps}
use Rattle.lnfs_format.specs.Entries.{is_pair, pair_of}
use Rattle.lnfs_format.specs.Site.{AreFormats}
use Rattle.lnfs_format.specs.declared.formats.TheConstants.{MAX_SPELLING}
use Rattle.lnfs_format.specs.declared.formats.FormatEntry.{FormatEntry}
use Rattle.std.specs.Str.{bytes_eq}
use Rattle.lnfs_words.specs.Hex.{lower_hex_of}
use Rattle.lnfs_policy.specs.Line.{Line, level_line, format_line, name_line, line_of}
use Rattle.lnfs_policy.specs.Rows.{label_of, label_in, spelling_of, format_in, name_in, version_of, labels_of, rows_of, names_of, kind_of, entry_in, entries_of, formats_of}
use Rattle.lnfs_policy.specs.Fits.{fits, is_next, is_narrow, in_version, level_fits, name_fits, clashes, is_known, is_table}
use Rattle.lnfs_policy.specs.Policy.{Policy, dominance}
use Rattle.lnfs_policy.specs.PolicyText.{policy_of}
use Rattle.lnfs_policy.specs.declared.rows.Spelling.{Spelling}
use Rattle.lnfs_policy.specs.declared.rows.Spelling.TheVariants as spelling
use Rattle.lnfs_policy.specs.declared.rows.FormatRow.{FormatRow}
use Rattle.lnfs_policy.specs.declared.rows.LevelName.{LevelName}
use Rattle.lnfs_words.proofs.Decimals.{same_some}
use Rattle.lnfs_policy.specs.Spelled.{HasNumbers}
use Rattle.lnfs_policy.proofs.Kept.{lines_of}
use Rattle.lnfs_policy.proofs.Names.{Distinct, distinct_push, table}
use Rattle.lnfs_policy.proofs.Sound.{next_sound}
use Rattle.lnfs_policy.proofs.Spelled.{line_says}
use Rattle.lnfs_policy.proofs.Tables.{and_some, one_more}

-- the numbers of a line that its label or its format have
abbrev pub HasBounds : Line → Type 0
HasBounds (level_line place doi sens comps) = doi < 2 ^ 32
HasBounds (format_line lfs pi word) = pi < 2 ^ 32
HasBounds line = Unit {0}

bounds : (line : Line) → HasNumbers line → HasBounds line
bounds (level_line place doi sens comps) n = n.1
bounds (format_line lfs pi kind) n = n.1
bounds line n = tt

pub bounded : (words : List (List ℕ)) (line : Line) → line_of words ≡ Ok line → HasBounds line
bounded words line e = bounds line (line_says words line e).0

-- ---- labels

none_of : (n a : ℕ) → filter (has_comp []) (range_with_len a n) ≡ []
none_of zero a = refl
none_of (suc n) a = none_of n (a + 1)

no_comps : compartments (has_comp []) ≡ []
unfolding numbers_below
no_comps = none_of 1920 0

bare_is : (doi sens : ℕ) → doi < 2 ^ 32 → sens ≤ 255 → IsLabel (bare doi sens)
bare_is doi sens d s = record { doi = d; sens = omega arith; comps = sym no_comps }

no_some : {A : Type 0} (a : A) (o : Option A) → o ≡ None → o ≡ Some a → ⊥
no_some a None e f = cc
no_some a (Some b) e f = cc

abbrev IsReader : Type 0
IsReader = (doi sens : ℕ) → doi < 2 ^ 32 → sens < 256 → (bytes : List ℕ) (label : Label) → reads_comps doi sens bytes ≡ Some label → IsComps doi sens label bytes

label_is : IsReader → (doi sens : ℕ) (comps : List ℕ) (label : Label) → doi < 2 ^ 32 → label_of doi sens comps ≡ Some label → IsLabel label
unfolding label_of label_with
label_is reader doi sens comps label d e =
    elim (cases_Bool (nat_le sens 255)) [
      | inr f ↦ absurd (no_some label None refl (rw f at e))
      | inl t ↦
          let s : sens ≤ 255 = leb-true sens 255 t in
          let g = rw t at e in
          elim (cases_Bool (bytes_eq comps (codes "-"))) [
            | inl u ↦ subst (λ (l : Label). IsLabel l) (same_some (bare doi sens) label (rw u at g)) (bare_is doi sens d s)
            | inr n ↦ (reader doi sens d (omega arith) comps label (rw n at g)).label_is
          ]
    ]

-- ---- what each line keeps

-- the labels are labels and are sound, text formats have DOIs of 32 bits, names are of known levels and distinct
record IsGood (ls : List Line) : Type 0 where
  sound : AreFirstLevels (labels_of ls)
  labels : All IsLabel (labels_of ls)
  rows : All (λ row. row.pair.pi < 2 ^ 32) (rows_of ls)
  names : Distinct (names_of ls)
  known : All (λ name. name.level.0 < length (labels_of ls)) (names_of ls)

nothing_yet : IsGood []
nothing_yet = record {
  sound = record { few = omega arith; apart = λ i j ij lj e. absurd (omega arith) };
  labels = All-nil IsLabel;
  rows = All-nil (λ (row : FormatRow). row.pair.pi < 2 ^ 32);
  names = tt;
  known = All-nil (λ (name : LevelName). name.level.0 < 0);
}

-- a list that gets no row, or one that has a property
grown : {A : Type 0} (P : A → Type 0) (f : Line → Option A) (ls : List Line) (line : Line) (o : Option A) → f line ≡ o → All P (filter_map f ls) → ((a : A) → o ≡ Some a → P a) → All P (filter_map f (ls ++ line ∷ []))
grown P f ls line None e all new = subst (λ (xs : List _). All P xs) (sym (one_more f ls line ∙ ap (and_some (filter_map f ls)) e)) all
grown P f ls line (Some a) e all new = subst (λ (xs : List _). All P xs) (sym (one_more f ls line ∙ ap (and_some (filter_map f ls)) e)) (All-push P (filter_map f ls) a all (new a refl))

-- what a line gives, where it gives it
next_of : (ls : List Line) (line : Line) (a : Label) → fits ls line ≡ true → label_in line ≡ Some a → is_next (labels_of ls) a ≡ true
next_of ls (level_line place doi sens comps) a f e =
    let g : level_fits (version_of ls) (labels_of ls) place (Some a) ≡ true = rw e at f in
    (and_parts (place == length (labels_of ls)) (is_next (labels_of ls) a) (and_parts (place == length (labels_of ls) && is_next (labels_of ls) a) (in_version (version_of ls) (is_narrow (labels_of ls) a)) g).0).1
next_of ls line a f e = absurd (no_some a None refl e)

sound_more : (ls : List Line) (line : Line) (o : Option Label) → label_in line ≡ o → AreFirstLevels (labels_of ls) → ((a : Label) → o ≡ Some a → is_next (labels_of ls) a ≡ true) → AreFirstLevels (labels_of (ls ++ line ∷ []))
sound_more ls line None e s next = subst AreFirstLevels (sym (one_more label_in ls line ∙ ap (and_some (labels_of ls)) e)) s
sound_more ls line (Some a) e s next = subst AreFirstLevels (sym (one_more label_in ls line ∙ ap (and_some (labels_of ls)) e)) (next_sound (labels_of ls) a s (next a refl))

label_ok : IsReader → (line : Line) (a : Label) → HasBounds line → label_in line ≡ Some a → IsLabel a
label_ok reader (level_line place doi sens comps) a b e = label_is reader doi sens comps a b e
label_ok reader line a b e = absurd (no_some a None refl e)

row_ok : (line : Line) (a : FormatRow) → HasBounds line → format_in line ≡ Some a → a.pair.pi < 2 ^ 32
row_ok (format_line lfs pi word) a b e = of (spelling_of word) e
  where
    mk : Spelling → FormatRow
    mk s = record { pair = record { lfs = lfs; pi = pi }; spelling = s }

    of : (o : Option Spelling) → option_map mk o ≡ Some a → a.pair.pi < 2 ^ 32
    of None e = absurd (no_some a None refl e)
    of (Some s) e = subst (λ (r : FormatRow). r.pair.pi < 2 ^ 32) (same_some (mk s) a e) b
row_ok line a b e = absurd (no_some a None refl e)

abbrev IsFit : List Line → LevelName → Type 0
IsFit ls a = (list_any (clashes a.pair.lfs a.pair.pi a.level.0 a.bytes) (names_of ls) ≡ false) × (a.level.0 < length (labels_of ls))

middle : (a b c d e : Bool) → (a && b && c && d && e) ≡ true → (b ≡ true) × (c ≡ true)
middle a b c d e h =
    let first = and_parts (a && b && c && d) e h in
    let second = and_parts (a && b && c) d first.0 in
    let third = and_parts (a && b) c second.0 in
    ((and_parts a b third.0).1, third.1)

name_ok : (ls : List Line) (line : Line) (a : LevelName) → fits ls line ≡ true → name_in line ≡ Some a → IsFit ls a
unfolding name_fits
name_ok ls (name_line lfs pi level hex) a f e = of (lower_hex_of hex) f e
  where
    mk : List ℕ → LevelName
    mk bytes = record { pair = record { lfs = lfs; pi = pi }; level = record { 0 = level }; bytes = bytes }

    fit : (bytes : List ℕ) → name_fits (labels_of ls) (rows_of ls) (names_of ls) lfs pi level (Some bytes) ≡ true → IsFit ls (mk bytes)
    fit bytes f =
        let two = middle (list_any (λ row. is_pair lfs pi row.pair && is_table row.spelling) (rows_of ls)) (is_known (labels_of ls) level)
        (not (list_any (clashes lfs pi level bytes) (names_of ls))) (nat_le 1 (length bytes)) (nat_le (length bytes) MAX_SPELLING) f in
        (not-true (list_any (clashes lfs pi level bytes) (names_of ls)) two.1, ltb-true level (length (labels_of ls)) two.0)

    of : (o : Option (List ℕ)) → name_fits (labels_of ls) (rows_of ls) (names_of ls) lfs pi level o ≡ true → option_map mk o ≡ Some a → IsFit ls a
    of None f e = absurd (no_some a None refl e)
    of (Some bytes) f e = subst (IsFit ls) (same_some (mk bytes) a e) (fit bytes f)
name_ok ls line a f e = absurd (no_some a None refl e)

longer_labels : (ls : List Line) (line : Line) → length (labels_of ls) ≤ length (labels_of (ls ++ line ∷ []))
longer_labels ls line = of (label_in line) (one_more label_in ls line)
  where
    of : (o : Option Label) → labels_of (ls ++ line ∷ []) ≡ and_some (labels_of ls) o → length (labels_of ls) ≤ length (labels_of (ls ++ line ∷ []))
    of None e = omega (arith, ap length e)
    of (Some a) e = omega (arith, ap length e, length_push (labels_of ls) a)

names_more : (ls : List Line) (line : Line) (o : Option LevelName) → name_in line ≡ o → Distinct (names_of ls) → ((a : LevelName) → o ≡ Some a → IsFit ls a) → Distinct (names_of (ls ++ line ∷ []))
names_more ls line None e d fit = subst Distinct (sym (one_more name_in ls line ∙ ap (and_some (names_of ls)) e)) d
names_more ls line (Some a) e d fit = subst Distinct (sym (one_more name_in ls line ∙ ap (and_some (names_of ls)) e)) (distinct_push (names_of ls) a d (fit a refl).0)

good_more : IsReader → (ls : List Line) (line : Line) → IsGood ls → HasBounds line → fits ls line ≡ true → IsGood (ls ++ line ∷ [])
good_more reader ls line good bounds f =
    let longer = longer_labels ls line in
    record {
      sound = sound_more ls line (label_in line) refl good.sound (λ a e. next_of ls line a f e);
      labels = grown IsLabel label_in ls line (label_in line) refl good.labels (λ a e. label_ok reader line a bounds e);
      rows = grown (λ row. row.pair.pi < 2 ^ 32) format_in ls line (format_in line) refl good.rows (λ a e. row_ok line a bounds e);
      names = names_more ls line (name_in line) refl good.names (λ a e. name_ok ls line a f e);
      known = grown (λ name. name.level.0 < length (labels_of (ls ++ line ∷ []))) name_in ls line (name_in line) refl
          (λ k d lt. let old = good.known k d lt in omega (arith, old, longer))
          (λ a e. let new = (name_ok ls line a f e).1 in omega (arith, new, longer));
    }

-- ---- the whole policy

format_is : (labels : List Label) (names : List LevelName) (row : FormatRow) → AreFirstLevels labels → row.pair.pi < 2 ^ 32 → Distinct names → All (λ name. name.level.0 < length labels) names
    → (s : Spelling) → IsFormat (kind_of labels names row s)
format_is labels names row sound small d k spelling.Calipso = tt
format_is labels names row sound small d k spelling.Text = small
format_is labels names row sound small d k spelling.Name = table labels sound.apart row.pair.lfs row.pair.pi names d k
format_is labels names row sound small d k spelling.Long = tt

found_is : (labels : List Label) (names : List LevelName) (lfs pi : ℕ) (entry : FormatEntry) → AreFirstLevels labels → Distinct names → All (λ name. name.level.0 < length labels) names
    → (rows : List FormatRow) → All (λ row. row.pair.pi < 2 ^ 32) rows → find (λ entry. is_pair lfs pi (pair_of entry)) (map (entry_in labels names) rows) ≡ Some entry → IsFormat entry.kind
found_is labels names lfs pi entry sound d k [] small e = absurd (no_some entry None refl e)
found_is labels names lfs pi entry sound d k (row ∷ rows) small e =
    elim (cases_Bool (is_pair lfs pi row.pair)) [
      | inl t ↦ subst (λ (x : FormatEntry). IsFormat x.kind) (same_some (entry_in labels names row) entry (rw t at e))
          (format_is labels names row sound (All-head (λ row. row.pair.pi < 2 ^ 32) row rows small) d k row.spelling)
      | inr f ↦ found_is labels names lfs pi entry sound d k rows (All-tail (λ row. row.pair.pi < 2 ^ 32) row rows small) (rw f at e)
    ]

formats_are : (ls : List Line) → IsGood ls → AreFormats (formats_of ls)
unfolding entries_of
formats_are ls good lfs pi entry e = found_is (labels_of ls) (names_of ls) lfs pi entry good.sound good.names good.known (rows_of ls) good.rows e

pub site : IsReader → ((words : List (List ℕ)) (line : Line) → line_of words ≡ Ok line → HasBounds line) → (text : List ℕ) (p : Policy) → policy_of text ≡ Ok p → All IsLabel p.labels × AreFormats p.formats
site reader bounded text p e =
    let lines = lines_of IsGood (λ ls ws line q w t. good_more reader ls line q (bounded ws line w) t) text p nothing_yet e in
    let good : IsGood lines.0 = lines.1 in
    subst (λ (x : Policy). All IsLabel x.labels × AreFormats x.formats) lines.2 (good.labels, formats_are lines.0 good)

-- ---- dominance

pub preordered : (p : Policy) → IsPreorderWithBottom (dominance p)
preordered p = preorder_of p.labels

pub apart_in : (text : List ℕ) (p : Policy) → policy_of text ≡ Ok p → Apart p.labels (length p.labels)
apart_in text p e =
    let lines = lines_of (λ ls. AreFirstLevels (labels_of ls)) (λ ls ws line s w t. sound_more ls line (label_in line) refl s (λ a e. next_of ls line a t e)) text p nothing_yet.sound e in
    subst (λ (x : Policy). Apart x.labels (length x.labels)) lines.2 lines.1.apart
