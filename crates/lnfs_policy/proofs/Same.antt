-- What is read with the tables is what the text spells.
use Rattle.std.proofs.Common.{◌≡◌, ◌+◌, ℕ, Bool, true, false, not, ◌&&◌, List, [], ◌∷◌, ◌++◌, refl, sym, ap, ◌∙◌, append_assoc, inl, inr}
use Rattle.std.specs.Prelude.{Result, Ok, Err, Option, Some, None, option_map}
use Rattle.std.proofs.lemmas.Bool.{cases_Bool}
use Rattle.std.proofs.lemmas.List.{append-nil}
use Rattle.lnfs_calipso.specs.Label.{Label}
use Rattle.lnfs_words.specs.Words.{is_empty, newline, words, is_ascii, is_worded, split}
use Rattle.lnfs_words.specs.Hex.{lower_hex_of, lower_hex_sized}
use Rattle.lnfs_policy.specs.Line.{◌>>=◌, demand, Line, version_line, mode_line, level_line, format_line, name_line, parent_line, guest_line, quota_line, dir_line, line_of, rank, in_order, cause_of}
use Rattle.lnfs_policy.specs.Rows.{label_of, spelling_of, version_of, labels_of, rows_of, names_of, parents_of, quotas_of, dirs_of}
use Rattle.lnfs_policy.specs.Fits.{fits, level_fits, kind_fits, format_fits, name_fits, parent_fits, guest_fits, quota_fits, dir_fits, is_taken}
use Rattle.lnfs_policy.specs.Policy.{policy_in, by_number, with_parent}
use Rattle.lnfs_policy.specs.PolicyText.{version_in_place, said_after, lines_after, is_skipped, is_complete, told_at, is_end, lines_from, kept, policy_from, policy_of}
use Rattle.lnfs_policy.specs.Reading.{Read, nothing, add, noted, stands, judge, judge_line, finish, read_from}
use Rattle.lnfs_policy.specs.declared.rows.Spelling.{Spelling}
use Rattle.lnfs_policy.specs.declared.mode.Mode.{Mode}
use Rattle.lnfs_policy.specs.declared.rows.FormatRow.{FormatRow}
use Rattle.lnfs_policy.specs.declared.rows.LevelName.{LevelName}
use Rattle.lnfs_policy.specs.declared.rows.Parent.{Parent}
use Rattle.lnfs_policy.specs.declared.cause.Cause.{Cause}
use Rattle.lnfs_policy.specs.declared.cause.Cause.TheVariants as because
use Rattle.lnfs_policy.proofs.Outcomes.{went}
use Rattle.lnfs_policy.proofs.Tables.{tables, and_some, and_parent, grown, more, has_begun, has_mode, stage_of, stands_as, stage_now, mode_now}
use Rattle.lnfs_policy.proofs.Parents.{taken_same}

abbrev mapped : {B C : Type 0} → (B → C) → Result B Cause → Result C Cause
mapped f (Ok b) = Ok (f b)
mapped f (Err c) = Err c

through : {A B C : Type 0} (f : B → C) (r : Result A Cause) (F : A → Result C Cause) (G : A → Result B Cause) → ((a : A) → F a ≡ mapped f (G a)) → (r >>= F) ≡ mapped f (r >>= G)
through f (Ok a) F G h = h a
through f (Err c) F G h = refl

-- ---- a line that says something

module _ (k : List ℕ) (ls : List Line) (text : List ℕ) where
  abbrev longer_text : List ℕ
  longer_text = k ++ text ++ newline ∷ []

  -- the tables with one more line
  abbrev with_line : Line → Read
  with_line line = tables longer_text (ls ++ line ∷ [])

  abbrev settled : Line → Read
  settled line = record (grown longer_text (tables k ls) line) { stage = rank line }

  settle : (line : Line) → in_order ls line ≡ true → settled line ≡ with_line line
  settle line e = sym (more longer_text ls line k ∙ (λ i. record (grown longer_text (tables k ls) line) { stage = stage_now ls line e i }))

  -- a row is added where the line fits, and the line is refused where it doesn't
  abbrev IsAdded : Line → Type 0
  IsAdded line = (add (tables k ls) line >>= (λ added. Ok (noted added line text))) ≡ mapped with_line (demand (fits ls line) (cause_of line) >>= (λ _. Ok line))

  tested : (b : Bool) (cause : Cause) (new : Read) (line : Line) → noted new line text ≡ with_line line
      → ((demand b cause >>= (λ _. went new)) >>= (λ added. Ok (noted added line text))) ≡ mapped with_line (demand b cause >>= (λ _. Ok line))
  tested true cause new line e = ap went e
  tested false cause new line e = refl

  mode_added : (mode : Mode) → in_order ls (mode_line mode) ≡ true → IsAdded (mode_line mode)
  mode_added mode e = ap went (sym (λ i. record (settled (mode_line mode)) { mode = mode_now ls mode e i }) ∙ settle (mode_line mode) e)

  level_added : (place doi sens : ℕ) (comps : List ℕ) → in_order ls (level_line place doi sens comps) ≡ true
      → (o : Option Label) → label_of doi sens comps ≡ o → IsAdded (level_line place doi sens comps)
  level_added place doi sens comps e None h = rw h refl
  level_added place doi sens comps e (Some label) h =
      let line = level_line place doi sens comps in
      rw h (tested (level_fits (version_of ls) (labels_of ls) place (Some label)) because.Level (record (tables k ls) { labels = labels_of ls ++ label ∷ [] }) line
      ((λ i. record (settled line) { labels = and_some (labels_of ls) (sym h i) }) ∙ settle line e))

  format_added : (lfs pi : ℕ) (word : List ℕ) → in_order ls (format_line lfs pi word) ≡ true
      → (o : Option Spelling) → spelling_of word ≡ o → IsAdded (format_line lfs pi word)
  format_added lfs pi word e None h = rw h refl
  format_added lfs pi word e (Some s) h =
      let line = format_line lfs pi word in
      let row : FormatRow = record { pair = record { lfs = lfs; pi = pi }; spelling = s } in
      rw h (tested (kind_fits (version_of ls) (Some s) && format_fits (rows_of ls) lfs pi) because.Format (record (tables k ls) { rows = rows_of ls ++ row ∷ [] }) line
      ((λ i. record (settled line) { rows = and_some (rows_of ls) (option_map (λ s. record { pair = record { lfs = lfs; pi = pi }; spelling = s }) (sym h i)) }) ∙ settle line e))

  name_added : (lfs pi level : ℕ) (hex : List ℕ) → in_order ls (name_line lfs pi level hex) ≡ true
      → (o : Option (List ℕ)) → lower_hex_of hex ≡ o → IsAdded (name_line lfs pi level hex)
  unfolding name_fits
  name_added lfs pi level hex e None h = rw h refl
  name_added lfs pi level hex e (Some bytes) h =
      let line = name_line lfs pi level hex in
      let name : LevelName = record { pair = record { lfs = lfs; pi = pi }; level = record { 0 = level }; bytes = bytes } in
      rw h (tested (name_fits (labels_of ls) (rows_of ls) (names_of ls) lfs pi level (Some bytes)) because.Name (record (tables k ls) { names = names_of ls ++ name ∷ [] }) line
      ((λ i. record (settled line) { names = and_some (names_of ls) (option_map (λ bytes. record { pair = record { lfs = lfs; pi = pi }; level = record { 0 = level }; bytes = bytes }) (sym h i)) }) ∙ settle line e))

  parent_added : (number : ℕ) (hex : List ℕ) (level : ℕ) → in_order ls (parent_line number hex level) ≡ true
      → (o : Option (List ℕ)) → lower_hex_sized 32 hex ≡ o → IsAdded (parent_line number hex level)
  parent_added number hex level e None h = rw h refl
  parent_added number hex level e (Some secret) h =
      let line = parent_line number hex level in
      let parent : Parent = record { number = number; secret = secret; clearance = record { 0 = level } } in
      rw (h, taken_same (parents_of ls) number) (tested (parent_fits (labels_of ls) (is_taken (parents_of ls) number) (Some secret) level) because.Parent (record (tables k ls) { parents = with_parent (by_number (parents_of ls)) parent }) line
      ((λ i. record (settled line) { parents = and_parent (by_number (parents_of ls)) (option_map (λ secret. record { number = number; secret = secret; clearance = record { 0 = level } }) (sym h i)) }) ∙ settle line e))

  added : (line : Line) → in_order ls line ≡ true → IsAdded line
  added (version_line version) e = ap went (settle (version_line version) e)
  added (mode_line mode) e = mode_added mode e
  added (level_line place doi sens comps) e = level_added place doi sens comps e (label_of doi sens comps) refl
  added (format_line lfs pi word) e = format_added lfs pi word e (spelling_of word) refl
  added (name_line lfs pi level hex) e = name_added lfs pi level hex e (lower_hex_of hex) refl
  added (parent_line number hex level) e = parent_added number hex level e (lower_hex_sized 32 hex) refl
  added (guest_line class uid level) e =
      tested (guest_fits (labels_of ls) class level) because.Guest _ (guest_line class uid level) (settle (guest_line class uid level) e)
  added (quota_line level nodes bytes) e =
      tested (quota_fits (labels_of ls) (quotas_of ls) level) because.Quota _ (quota_line level nodes bytes) (settle (quota_line level nodes bytes) e)
  added (dir_line path level) e =
      tested (dir_fits (labels_of ls) (dirs_of ls) path level) because.Dir _ (dir_line path level) (settle (dir_line path level) e)

  ordered : (line : Line) → (demand (stands (tables k ls) line) because.Order >>= (λ _. add (tables k ls) line >>= (λ new. Ok (noted new line text))))
      ≡ mapped with_line (demand (in_order ls line) because.Order >>= (λ _. demand (fits ls line) (cause_of line) >>= (λ _. Ok line)))
  ordered line =
      elim (cases_Bool (in_order ls line)) [
        | inl t ↦ rw (stands_as k ls line, t) (added line t)
        | inr f ↦ rw (stands_as k ls line, f) refl
      ]

  judged_line : (ended : Bool) → judge_line (tables k ls) ended text ≡ mapped with_line (said_after ls ended text)
  judged_line ended =
      rw (has_begun ls) (through with_line (demand (version_in_place (is_empty ls) text) because.Version) _ _ (λ _.
      through with_line (demand (ended && is_worded text) because.Words) _ _ (λ _.
      through with_line (line_of (words text)) _ _ ordered)))

-- ---- a line of the text

-- what is kept of it
abbrev line_kept : List ℕ → List ℕ
line_kept text = kept (text ∷ [])

judged : (k : List ℕ) (ls : List Line) (ended : Bool) (text : List ℕ) → judge (tables k ls) ended text ≡ mapped (tables (k ++ line_kept text)) (lines_after ls ended text)
judged k ls ended text =
    elim (cases_Bool (is_skipped text)) [
      | inl t ↦ rw (t, append-nil k) (skipped (ended && is_ascii text))
      | inr f ↦ rw (f, append-nil (text ++ newline ∷ []), ← append_assoc k text (newline ∷ [])) (judged_line k ls text ended ∙ pushed (said_after ls ended text))
    ]
  where
    skipped : (b : Bool) → (demand b because.Words >>= (λ _. went (tables k ls))) ≡ mapped (tables k) (demand b because.Words >>= (λ _. went ls))
    skipped true = refl
    skipped false = refl

    pushed : (r : Result Line Cause) → mapped (with_line k ls text) r ≡ mapped (tables (k ++ text ++ newline ∷ [])) (r >>= (λ line. went (ls ++ line ∷ [])))
    pushed (Ok line) = refl
    pushed (Err c) = refl

-- ---- the whole text

ended_same : (n : ℕ) (k : List ℕ) (ls : List Line) → told_at n (finish (tables k ls)) Ok ≡ policy_from k (told_at n (demand (is_complete ls) because.Missing) (λ _. Ok ls))
ended_same n k ls = rw (has_mode ls) (closed (is_complete ls))
  where
    closed : (b : Bool) → told_at n (demand b because.Missing >>= (λ _. went (policy_in k ls))) Ok ≡ policy_from k (told_at n (demand b because.Missing) (λ _. Ok ls))
    closed true = refl
    closed false = refl

kept_more : (text : List ℕ) (others : List (List ℕ)) → line_kept text ++ kept others ≡ kept (text ∷ others)
kept_more text others =
    elim (cases_Bool (is_skipped text)) [
      | inl t ↦ rw t refl
      | inr f ↦ rw (f, append-nil (text ++ newline ∷ [])) refl
    ]

read_same : (n : ℕ) (k : List ℕ) (ls : List Line) (parts : List (List ℕ)) → read_from n (tables k ls) parts ≡ policy_from (k ++ kept parts) (lines_from n ls parts)
unfolding read_from lines_from
read_same n k ls [] = rw (append-nil k) (ended_same n k ls)
read_same n k ls (text ∷ others) =
    elim (cases_Bool (is_end text others)) [
      | inl t ↦ rw (t, last text others t) (ended_same n k ls)
      | inr f ↦ rw (f, judged k ls (not (is_empty others)) text, ← kept_more text others, ← append_assoc k (line_kept text) (kept others)) (next (λ lines. read_same (n + 1) (k ++ line_kept text) lines others) (lines_after ls (not (is_empty others)) text))
    ]
  where
    last : (text : List ℕ) (others : List (List ℕ)) → is_end text others ≡ true → k ++ kept (text ∷ others) ≡ k
    last [] [] e = append-nil k
    last [] (o ∷ os) e = cc
    last (b ∷ text) others e = cc

    next : ((lines : List Line) → read_from (n + 1) (tables (k ++ line_kept text) lines) others ≡ policy_from ((k ++ line_kept text) ++ kept others) (lines_from (n + 1) lines others))
        → (r : Result (List Line) Cause)
        → told_at n (mapped (tables (k ++ line_kept text)) r) (λ read. read_from (n + 1) read others) ≡ policy_from ((k ++ line_kept text) ++ kept others) (told_at n r (λ lines. lines_from (n + 1) lines others))
    next rest (Ok lines) = rest lines
    next rest (Err c) = refl

pub same : (text : List ℕ) → policy_of text ≡ read_from 1 nothing (split newline text)
unfolding policy_of stage_of
same text = sym (read_same 1 [] [] (split newline text))
