-- The reader's tables are what the lines give.
use Rattle.std.proofs.Common.{◌≡◌, ◌≤◌, ℕ, true, not, ◌&&◌, List, [], ◌∷◌, ◌++◌, max, nat_le, refl, sym, ap, ◌∙◌, arith}
use Rattle.std.specs.Prelude.{Option, Some, None, is_some}
use Rattle.std.specs.List.{filter_map, cons_option, list_all, list_any}
use Rattle.std.specs.Option.{option_or}
use Rattle.std.proofs.lemmas.Bool.{and_parts, leb-true, le-leb}
use Rattle.std.proofs.lemmas.Bool.Decides.{nat_tests}
use Rattle.std.proofs.lemmas.List.{append-nil}
use Rattle.std.proofs.lemmas.List.Sums.{fold-append}
use Rattle.std.proofs.lemmas.List.Elements.{filter_map-append}
use Rattle.lnfs_words.specs.Words.{is_empty}
use Rattle.lnfs_policy.specs.Line.{Line, version_line, mode_line, level_line, format_line, name_line, parent_line, guest_line, quota_line, dir_line, rank, is_mode, in_order}
use Rattle.lnfs_policy.specs.Rows.{version_in, mode_in, label_in, format_in, name_in, parent_in, guest_in, quota_in, dir_in, first_of, version_of, mode_of, labels_of, rows_of, names_of, parents_of, guests_of, quotas_of, dirs_of}
use Rattle.lnfs_policy.specs.Policy.{with_parent, by_number}
use Rattle.lnfs_policy.specs.Reading.{Read, stands}
use Rattle.lnfs_policy.specs.declared.mode.Mode.{Mode}
use Rattle.lnfs_policy.specs.declared.rows.Parent.{Parent}

-- the rank of the last kind
unfoldable pub stage_of : List Line → ℕ
stage_of [] = 0
stage_of (line ∷ lines) = max (rank line) (stage_of lines)

-- the tables of a text that was kept, and of the lines
abbrev pub tables : List ℕ → List Line → Read
tables text lines = record {
  begun = not (is_empty lines);
  stage = stage_of lines;
  text = text;
  version = version_of lines;
  mode = mode_of lines;
  labels = labels_of lines;
  rows = rows_of lines;
  names = names_of lines;
  parents = by_number (parents_of lines);
  guests = guests_of lines;
  quotas = quotas_of lines;
  dirs = dirs_of lines;
}

-- ---- one more line

abbrev pub and_some : {A : Type 0} → List A → Option A → List A
and_some xs None = xs
and_some xs (Some x) = xs ++ x ∷ []

abbrev pub later : {A : Type 0} → Option A → Option A → Option A
later first None = first
later first (Some x) = option_or first (Some x)

abbrev pub and_parent : List (ℕ × Parent) → Option Parent → List (ℕ × Parent)
and_parent entries None = entries
and_parent entries (Some parent) = with_parent entries parent

abbrev pub grown : List ℕ → Read → Line → Read
grown text r line = record {
  begun = true;
  stage = max r.stage (rank line);
  text = text;
  version = later r.version (version_in line);
  mode = later r.mode (mode_in line);
  labels = and_some r.labels (label_in line);
  rows = and_some r.rows (format_in line);
  names = and_some r.names (name_in line);
  parents = and_parent r.parents (parent_in line);
  guests = and_some r.guests (guest_in line);
  quotas = and_some r.quotas (quota_in line);
  dirs = and_some r.dirs (dir_in line);
}

pub one_more : {X Y : Type 0} (f : X → Option Y) (xs : List X) (x : X) → filter_map f (xs ++ x ∷ []) ≡ and_some (filter_map f xs) (f x)
one_more f xs x = filter_map-append f xs (x ∷ []) ∙ last (filter_map f xs) (f x)
  where
    last : {Y : Type 0} (ys : List Y) (o : Option Y) → ys ++ cons_option o [] ≡ and_some ys o
    last ys None = append-nil ys
    last ys (Some y) = refl

more_parents : (lines : List Line) (line : Line) → by_number (parents_of (lines ++ line ∷ [])) ≡ and_parent (by_number (parents_of lines)) (parent_in line)
more_parents lines line = ap by_number (one_more parent_in lines line) ∙ last (parents_of lines) (parent_in line)
  where
    last : (ps : List Parent) (o : Option Parent) → by_number (and_some ps o) ≡ and_parent (by_number ps) o
    last ps None = refl
    last ps (Some p) = fold-append with_parent [] ps (p ∷ [])

more_first : {A : Type 0} (f : Line → Option A) (lines : List Line) (line : Line) → first_of f (lines ++ line ∷ []) ≡ later (first_of f lines) (f line)
more_first f [] line = first (f line)
  where
    first : {A : Type 0} (o : Option A) → option_or o None ≡ later None o
    first None = refl
    first (Some m) = refl
more_first f (l ∷ lines) line = ap (option_or (f l)) (more_first f lines line) ∙ nested (f l) (first_of f lines) (f line)
  where
    nested : {A : Type 0} (a b c : Option A) → option_or a (later b c) ≡ later (option_or a b) c
    nested None b None = refl
    nested None b (Some m) = refl
    nested (Some a) b None = refl
    nested (Some a) b (Some m) = refl

more_stage : (lines : List Line) (line : Line) → stage_of (lines ++ line ∷ []) ≡ max (stage_of lines) (rank line)
unfolding stage_of
more_stage [] line = omega arith
more_stage (l ∷ lines) line = omega (arith, more_stage lines line)

begun_now : (lines : List Line) (line : Line) → not (is_empty (lines ++ line ∷ [])) ≡ true
begun_now [] line = refl
begun_now (l ∷ lines) line = refl

pub more : (text : List ℕ) (lines : List Line) (line : Line) (before : List ℕ) → tables text (lines ++ line ∷ []) ≡ grown text (tables before lines) line
more text lines line before = λ i. record {
  begun = begun_now lines line i;
  stage = more_stage lines line i;
  text = text;
  version = more_first version_in lines line i;
  mode = more_first mode_in lines line i;
  labels = one_more label_in lines line i;
  rows = one_more format_in lines line i;
  names = one_more name_in lines line i;
  parents = more_parents lines line i;
  guests = one_more guest_in lines line i;
  quotas = one_more quota_in lines line i;
  dirs = one_more dir_in lines line i;
}

-- ---- what the tables tell of the lines

pub has_begun : (lines : List Line) → not (not (is_empty lines)) ≡ is_empty lines
has_begun [] = refl
has_begun (line ∷ lines) = refl

pub has_mode : (lines : List Line) → is_some (mode_of lines) ≡ list_any is_mode lines
has_mode [] = refl
has_mode (version_line version ∷ lines) = has_mode lines
has_mode (mode_line mode ∷ lines) = refl
has_mode (level_line place doi sens comps ∷ lines) = has_mode lines
has_mode (format_line lfs pi word ∷ lines) = has_mode lines
has_mode (name_line lfs pi level hex ∷ lines) = has_mode lines
has_mode (parent_line number hex level ∷ lines) = has_mode lines
has_mode (guest_line class uid level ∷ lines) = has_mode lines
has_mode (quota_line level nodes bytes ∷ lines) = has_mode lines
has_mode (dir_line path level ∷ lines) = has_mode lines

-- no line is of a later kind where the last kind is none
up_to : (lines : List Line) (r : ℕ) → list_all (λ line. nat_le (rank line) r) lines ≡ nat_le (stage_of lines) r
unfolding stage_of
up_to [] r = sym (le-leb 0 r (omega arith))
up_to (line ∷ lines) r = ap (λ b. nat_le (rank line) r && b) (up_to lines r) ∙ both (rank line) (stage_of lines) r
  where
    both : (a b r : ℕ) → (nat_le a r && nat_le b r) ≡ nat_le (max a b) r
    both a b r = grind (arith, nat_tests)

pub stands_as : (text : List ℕ) (lines : List Line) (line : Line) → stands (tables text lines) line ≡ in_order lines line
stands_as text lines line = rw (up_to lines (rank line), has_mode lines) refl

-- a line in its order has the last kind
pub stage_now : (lines : List Line) (line : Line) → in_order lines line ≡ true → max (stage_of lines) (rank line) ≡ rank line
stage_now lines line e =
    let p = and_parts (list_all (λ l. nat_le (rank l) (rank line)) lines) (not (is_mode line && list_any is_mode lines)) e in
    let below : stage_of lines ≤ rank line = leb-true _ _ (sym (up_to lines (rank line)) ∙ p.0) in
    omega arith

-- and a mode in its order is the first
pub mode_now : (lines : List Line) (mode : Mode) → in_order lines (mode_line mode) ≡ true → later (mode_of lines) (Some mode) ≡ Some mode
mode_now lines mode e =
    let p = and_parts (list_all (λ l. nat_le (rank l) 1) lines) (not (list_any is_mode lines)) e in
    none (mode_of lines) (ap not (has_mode lines) ∙ p.1)
  where
    none : (o : Option Mode) → not (is_some o) ≡ true → option_or o (Some mode) ≡ Some mode
    none None e = refl
    none (Some m) e = cc
