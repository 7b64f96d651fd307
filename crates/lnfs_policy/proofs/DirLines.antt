-- Each directory line of a policy keeps its rules after the lines before it, by the labels of the whole policy.
use Rattle.std.proofs.Common.{◌≡◌, ◌<◌, ◌+◌, ℕ, true, false, not, ◌==◌, ◌&&◌, ◌||◌, List, [], ◌∷◌, ◌++◌, length, nat_lt, refl, sym, ap, subst, ◌∙◌, append_assoc, append-nil, inl, inr, arith}
use Rattle.std.specs.Prelude.{Ok, Option, Some, None, option_map, find}
use Rattle.std.specs.List.{AllByRecursion, list_any}
use Rattle.std.specs.Str.{bytes_eq}
use Rattle.std.proofs.lemmas.Bool.{cases_Bool, and_parts, ltb-true, not-true, false≢true}
use Rattle.std.proofs.lemmas.List.{length_push}
use Rattle.lnfs_calipso.specs.Label.{Label, dom_of, dominates}
use Rattle.lnfs_words.specs.Words.{is_empty}
use Rattle.lnfs_words.specs.Paths.{is_path, parent_of}
use Rattle.lnfs_policy.specs.Line.{Line, dir_line}
use Rattle.lnfs_policy.specs.Rows.{label_in, dir_in, labels_of, dirs_of}
use Rattle.lnfs_policy.specs.Fits.{fits, is_known, level_at, is_above, dir_fits}
use Rattle.lnfs_policy.specs.Policy.{Policy}
use Rattle.lnfs_policy.specs.PolicyText.{policy_of}
use Rattle.lnfs_policy.specs.declared.fits.TheConstants.{MAX_DIRS}
use Rattle.lnfs_policy.specs.declared.rows.DirLine.{DirLine}
use Rattle.lnfs_policy.proofs.Kept.{lines_of}
use Rattle.lnfs_policy.proofs.Sound.{label_kept}
use Rattle.lnfs_policy.proofs.Tables.{and_some, one_more}

-- what the rules of a directory line say of its path and its level
pub record DirFits (labels : List Label) (before : List DirLine) (dir : DirLine) : Type 0 where
  pub path : is_path dir.path ≡ true
  pub known : dir.level.0 < length labels
  pub new : list_any (λ d. bytes_eq d.path dir.path) before ≡ false
  pub above : is_above labels dir.level.0 (level_at before (parent_of dir.path)) ≡ true

-- each line after those before it
abbrev pub DirsFit : List Label → (before dirs : List DirLine) → Type 0
DirsFit labels before [] = Unit {0}
DirsFit labels before (dir ∷ dirs) = DirFits labels before dir × DirsFit labels (before ++ dir ∷ []) dirs

dir_tells : (labels : List Label) (before : List DirLine) (dir : DirLine) → dir_fits labels before dir.path dir.level.0 ≡ true → DirFits labels before dir
unfolding dir_fits
dir_tells labels before dir e =
    let a = and_parts _ (is_above labels dir.level.0 (level_at before (parent_of dir.path))) e in
    let b = and_parts _ (not (list_any (λ d. bytes_eq d.path dir.path) before)) a.0 in
    let c = and_parts _ (is_known labels dir.level.0) b.0 in
    let d = and_parts (is_path dir.path) (nat_lt (length before) MAX_DIRS) c.0 in
    record { path = d.0; known = ltb-true _ _ c.1; new = not-true _ b.1; above = a.1 }

-- ---- one more line

dirs_push : (labels : List Label) (before dirs : List DirLine) (dir : DirLine) → DirsFit labels before dirs → DirFits labels (before ++ dirs) dir → DirsFit labels before (dirs ++ dir ∷ [])
dirs_push labels before [] dir fit new = (subst (λ (ds : List DirLine). DirFits labels ds dir) (append-nil before) new, tt)
dirs_push labels before (d ∷ dirs) dir fit new =
    (fit.0, dirs_push labels (before ++ d ∷ []) dirs dir fit.1 (subst (λ (ds : List DirLine). DirFits labels ds dir) (sym (append_assoc before (d ∷ []) dirs)) new))

-- ---- one more label

abbrev AreKnown : List Label → List DirLine → Type 0
AreKnown labels dirs = AllByRecursion (λ d. d.level.0 < length labels) dirs

known_push : (labels : List Label) (dirs : List DirLine) (dir : DirLine) → AreKnown labels dirs → dir.level.0 < length labels → AreKnown labels (dirs ++ dir ∷ [])
known_push labels [] dir all here = (here, tt)
known_push labels (d ∷ dirs) dir all here = (all.0, known_push labels dirs dir all.1 here)

module _ (labels : List Label) (label : Label) where
  -- dominance of the levels that were known stays
  dominance_kept : (a b : ℕ) → a < length labels → b < length labels → dom_of (labels ++ label ∷ []) a b ≡ dom_of labels a b
  dominance_kept a b la lb = λ i. b == 0 || (nat_lt 0 a && dominates (label_kept labels label a la i) (label_kept labels label b lb i))

  above_found : (level : ℕ) (path : List ℕ) (dirs : List DirLine) → level < length labels → AreKnown labels dirs
      → is_above labels level (option_map (λ d. d.level.0) (find (λ d. bytes_eq d.path path) dirs)) ≡ true
      → is_above (labels ++ label ∷ []) level (option_map (λ d. d.level.0) (find (λ d. bytes_eq d.path path) dirs)) ≡ true
  above_found level path [] known all e = absurd (false≢true e)
  above_found level path (d ∷ dirs) known all e =
      elim (cases_Bool (bytes_eq d.path path)) [
        | inl t ↦ rw t (dominance_kept level d.level.0 known all.0 ∙ (rw t at e))
        | inr f ↦ rw f (above_found level path dirs known all.1 (rw f at e))
      ]

  above_kept : (level : ℕ) (path : List ℕ) (dirs : List DirLine) → level < length labels → AreKnown labels dirs
      → is_above labels level (level_at dirs path) ≡ true → is_above (labels ++ label ∷ []) level (level_at dirs path) ≡ true
  above_kept level path dirs known all e =
      elim (cases_Bool (is_empty path)) [
        | inl t ↦ rw t (dominance_kept level 0 known (omega arith) ∙ (rw t at e))
        | inr f ↦ rw f (above_found level path dirs known all (rw f at e))
      ]

  dirs_kept : (before dirs : List DirLine) → AreKnown labels before → DirsFit labels before dirs → DirsFit (labels ++ label ∷ []) before dirs
  dirs_kept before [] all fit = tt
  dirs_kept before (dir ∷ dirs) all fit =
      let one = fit.0 in
      let here : DirFits (labels ++ label ∷ []) before dir = record {
        path = one.path;
        known = omega (arith, one.known, length_push labels label);
        new = one.new;
        above = above_kept dir.level.0 (parent_of dir.path) before one.known all one.above;
      } in
      (here, dirs_kept (before ++ dir ∷ []) dirs (known_push labels before dir all one.known) fit.1)

-- ---- all lines

abbrev AllFit : List Line → Type 0
AllFit ls = DirsFit (labels_of ls) [] (dirs_of ls)

more_labels : (labels : List Label) (dirs : List DirLine) (o : Option Label) → DirsFit labels [] dirs → DirsFit (and_some labels o) [] dirs
more_labels labels dirs None fit = fit
more_labels labels dirs (Some label) fit = dirs_kept labels label [] dirs tt fit

-- a line that gives no directory
no_dir : (ls : List Line) (line : Line) → dir_in line ≡ None → AllFit ls → AllFit (ls ++ line ∷ [])
no_dir ls line none fit =
    let dirs : dirs_of (ls ++ line ∷ []) ≡ dirs_of ls = one_more dir_in ls line ∙ ap (and_some (dirs_of ls)) none in
    rw (dirs, one_more label_in ls line) (more_labels (labels_of ls) (dirs_of ls) (label_in line) fit)

line_fits : (ls : List Line) (line : Line) → AllFit ls → fits ls line ≡ true → AllFit (ls ++ line ∷ [])
line_fits ls (dir_line path level) fit is =
    let dir : DirLine = record { path = path; level = record { 0 = level } } in
    rw (one_more dir_in ls (dir_line path level), one_more label_in ls (dir_line path level))
    (dirs_push (labels_of ls) [] (dirs_of ls) dir fit (dir_tells (labels_of ls) (dirs_of ls) dir is))
line_fits ls line fit is = no_dir ls line refl fit

pub dirs_fit : (text : List ℕ) (p : Policy) → policy_of text ≡ Ok p → DirsFit p.labels [] p.dirs
dirs_fit text p e =
    let lines = lines_of AllFit (λ ls ws line q w t. line_fits ls line q t) text p tt e in
    subst (λ (x : Policy). DirsFit x.labels [] x.dirs) lines.2 lines.1
