-- The labels that are kept are those of the levels.
use Rattle.std.proofs.Common.{◌≡◌, ◌<◌, ◌≤◌, ◌+◌, refl, ap, sym, ◌∙◌, ℕ, Bool, true, false, List, [], ◌∷◌, ◌++◌, map, length, get_or, nat_lt, slice_get, Option, Some, None, subst, arith}
use Rattle.std.proofs.lemmas.Bool.Decides.{nat_tests}
use Rattle.std.proofs.lemmas.List.{map-append, get_or_past}
use Rattle.std.proofs.lemmas.List.FromFn.{map-range_with_len_more, get_or-map-range_with_len, length-map-range_with_len}
use Rattle.std.specs.List.{range_with_len}
use Rattle.lnfs_calipso.specs.Label.{Label, label_at}
use Rattle.lnfs_format.specs.Kinds.{writes}
use Rattle.lnfs_format.specs.declared.formats.FormatEntry.{FormatEntry}
use Rattle.lnfs_policy.specs.Policy.{Policy}
use Rattle.lnfs_world.specs.World.{Stored}
use Rattle.lnfs_site.specs.Site.{spelling, spelled_in, spelled_as, unspelled}
use Rattle.lnfs_site.specs.Labels.{Spellings, written_of, spellings, spelled_at}

pub one_more : {A B : Type 0} (f : A → B) (g : ℕ → B) (xs ys : List A) (x : A) (n : ℕ) → map f xs ≡ map g (range_with_len 0 n) → ys ≡ xs ++ x ∷ [] → f x ≡ g n → map f ys ≡ map g (range_with_len 0 (n + 1))
one_more f g xs ys x n before more is =
    ap (map f) more ∙ map-append f xs (x ∷ []) ∙ ap (λ (front : List _). front ++ f x ∷ []) before
    ∙ ap (λ y. map g (range_with_len 0 n) ++ y ∷ []) is ∙ sym (map-range_with_len_more g 0 n n (omega arith))

-- past the end the label of level 0 counts
label_past : (labels : List Label) (level : ℕ) → length labels ≤ level → 0 < length labels → label_at labels level ≡ label_at labels 0
label_past [] level past some = refl
label_past (l ∷ labels) level past some = get_or_past (l ∷ labels) level l past

same_label : (p : Policy) (a b : ℕ) → label_at p.labels a ≡ label_at p.labels b → spelling p a ≡ spelling p b
unfolding spelling
same_label p a b e = at (slice_get p.formats 0)
  where
    at : (format : Option FormatEntry) → spelled_in p a format ≡ spelled_in p b format
    at None = refl
    at (Some format) = ap (λ l. spelled_as format (writes format.kind l)) e

some_levels : (p : Policy) → 0 < length (written_of p) → 0 < length p.labels
some_levels p some = subst (λ n. 0 < n) (length-map-range_with_len (spelling p) 0 (length p.labels)) some

level_spelled : (p : Policy) (level : ℕ) → 0 < length (written_of p) → spelled_at (written_of p) level ≡ spelling p level
level_spelled p level some = at (nat_lt level (length p.labels)) refl
  where
    few : length (written_of p) ≡ length p.labels
    few = length-map-range_with_len (spelling p) 0 (length p.labels)

    first : (d : Stored) → get_or (written_of p) 0 d ≡ spelling p 0
    first d = get_or-map-range_with_len (spelling p) 0 (length p.labels) 0 0 d (some_levels p some) refl

    at : (b : Bool) → nat_lt level (length p.labels) ≡ b → spelled_at (written_of p) level ≡ spelling p level
    at true is = get_or-map-range_with_len (spelling p) 0 (length p.labels) level level _ (grind (arith, nat_tests, is)) (omega arith)
    at false is =
        let past : length p.labels ≤ level = grind (arith, nat_tests, is) in
        get_or_past (written_of p) level _ (subst (λ n. n ≤ level) (sym few) past)
        ∙ first unspelled
        ∙ sym (same_label p level 0 (label_past p.labels level past (some_levels p some)))

pub label_spelled : (p q : Policy) (labels : Spellings) (level : ℕ) → labels ≡ spellings p → 0 < length labels.written → p ≡ q → spelled_at labels.written level ≡ spelling q level
label_spelled p q labels level are some same =
    ap (λ (l : Spellings). spelled_at l.written level) are
    ∙ level_spelled p level (subst (λ (l : Spellings). 0 < length l.written) are some)
    ∙ ap (λ (r : Policy). spelling r level) same
