-- The names of a format are a table: no two have one level or the same bytes.
use Rattle.std.proofs.Common.{◌≡◌, ◌<◌, ◌==◌, ℕ, true, false, ◌&&◌, ◌||◌, List, [], ◌∷◌, ◌++◌, length, refl, sym, ◌∙◌, inl, inr}
use Rattle.std.specs.Prelude.{None, All}
use Rattle.std.specs.List.{list_any, filter_map}
use Rattle.std.proofs.lemmas.Bool.{cases_Bool, and_parts, and_from, eqb-true, eq-eqb, false≢true, or_parts, or_left, or_right}
use Rattle.std.proofs.lemmas.List.Elements.{All-push, All-nil, All-head, All-tail}
use Rattle.std.specs.Str.{bytes_eq}
use Rattle.std.proofs.lemmas.Slice.Eq.{bytes_eq-Decides}
use Rattle.lnfs_calipso.specs.Label.{Label, label_at}
use Rattle.lnfs_calipso.specs.Same.{same_label}
use Rattle.lnfs_calipso.specs.Equality.{same_label-true}
use Rattle.lnfs_calipso.specs.Levels.{Apart}
use Rattle.lnfs_calipso.proofs.Lattices.{one_place}
use Rattle.lnfs_format.specs.Kinds.{reads_name, writes_name}
use Rattle.lnfs_format.specs.Laws.{IsTable}
use Rattle.lnfs_format.specs.Entries.{is_pair}
use Rattle.lnfs_policy.specs.Rows.{name_row}
use Rattle.lnfs_policy.specs.Fits.{clashes}
use Rattle.lnfs_policy.specs.declared.rows.LevelName.{LevelName}

-- the later name has or_parts the level nor the bytes of the earlier in its format
abbrev pub IsApart : LevelName → LevelName → Type 0
IsApart earlier name = clashes name.pair.lfs name.pair.pi name.level.0 name.bytes earlier ≡ false

abbrev pub Distinct : List LevelName → Type 0
Distinct [] = Unit {0}
Distinct (name ∷ names) = All (IsApart name) names × Distinct names

pub distinct_push : (names : List LevelName) (name : LevelName) → Distinct names → list_any (clashes name.pair.lfs name.pair.pi name.level.0 name.bytes) names ≡ false → Distinct (names ++ name ∷ [])
distinct_push [] name d e = (All-nil (IsApart name), tt)
distinct_push (m ∷ names) name d e =
    let n = or_parts (clashes name.pair.lfs name.pair.pi name.level.0 name.bytes m) (list_any (clashes name.pair.lfs name.pair.pi name.level.0 name.bytes) names) e in
    (All-push (IsApart m) names name d.0 n.0, distinct_push names name d.1 n.1)

-- two names of one format that have one level, or the same bytes, aren't apart
clash : (m n : LevelName) → m.pair.lfs ≡ n.pair.lfs → m.pair.pi ≡ n.pair.pi → (m.level.0 == n.level.0 || bytes_eq m.bytes n.bytes) ≡ true → IsApart m n → ⊥
clash m n l p e a =
    let front : (m.pair.lfs == n.pair.lfs && m.pair.pi == n.pair.pi) ≡ true = and_from (m.pair.lfs == n.pair.lfs) (m.pair.pi == n.pair.pi) (eq-eqb m.pair.lfs n.pair.lfs l) (eq-eqb m.pair.pi n.pair.pi p) in
    false≢true (sym a ∙ and_from (m.pair.lfs == n.pair.lfs && m.pair.pi == n.pair.pi) (m.level.0 == n.level.0 || bytes_eq m.bytes n.bytes) front e)

module _ (labels : List Label) (apart : Apart labels (length labels)) (lfs pi : ℕ) where
  abbrev IsKnown : LevelName → Type 0
  IsKnown name = name.level.0 < length labels

  of_one : (m n : LevelName) → is_pair lfs pi m.pair ≡ true → is_pair lfs pi n.pair ≡ true → (m.pair.lfs ≡ n.pair.lfs) × (m.pair.pi ≡ n.pair.pi)
  of_one m n e f =
      let p = and_parts (m.pair.lfs == lfs) (m.pair.pi == pi) e in
      let q = and_parts (n.pair.lfs == lfs) (n.pair.pi == pi) f in
      (eqb-true m.pair.lfs lfs p.0 ∙ sym (eqb-true n.pair.lfs lfs q.0), eqb-true m.pair.pi pi p.1 ∙ sym (eqb-true n.pair.pi pi q.1))

  module _ (m : LevelName) (here : is_pair lfs pi m.pair ≡ true) (known : IsKnown m) where
    no_label : (names : List LevelName) → All (IsApart m) names → All IsKnown names → writes_name (filter_map (name_row labels lfs pi) names) (label_at labels m.level.0) ≡ None
    no_label [] a k = refl
    no_label (n ∷ names) a k =
        let deeper = no_label names (All-tail (IsApart m) n names a) (All-tail IsKnown n names k) in
        elim (cases_Bool (is_pair lfs pi n.pair)) [
          | inr f ↦ rw f deeper
          | inl t ↦ elim (cases_Bool (same_label (label_at labels n.level.0) (label_at labels m.level.0))) [
            | inr f ↦ rw (t, f) deeper
            | inl s ↦
                let one = of_one m n here t in
                let level : n.level.0 ≡ m.level.0 = one_place labels apart n.level.0 m.level.0 (All-head IsKnown n names k) known (same_label-true _ _ s) in
                absurd (clash m n one.0 one.1 (or_left (m.level.0 == n.level.0) (bytes_eq m.bytes n.bytes) (eq-eqb m.level.0 n.level.0 (sym level))) (All-head (IsApart m) n names a))
          ]
        ]

    no_bytes : (names : List LevelName) → All (IsApart m) names → reads_name (filter_map (name_row labels lfs pi) names) m.bytes ≡ None
    no_bytes [] a = refl
    no_bytes (n ∷ names) a =
        let deeper = no_bytes names (All-tail (IsApart m) n names a) in
        elim (cases_Bool (is_pair lfs pi n.pair)) [
          | inr f ↦ rw f deeper
          | inl t ↦ elim (cases_Bool (bytes_eq n.bytes m.bytes)) [
            | inr f ↦ rw (t, f) deeper
            | inl s ↦
                let one = of_one m n here t in
                let bytes : n.bytes ≡ m.bytes = (bytes_eq-Decides n.bytes m.bytes).0 s in
                let same : bytes_eq m.bytes n.bytes ≡ true = (bytes_eq-Decides m.bytes n.bytes).1 (sym bytes) in
                absurd (clash m n one.0 one.1 (or_right (m.level.0 == n.level.0) (bytes_eq m.bytes n.bytes) same) (All-head (IsApart m) n names a))
          ]
        ]

  pub table : (names : List LevelName) → Distinct names → All IsKnown names → IsTable (filter_map (name_row labels lfs pi) names)
  table [] d k = tt
  table (m ∷ names) d k =
      let deeper = table names d.1 (All-tail IsKnown m names k) in
      elim (cases_Bool (is_pair lfs pi m.pair)) [
        | inr f ↦ rw f deeper
        | inl t ↦ rw t (no_label m t (All-head IsKnown m names k) names d.0 (All-tail IsKnown m names k), no_bytes m t (All-head IsKnown m names k) names d.0, deeper)
      ]
