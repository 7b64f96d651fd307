-- The sizes of the values of attributes.
use Rattle.std.proofs.Common.{◌≡◌, ◌<◌, ◌+◌, ◌*◌, ◌/◌, ◌%◌, ◌++◌, ℕ, Bool, true, false, cond, eqb, List, [], ◌∷◌, length, take, get_or, min, refl, sym, ap, ◌∙◌, length-append, append-nil, arith}
use Rattle.std.specs.Prelude.{◌&&◌}
use Rattle.std.specs.List.{flat_map}
use Rattle.std.specs.Int.{div_ceil}
use Rattle.std.proofs.lemmas.Bool.{eqb-true}
use Rattle.std.proofs.lemmas.Bool.Decides.{nat_tests}
use Rattle.std.proofs.lemmas.Grind.{flat_map-append}
use Rattle.std.proofs.lemmas.List.{take_more}
use Rattle.lnfs_xdr.specs.Canon.{word, long, padded, opaque}
use Rattle.lnfs_xdr.proofs.Sizes.{length-word, length-opaque}
use Rattle.lnfs_attrs.specs.declared.bitmap.Bitmap.{Bitmap}
use Rattle.lnfs_attrs.specs.declared.numbers.TheConstants.{SEC_LABEL}
use Rattle.lnfs_attrs.specs.declared.view.LabelValue.{LabelValue}
use Rattle.lnfs_attrs.specs.declared.view.View.{View}
use Rattle.lnfs_attrs.specs.Bitmaps.{has_attr}
use Rattle.lnfs_attrs.specs.Attributes.{Attribute, table, value_in, value_of, attr_text, label_text}
use Rattle.lnfs_attrs.specs.Sizes.{ViewFits}
use Rattle.lnfs_nodes.specs.Units.{sizes, units_in, units_at}

-- ---- one attribute

-- the sizes of the table's values in the order of the table, and no further attribute than the last
abbrev Sized : View → List Attribute → List (ℕ × ℕ) → ℕ → Type 0
Sized v [] [] n = Unit {0}
Sized v [] (u ∷ units) n = ⊥
Sized v (a ∷ []) [] n = eqb n a.0 ≡ false
Sized v (a ∷ b ∷ rows) [] n = ⊥
Sized v (a ∷ rows) (u ∷ units) n = (a.0 ≡ u.0) × (length (a.2 v) ≡ 4 * u.1) × Sized v rows units n

one_sized : (b : Bool) (xs ys : List ℕ) (k m : ℕ) → length xs ≡ 4 * k → length ys ≡ 4 * m → length (cond b xs ys) ≡ 4 * cond b k m
one_sized true xs ys k m here rest = here
one_sized false xs ys k m here rest = rest

in_order : (v : View) (rows : List Attribute) (units : List (ℕ × ℕ)) (n : ℕ) → Sized v rows units n → length (value_in rows n v) ≡ 4 * units_in units n
in_order v [] [] n sized = refl
in_order v [] (u ∷ units) n sized = absurd sized
in_order v (a ∷ []) [] n sized = ap (λ (b : Bool). length (cond b (a.2 v) [])) sized
in_order v (a ∷ b ∷ rows) [] n sized = absurd sized
in_order v (a ∷ rows) (u ∷ units) n sized =
    one_sized (eqb n a.0) (a.2 v) (value_in rows n v) u.1 (units_in units n) sized.1 (in_order v rows units n sized.2)
    ∙ ap (λ (m : ℕ). 4 * cond (eqb n m) u.1 (units_in units n)) sized.0

handle_sized : (handle : List ℕ) → length handle ≡ 12 → length (opaque handle) ≡ 16
handle_sized handle e = omega (arith, length-opaque handle, e)

table_sized : (v : View) (n : ℕ) → eqb n SEC_LABEL ≡ false → length v.handle ≡ 12 → Sized v table sizes n
unfolding word long padded opaque
table_sized v n other handle = (refl, refl, (refl, refl, (refl, refl, (refl, refl, (refl, refl, (refl, refl, (refl, refl, (refl, refl, (refl, refl, (refl, refl, (refl, refl, (refl, refl, (refl, handle_sized v.handle handle, (refl, refl, (refl, refl, (refl, refl, (refl, refl, (refl, refl, (refl, refl, (refl, refl, (refl, refl, (refl, refl, (refl, refl, (refl, refl, (refl, refl, other)))))))))))))))))))))))))

value_sized : (v : View) (n : ℕ) → eqb n SEC_LABEL ≡ false → ViewFits v → length (value_of n v) ≡ 4 * units_at n
unfolding value_of units_at
value_sized v n other fits = in_order v table sizes n (table_sized v n other fits.0)

not_label : (b : Bitmap) (n : ℕ) → has_attr b SEC_LABEL ≡ false → has_attr b n ≡ true → eqb n SEC_LABEL ≡ false
not_label b n none has = at (eqb n SEC_LABEL) refl
  where
    at : (same : Bool) → eqb n SEC_LABEL ≡ same → same ≡ false
    at true e = absurd (let both : true ≡ false = sym has ∙ ap (has_attr b) (eqb-true n SEC_LABEL e) ∙ none in cc)
    at false e = refl

-- an attribute of a set without sec_label
pub attr_sized : (b : Bitmap) (v : View) (n units : ℕ) → has_attr b SEC_LABEL ≡ false → has_attr b n ≡ true → ViewFits v → units ≡ units_at n → length (attr_text b v true n) ≡ 4 * units
unfolding attr_text
attr_sized b v n units none has fits is =
    ap (λ (has : Bool). length (cond (has && true) (value_of n v) [])) has ∙ value_sized v n (not_label b n none has) fits ∙ ap (λ (k : ℕ). 4 * k) (sym is)

-- ---- many

-- one more value
pub units_more : (text : ℕ → List ℕ) (numbers : List ℕ) (i units more : ℕ) → i < length numbers → length (flat_map text (take i numbers)) ≡ 4 * units → length (text (get_or numbers i 0)) ≡ 4 * more
    → length (flat_map text (take (i + 1) numbers)) ≡ 4 * (units + more)
units_more text numbers i units more lt before here =
    let last : List ℕ = text (get_or numbers i 0) in
    let parts : length (flat_map text (take (i + 1) numbers)) ≡ length (flat_map text (take i numbers)) + length last =
    ap (λ (ns : List ℕ). length (flat_map text ns)) (take_more numbers i 0 lt)
    ∙ ap length (flat_map-append text (take i numbers) (get_or numbers i 0 ∷ []))
    ∙ length-append (flat_map text (take i numbers)) (last ++ [])
    ∙ ap (λ (back : List ℕ). length (flat_map text (take i numbers)) + length back) (append-nil last) in
    omega (arith, parts, before, here)

rounded_up : (n : ℕ) → n / 4 + min 1 (n % 4) ≡ (n + 3) / 4
rounded_up n = grind (arith, nat_tests)

-- a label behind its format, its policy identifier and its length
pub label_long : (l : LabelValue) (bytes units : ℕ) → bytes ≡ length l.bytes → units ≡ div_ceil bytes 4 → length (label_text l) ≡ 4 * (3 + units)
label_long l bytes units is rounded =
    let up : div_ceil bytes 4 ≡ (bytes + 3) / 4 = rounded_up bytes in
    simp (length-append, length-word, length-opaque) (omega (arith, is, rounded, up))
