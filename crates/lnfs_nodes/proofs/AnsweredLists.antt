-- The list of what is answered, as it is written: the values of one size, and the label behind them.
use Rattle.std.proofs.Common.{◌≡◌, ◌<◌, ◌+◌, ◌*◌, ◌%◌, ◌++◌, ℕ, cond, Bool, true, false, not, List, [], ◌∷◌, length, take, refl, sym, ap, ◌∙◌, append_assoc, append-nil, length-append, arith}
use Rattle.std.specs.Prelude.{◌==◌, ◌&&◌, nat_lt}
use Rattle.std.specs.List.{flat_map, list_all}
use Rattle.std.proofs.lemmas.Bool.Decides.{nat_tests}
use Rattle.std.proofs.lemmas.Grind.{flat_map-append}
use Rattle.lnfs_xdr.specs.Format.{padding}
use Rattle.lnfs_xdr.specs.Canon.{word, padded, opaque, zeros}
use Rattle.lnfs_attrs.specs.declared.bitmap.Bitmap.{Bitmap}
use Rattle.lnfs_attrs.specs.declared.numbers.TheConstants.{SEC_LABEL}
use Rattle.lnfs_attrs.specs.declared.raw.RawAttrs.{RawAttrs}
use Rattle.lnfs_attrs.specs.declared.view.LabelValue.{LabelValue}
use Rattle.lnfs_attrs.specs.declared.view.View.{View}
use Rattle.lnfs_attrs.specs.Bitmaps.{bitmap_text, has_attr}
use Rattle.lnfs_attrs.specs.Attributes.{table, numbers_in, is_listed, is_answered, value_of, attr_text, list_text, label_text}
use Rattle.lnfs_arguments.specs.SharedTexts.{attrs_text}
use Rattle.lnfs_operations.specs.Shown.{answer_to}
use Rattle.lnfs_operations.proofs.BitmapLaws.{bitmap_has}
use Rattle.lnfs_nodes.specs.Masks.{answered_mask, is_sized}

-- ---- texts of the same numbers

and_left : (a b : Bool) → (a && b) ≡ true → a ≡ true
and_left true b e = refl
and_left false b e = e

and_right : (a b : Bool) → (a && b) ≡ true → b ≡ true
and_right true b e = e
and_right false b e = cc

and_true : (a : Bool) → (a && true) ≡ a
and_true true = refl
and_true false = refl

-- numbers that pass a test have the same texts, where each that passes it has
same_texts : (f g : ℕ → List ℕ) (test : ℕ → Bool) (ns : List ℕ) → list_all test ns ≡ true → ((n : ℕ) → test n ≡ true → f n ≡ g n) → flat_map f ns ≡ flat_map g ns
same_texts f g test [] all same = refl
same_texts f g test (n ∷ ns) all same =
    ap (λ (front : List ℕ). front ++ flat_map f ns) (same n (and_left (test n) (list_all test ns) all))
    ∙ ap (λ (back : List ℕ). g n ++ back) (same_texts f g test ns (and_right (test n) (list_all test ns) all) same)

text_by : (has answers : Bool) (text : List ℕ) → has ≡ answers → cond has text [] ≡ cond answers text []
text_by has answers text e = ap (λ (b : Bool). cond b text []) e

-- ---- the bitmap that is answered

abbrev is_numbered : ℕ → Bool
is_numbered n = is_listed n && nat_lt n 256

all_numbered : list_all is_numbered (numbers_in table) ≡ true
unfolding is_listed
all_numbered = refl

told : (asked : Bitmap) (inner : Bool) (n : ℕ) → n < 256 → is_listed n ≡ true → is_answered (answered_mask asked inner) true n ≡ is_answered asked inner n
told asked inner n lt listed =
    and_true (has_attr (answered_mask asked inner) n) ∙ bitmap_has (λ n. is_listed n && is_answered asked inner n) n lt ∙ ap (λ (b : Bool). b && is_answered asked inner n) listed

numbered_below : (n : ℕ) → is_numbered n ≡ true → n < 256
numbered_below n e = below (nat_lt n 256) refl (and_right (is_listed n) (nat_lt n 256) e)
  where
    below : (b : Bool) → nat_lt n 256 ≡ b → b ≡ true → n < 256
    below true is e = grind (arith, nat_tests, is)
    below false is e = absurd cc

numbered_listed : (n : ℕ) → is_numbered n ≡ true → is_listed n ≡ true
numbered_listed n e = and_left (is_listed n) (nat_lt n 256) e

pub list_of_mask : (asked : Bitmap) (inner : Bool) (v : View) → list_text (answered_mask asked inner) v true ≡ list_text asked v inner
unfolding list_text attr_text
list_of_mask asked inner v =
    same_texts (attr_text (answered_mask asked inner) v true) (attr_text asked v inner) is_numbered (numbers_in table) all_numbered
    (λ n e. text_by _ _ (value_of n v) (told asked inner n (numbered_below n e) (numbered_listed n e)))

pub answer_is : (asked mask : Bitmap) (inner : Bool) (v : View) (a : RawAttrs) → mask ≡ answered_mask asked inner → a ≡ record { mask = mask; list = list_text mask v true } → a ≡ answer_to asked inner v
answer_is asked mask inner v a is told =
    told
    ∙ ap (λ (m : Bitmap). let x : RawAttrs = record { mask = m; list = list_text m v true } in x) is
    ∙ ap (λ (l : List ℕ). let x : RawAttrs = record { mask = answered_mask asked inner; list = l } in x) (list_of_mask asked inner v)

-- ---- the label behind the values of one size

-- the numbers before that of sec_label
abbrev front : List ℕ
front = take 25 (numbers_in table)

abbrev is_plain : ℕ → Bool
is_plain n = is_listed n && not (n == SEC_LABEL)

all_plain : list_all is_plain front ≡ true
unfolding is_listed
all_plain = refl

-- sec_label is not among them
pub no_label : (mask sized : Bitmap) → ((n : ℕ) → has_attr sized n ≡ (is_listed n && is_sized mask n)) → has_attr sized SEC_LABEL ≡ false
unfolding is_listed
no_label mask sized is = is SEC_LABEL

module _ (mask sized : Bitmap) (v : View) (l : LabelValue) (is : (n : ℕ) → has_attr sized n ≡ (is_listed n && is_sized mask n)) where
  plain_has : (n : ℕ) → is_plain n ≡ true → has_attr mask n ≡ has_attr sized n
  plain_has n e =
      sym (
      is n ∙ ap (λ (b : Bool). b && is_sized mask n) (and_left (is_listed n) (not (n == SEC_LABEL)) e)
      ∙ ap (λ (b : Bool). b && has_attr mask n) (and_right (is_listed n) (not (n == SEC_LABEL)) e))

  -- the values don't look at the label
  plain_values : flat_map (attr_text mask (record v { label = l }) true) front ≡ flat_map (attr_text mask v true) front
  unfolding attr_text value_of
  plain_values = refl

  plain_texts : flat_map (attr_text mask v true) front ≡ flat_map (attr_text sized v true) front
  unfolding attr_text
  plain_texts = same_texts (attr_text mask v true) (attr_text sized v true) is_plain front all_plain (λ n e. text_by _ _ (value_of n v) (ap (λ (b : Bool). b && true) (plain_has n e)))

  -- the text of the last number
  last_text : (b : Bool) → has_attr mask SEC_LABEL ≡ b → attr_text mask (record v { label = l }) true SEC_LABEL ≡ cond b (label_text l) []
  unfolding attr_text value_of
  last_text b e = ap (λ (b : Bool). cond (b && true) (label_text l) []) e ∙ ap (λ (b : Bool). cond b (label_text l) []) (and_true b)

  last_none : attr_text sized v true SEC_LABEL ≡ []
  unfolding attr_text
  last_none = ap (λ (b : Bool). cond (b && true) (value_of SEC_LABEL v) []) (no_label mask sized is)

  sized_list : list_text sized v true ≡ flat_map (attr_text sized v true) front
  unfolding list_text
  sized_list =
      flat_map-append (attr_text sized v true) front (SEC_LABEL ∷ [])
      ∙ ap (λ (back : List ℕ). flat_map (attr_text sized v true) front ++ (back ++ [])) last_none ∙ append-nil (flat_map (attr_text sized v true) front)

  pub list_split : list_text mask (record v { label = l }) true ≡ list_text sized v true ++ cond (has_attr mask SEC_LABEL) (label_text l) []
  unfolding list_text
  list_split =
      flat_map-append (attr_text mask (record v { label = l }) true) front (SEC_LABEL ∷ [])
      ∙ ap (λ (back : List ℕ). flat_map (attr_text mask (record v { label = l }) true) front ++ back) (append-nil _ ∙ last_text (has_attr mask SEC_LABEL) refl)
      ∙ ap (λ (values : List ℕ). values ++ cond (has_attr mask SEC_LABEL) (label_text l) []) (plain_values ∙ plain_texts ∙ sym sized_list)

-- ---- the list behind its length

-- whole units have no pad bytes
opaque_whole : (list : List ℕ) (n : ℕ) → length list ≡ n → n % 4 ≡ 0 → opaque list ≡ word n ++ list
unfolding opaque padded
opaque_whole list n is whole =
    let none : padding (length list) ≡ 0 = omega (arith, is, whole) in
    ap (λ (pad : ℕ). word (length list) ++ (list ++ take pad zeros)) none
    ∙ ap (λ (bytes : List ℕ). word (length list) ++ bytes) (append-nil list) ∙ ap (λ (k : ℕ). word k ++ list) is

pub answer_put : (a : RawAttrs) (n : ℕ) (old middle counted new : List ℕ) → length a.list ≡ n → n % 4 ≡ 0
    → middle ≡ old ++ bitmap_text a.mask → counted ≡ middle ++ word n → new ≡ counted ++ a.list → new ≡ old ++ attrs_text a
unfolding attrs_text
answer_put a n old middle counted new long whole first second third =
    third ∙ ap (λ (b : List ℕ). b ++ a.list) (second ∙ ap (λ (b : List ℕ). b ++ word n) first)
    ∙ append_assoc (old ++ bitmap_text a.mask) (word n) a.list ∙ append_assoc old (bitmap_text a.mask) (word n ++ a.list)
    ∙ ap (λ (list : List ℕ). old ++ (bitmap_text a.mask ++ list)) (sym (opaque_whole a.list n long whole))

-- the values of one size, and the label behind them
pub list_put : (mask sized : Bitmap) (v : View) (l : LabelValue) → ((n : ℕ) → has_attr sized n ≡ (is_listed n && is_sized mask n)) → (old middle new : List ℕ)
    → middle ≡ old ++ list_text sized v true → new ≡ middle ++ cond (has_attr mask SEC_LABEL) (label_text l) [] → new ≡ old ++ list_text mask (record v { label = l }) true
list_put mask sized v l is old middle new first second =
    let label : List ℕ = cond (has_attr mask SEC_LABEL) (label_text l) [] in
    second ∙ ap (λ (b : List ℕ). b ++ label) first ∙ append_assoc old (list_text sized v true) label ∙ ap (λ (b : List ℕ). old ++ b) (sym (list_split mask sized v l is))

pub list_long : (mask sized : Bitmap) (v : View) (l : LabelValue) → ((n : ℕ) → has_attr sized n ≡ (is_listed n && is_sized mask n)) → (units label : ℕ)
    → length (list_text sized v true) ≡ 4 * units → length (cond (has_attr mask SEC_LABEL) (label_text l) []) ≡ 4 * label → length (list_text mask (record v { label = l }) true) ≡ 4 * (units + label)
list_long mask sized v l is units label first second =
    let both : length (list_text mask (record v { label = l }) true) ≡ length (list_text sized v true) + length (cond (has_attr mask SEC_LABEL) (label_text l) []) =
    ap length (list_split mask sized v l is) ∙ length-append (list_text sized v true) (cond (has_attr mask SEC_LABEL) (label_text l) []) in
    omega (arith, both, first, second)
