-- A label's body: reading and writing are inverse to each other.
use Rattle.std.proofs.Common.{◌≡◌, ℕ, ◌+◌, ◌-◌, ◌*◌, ◌^◌, ◌<◌, ◌≤◌, ◌&&◌, ◌||◌, Bool, true, false, eqb, leb, ltb, List, [], ◌∷◌, ◌++◌, Some, None, length, slice_index, get_or, drop, refl, sym, ap, ◌∙◌, subst, arith, inl, inr, suc, zero, append_assoc}
use Rattle.std.specs.List.{flat_map}
use Rattle.std.specs.Int.{to_be_bytes, from_be_bytes, w32}
use Rattle.std.proofs.lemmas.Bool.{cases_eq, cases_lt, cases_Bool, cond-true, cond-false, eqb-true, eq-eqb, and_parts, and_from, or_cases, or_left, or_right, leb-true, le-leb, ltb-true, lt-ltb}
use Rattle.std.proofs.lemmas.List.{get_or-drop, get_or_past}
use Rattle.std.proofs.lemmas.Nat.{from_be_bytes-to_be_bytes_4}
use Rattle.lnfs_calipso.specs.Label.{Label, IsLabel}
use Rattle.lnfs_calipso.specs.Equality.{same_parts}
use Rattle.lnfs_calipso.specs.Bitmap.{members, words, bitmap_of, IsBitmap}
use Rattle.lnfs_calipso.specs.Body.{body_of, announced, words_in, last_word, is_body, label_of_body}
use Rattle.lnfs_calipso.proofs.Words.{length-bitmap_of, get_or-bitmap_of, bitmap_of-fits, words-few, is_bitmap_of, members-bitmap_of, words-members, bitmap_of-members}
use Rattle.lnfs_calipso.proofs.BodyWords.{length-words_in, get_or-words_in, words_in-flat, length-flat, flat-words_in, four, word-fits, drop_head}

pub label_read : (bytes : List ℕ) → is_body bytes ≡ true
    → label_of_body bytes ≡ Some (record { doi = from_be_bytes w32 bytes; sens = slice_index bytes 5; comps = members (words_in (announced bytes) (drop 6 bytes)) })
unfolding label_of_body
label_read bytes h = cond-true (is_body bytes) (Some (record { doi = from_be_bytes w32 bytes; sens = slice_index bytes 5; comps = members (words_in (announced bytes) (drop 6 bytes)) })) None h

pub label_unread : (bytes : List ℕ) → is_body bytes ≡ false → label_of_body bytes ≡ None
unfolding label_of_body
label_unread bytes h = cond-false (is_body bytes) (Some (record { doi = from_be_bytes w32 bytes; sens = slice_index bytes 5; comps = members (words_in (announced bytes) (drop 6 bytes)) })) None h

-- what a body announces
pub record HasForm (bytes : List ℕ) : Type 0 where
  pub six : 6 ≤ length bytes
  pub few : announced bytes ≤ 60
  pub long : length bytes ≡ 6 + 4 * announced bytes
  pub used : 0 < announced bytes → 0 < last_word bytes

pub form_of : (bytes : List ℕ) → is_body bytes ≡ true → HasForm bytes
form_of bytes is =
    let w = announced bytes in
    let p = and_parts (leb 6 (length bytes) && leb w 60 && eqb (length bytes) (6 + 4 * w)) (eqb w 0 || ltb 0 (last_word bytes)) is in
    let q = and_parts (leb 6 (length bytes) && leb w 60) (eqb (length bytes) (6 + 4 * w)) p.0 in
    let r = and_parts (leb 6 (length bytes)) (leb w 60) q.0 in
    record {
      six = leb-true 6 (length bytes) r.0;
      few = leb-true w 60 r.1;
      long = eqb-true (length bytes) (6 + 4 * w) q.1;
      used = λ pos. last_part w (ltb 0 (last_word bytes)) pos p.1 (last_word bytes) refl;
    }
  where
    last_part : (w : ℕ) (b : Bool) → 0 < w → (eqb w 0 || b) ≡ true → (n : ℕ) → b ≡ ltb 0 n → 0 < n
    last_part w b pos h n e = elim (or_cases (eqb w 0) b h) [ inl z ↦ (let none = eqb-true w 0 z in absurd (omega arith)) | inr t ↦ ltb-true 0 n (sym e ∙ t) ]

pub form_is : (bytes : List ℕ) → HasForm bytes → is_body bytes ≡ true
form_is bytes f =
    let w = announced bytes in
    and_from (leb 6 (length bytes) && leb w 60 && eqb (length bytes) (6 + 4 * w)) (eqb w 0 || ltb 0 (last_word bytes))
    (and_from (leb 6 (length bytes) && leb w 60) (eqb (length bytes) (6 + 4 * w)) (and_from (leb 6 (length bytes)) (leb w 60) (le-leb 6 (length bytes) f.six) (le-leb w 60 f.few)) (eq-eqb (length bytes) (6 + 4 * w) f.long))
    (elim (cases_eq w 0) [
      | inl none ↦ or_left (eqb w 0) (ltb 0 (last_word bytes)) (eq-eqb w 0 none)
      | inr some ↦ or_right (eqb w 0) (ltb 0 (last_word bytes)) (lt-ltb 0 (last_word bytes) (f.used (omega arith)))
    ])

-- the last word of a body is the last of its bitmap
last_in : (bytes : List ℕ) (n : ℕ) → length bytes ≡ 6 + 4 * (n + 1) → get_or (words_in (n + 1) (drop 6 bytes)) n 0 ≡ last_word bytes
last_in bytes n long =
    let place : 6 + 4 * n ≡ length bytes - 4 = omega arith in
    get_or-words_in (n + 1) (drop 6 bytes) n (omega arith)
    ∙ ap (from_be_bytes w32) (sym (drop_head bytes (4 * n)) ∙ ap (λ (k : ℕ). drop k bytes) place)

byte_behind : (bytes : List ℕ) (n : ℕ) → ((k : ℕ) → get_or bytes k 0 < 256) → (k : ℕ) → get_or (drop n bytes) k 0 < 256
byte_behind bytes n fits k = omega (arith, get_or-drop n bytes k 0, fits (n + k))

-- the words of a body are a bitmap
pub words_are : (bytes : List ℕ) → ((k : ℕ) → get_or bytes k 0 < 256) → is_body bytes ≡ true → IsBitmap (words_in (announced bytes) (drop 6 bytes))
words_are bytes fits is =
    let f = form_of bytes is in
    let w = announced bytes in
    record {
      few = omega (arith, length-words_in w (drop 6 bytes), f.few);
      fits = λ k. word_fits k;
      used = λ n e. last n (sym (length-words_in w (drop 6 bytes)) ∙ e) f;
    }
  where
    word_fits : (k : ℕ) → get_or (words_in (announced bytes) (drop 6 bytes)) k 0 < 2 ^ 32
    word_fits k =
        elim (cases_lt k (announced bytes)) [
          | inl l ↦ subst (λ (x : ℕ). x < 2 ^ 32) (sym (get_or-words_in (announced bytes) (drop 6 bytes) k l)) (word-fits (drop (4 * k) (drop 6 bytes)) (byte_behind (drop 6 bytes) (4 * k) (byte_behind bytes 6 fits)))
          | inr past ↦ omega (arith, get_or_past (words_in (announced bytes) (drop 6 bytes)) k 0 (omega (arith, length-words_in (announced bytes) (drop 6 bytes))))
        ]

    last : (n : ℕ) → announced bytes ≡ n + 1 → HasForm bytes → 0 < get_or (words_in (announced bytes) (drop 6 bytes)) n 0
    last n e f =
        subst (λ (x : ℕ). 0 < x)
        (sym (ap (λ (m : ℕ). get_or (words_in m (drop 6 bytes)) n 0) e ∙ last_in bytes n (f.long ∙ ap (λ (m : ℕ). 6 + 4 * m) e)))
        (f.used (omega arith))

-- the body of a label is read as that label
pub read_back : (label : Label) → IsLabel label → label_of_body (body_of label) ≡ Some label
unfolding body_of
read_back label is =
    let n = words label.comps in
    let map = bitmap_of label.comps in
    let flat = flat_map (to_be_bytes w32) map in
    let count : length map ≡ n = length-bitmap_of label.comps in
    let bytes = to_be_bytes w32 label.doi ++ n ∷ label.sens ∷ flat in
    let back : words_in n flat ≡ map = ap (λ (k : ℕ). words_in k flat) (sym count) ∙ words_in-flat map (bitmap_of-fits label.comps) in
    let long : length bytes ≡ 6 + 4 * n = omega (arith, length-flat map, count) in
    label_read bytes
    (form_is bytes (record {
      six = omega arith;
      few = words-few label.comps is.comps;
      long = long;
      used = λ pos. last_used (n - 1) n (omega arith) map back count (is_bitmap_of label.comps is.comps) bytes long refl;
    }))
    ∙ ap Some (same_parts _ label (from_be_bytes-to_be_bytes_4 label.doi is.doi) refl (ap members back ∙ members-bitmap_of label.comps is.comps))
  where
    last_used : (m n : ℕ) → n ≡ m + 1 → (map : List ℕ) → words_in n (flat_map (to_be_bytes w32) map) ≡ map → length map ≡ n → IsBitmap map → (bytes : List ℕ) → length bytes ≡ 6 + 4 * n
        → drop 6 bytes ≡ flat_map (to_be_bytes w32) map → 0 < last_word bytes
    last_used m n e map back count is bytes long behind =
        subst (λ (x : ℕ). 0 < x)
        (ap (λ (ws : List ℕ). get_or ws m 0) (sym back)
        ∙ ap (λ (k : ℕ). get_or (words_in k (flat_map (to_be_bytes w32) map)) m 0) e
        ∙ ap (λ (xs : List ℕ). get_or (words_in (m + 1) xs) m 0) (sym behind)
        ∙ last_in bytes m (long ∙ ap (λ (k : ℕ). 6 + 4 * k) e))
        (is.used m (count ∙ e))

-- the front of a body
record Six (bytes : List ℕ) : Type 0 where
  a : ℕ
  b : ℕ
  c : ℕ
  d : ℕ
  w : ℕ
  s : ℕ
  bits : List ℕ
  is : bytes ≡ a ∷ b ∷ c ∷ d ∷ w ∷ s ∷ bits

six_of : (bytes : List ℕ) → 6 ≤ length bytes → Six bytes
six_of [] l = absurd (omega arith)
six_of (a ∷ []) l = absurd (omega arith)
six_of (a ∷ b ∷ []) l = absurd (omega arith)
six_of (a ∷ b ∷ c ∷ []) l = absurd (omega arith)
six_of (a ∷ b ∷ c ∷ d ∷ []) l = absurd (omega arith)
six_of (a ∷ b ∷ c ∷ d ∷ w ∷ []) l = absurd (omega arith)
six_of (a ∷ b ∷ c ∷ d ∷ w ∷ s ∷ bits) l = record { a = a; b = b; c = c; d = d; w = w; s = s; bits = bits; is = refl }

written_cells : (a b c d w s : ℕ) (bits : List ℕ) → ((k : ℕ) → slice_index (a ∷ b ∷ c ∷ d ∷ w ∷ s ∷ bits) k < 256) → is_body (a ∷ b ∷ c ∷ d ∷ w ∷ s ∷ bits) ≡ true
    → body_of (record { doi = from_be_bytes w32 (a ∷ b ∷ c ∷ d ∷ w ∷ s ∷ bits); sens = s; comps = members (words_in w bits) }) ≡ a ∷ b ∷ c ∷ d ∷ w ∷ s ∷ bits
unfolding body_of
written_cells a b c d w s bits fits is =
    let bytes = a ∷ b ∷ c ∷ d ∷ w ∷ s ∷ bits in
    let f = form_of bytes is in
    let long : length bits ≡ 4 * w = omega (arith, f.long) in
    let map = words_in w bits in
    let bitmap : IsBitmap map = words_are bytes fits is in
    let count : words (members map) ≡ w = words-members map bitmap ∙ length-words_in w bits in
    let flat : flat_map (to_be_bytes w32) (bitmap_of (members map)) ≡ bits =
    ap (flat_map (to_be_bytes w32)) (bitmap_of-members map bitmap) ∙ flat-words_in w bits long (λ k. fits (suc (suc (suc (suc (suc (suc k))))))) in
    ap (λ (front : List ℕ). front ++ words (members map) ∷ s ∷ flat_map (to_be_bytes w32) (bitmap_of (members map))) (four a b c d (w ∷ s ∷ bits) (fits 0) (fits 1) (fits 2) (fits 3))
    ∙ ap (λ (n : ℕ). a ∷ b ∷ c ∷ d ∷ n ∷ s ∷ flat_map (to_be_bytes w32) (bitmap_of (members map))) count
    ∙ ap (λ (rest : List ℕ). a ∷ b ∷ c ∷ d ∷ w ∷ s ∷ rest) flat

-- what is read as a label is its body
pub written_back : (bytes : List ℕ) → ((k : ℕ) → slice_index bytes k < 256) → (label : Label) → label_of_body bytes ≡ Some label → body_of label ≡ bytes
written_back bytes fit label h =
    elim (cases_Bool (is_body bytes)) [
      | inl is ↦ whole bytes (six_of bytes (form_of bytes is).six) fit is label h
      | inr not ↦ absurd (none_some label (sym (label_unread bytes not) ∙ h))
    ]
  where
    none_some : (label : Label) → None ≡ Some label → ⊥
    none_some label e = cc

    some_some : (a b : Label) → Some a ≡ Some b → a ≡ b
    some_some a b e = cc

    whole : (bytes : List ℕ) (six : Six bytes) → ((k : ℕ) → slice_index bytes k < 256) → is_body bytes ≡ true → (label : Label) → label_of_body bytes ≡ Some label → body_of label ≡ bytes
    whole bytes six fit is label h =
        let cells = six.a ∷ six.b ∷ six.c ∷ six.d ∷ six.w ∷ six.s ∷ six.bits in
        let fit' : (k : ℕ) → slice_index cells k < 256 = λ k. subst (λ (b : List ℕ). slice_index b k < 256) six.is (fit k) in
        let is' = ap is_body (sym six.is) ∙ is in
        let l : Label = record { doi = from_be_bytes w32 cells; sens = six.s; comps = members (words_in six.w six.bits) } in
        ap body_of (some_some label l (sym h ∙ ap label_of_body six.is ∙ label_read cells is'))
        ∙ written_cells six.a six.b six.c six.d six.w six.s six.bits fit' is' ∙ sym six.is

-- what is written is the body
pub body_written : (label : Label) (ws number : List ℕ) (doi sens : ℕ) → IsBitmap ws → members ws ≡ label.comps → number ≡ to_be_bytes w32 doi → doi ≡ label.doi → sens ≡ label.sens
    → ((number ++ length ws ∷ []) ++ sens ∷ []) ++ flat_map (to_be_bytes w32) ws ≡ body_of label
unfolding body_of
body_written label ws number doi sens is same written e f =
    let flat = flat_map (to_be_bytes w32) in
    regrouped number (length ws) sens (flat ws)
    ∙ ap (λ (front : List ℕ). front ++ length ws ∷ sens ∷ flat ws) (written ∙ ap (to_be_bytes w32) e)
    ∙ ap (λ (s : ℕ). to_be_bytes w32 label.doi ++ length ws ∷ s ∷ flat ws) f
    ∙ ap (λ (n : ℕ). to_be_bytes w32 label.doi ++ n ∷ label.sens ∷ flat ws) (sym (words-members ws is) ∙ ap words same)
    ∙ ap (λ (bits : List ℕ). to_be_bytes w32 label.doi ++ words label.comps ∷ label.sens ∷ flat bits) (sym (bitmap_of-members ws is) ∙ ap bitmap_of same)
  where
    regrouped : (a : List ℕ) (n s : ℕ) (front : List ℕ) → ((a ++ n ∷ []) ++ s ∷ []) ++ front ≡ a ++ n ∷ s ∷ front
    regrouped a n s front = append_assoc (a ++ n ∷ []) (s ∷ []) front ∙ append_assoc a (n ∷ []) (s ∷ front)

-- the label that was read
pub read_as : (bytes ws : List ℕ) (label : Label) (doi : ℕ) → is_body bytes ≡ true → doi ≡ from_be_bytes w32 bytes → ws ≡ words_in (announced bytes) (drop 6 bytes)
    → label ≡ record { doi = doi; sens = slice_index bytes 5; comps = members ws } → Some label ≡ label_of_body bytes
read_as bytes ws label doi is number same e =
    ap Some (e ∙ ap (λ (d : ℕ). with_parts d (members ws)) number ∙ ap (λ (xs : List ℕ). with_parts (from_be_bytes w32 bytes) (members xs)) same) ∙ sym (label_read bytes is)
  where
    with_parts : ℕ → List ℕ → Label
    with_parts d comps = record { doi = d; sens = slice_index bytes 5; comps = comps }
