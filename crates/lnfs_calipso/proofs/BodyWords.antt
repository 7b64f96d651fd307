-- Words in bytes, in network byte order.
use Rattle.std.proofs.Common.{◌≡◌, ℕ, ◌+◌, ◌-◌, ◌*◌, ◌^◌, ◌<◌, ◌≤◌, List, [], ◌∷◌, ◌++◌, length, get_or, drop, zero, suc, refl, sym, ap, ◌∙◌, arith}
use Rattle.std.specs.List.{flat_map}
use Rattle.std.specs.Int.{to_be_bytes, from_be_bytes, w32}
use Rattle.std.proofs.lemmas.Nat.{be_bytes_4, from_be_bytes-to_be_bytes_4}
use Rattle.lnfs_calipso.specs.Body.{words_in}

pub length-words_in : (n : ℕ) (bytes : List ℕ) → length (words_in n bytes) ≡ n
unfolding words_in
length-words_in zero bytes = refl
length-words_in (suc n) bytes = ap suc (length-words_in n (drop 4 bytes))

none_left : (k : ℕ) → drop {A = ℕ} k [] ≡ []
none_left zero = refl
none_left (suc k) = refl

drop_four : (bytes : List ℕ) (k : ℕ) → drop k (drop 4 bytes) ≡ drop (suc (suc (suc (suc k)))) bytes
drop_four (a ∷ b ∷ c ∷ d ∷ bytes) k = refl
drop_four (a ∷ b ∷ c ∷ []) k = none_left k
drop_four (a ∷ b ∷ []) k = none_left k
drop_four (a ∷ []) k = none_left k
drop_four [] k = none_left k

drop_more : (n : ℕ) (bytes : List ℕ) → drop (4 * n) (drop 4 bytes) ≡ drop (4 * suc n) bytes
drop_more n bytes =
    let four : suc (suc (suc (suc (4 * n)))) ≡ 4 * suc n = omega arith in
    drop_four bytes (4 * n) ∙ ap (λ (k : ℕ). drop k bytes) four

drop_six : (bytes : List ℕ) (k : ℕ) → drop k (drop 6 bytes) ≡ drop (suc (suc (suc (suc (suc (suc k)))))) bytes
drop_six (a ∷ b ∷ c ∷ d ∷ w ∷ s ∷ bytes) k = refl
drop_six (a ∷ b ∷ c ∷ d ∷ w ∷ []) k = none_left k
drop_six (a ∷ b ∷ c ∷ d ∷ []) k = none_left k
drop_six (a ∷ b ∷ c ∷ []) k = none_left k
drop_six (a ∷ b ∷ []) k = none_left k
drop_six (a ∷ []) k = none_left k
drop_six [] k = none_left k

-- what lies behind the head
pub drop_head : (bytes : List ℕ) (k : ℕ) → drop (6 + k) bytes ≡ drop k (drop 6 bytes)
drop_head bytes k =
    let six : 6 + k ≡ suc (suc (suc (suc (suc (suc k))))) = omega arith in
    ap (λ (j : ℕ). drop j bytes) six ∙ sym (drop_six bytes k)

-- each word by its place
pub get_or-words_in : (n : ℕ) (bytes : List ℕ) (k : ℕ) → k < n → get_or (words_in n bytes) k 0 ≡ from_be_bytes w32 (drop (4 * k) bytes)
unfolding words_in
get_or-words_in zero bytes k l = absurd (omega arith)
get_or-words_in (suc n) bytes zero l = refl
get_or-words_in (suc n) bytes (suc k) l = get_or-words_in n (drop 4 bytes) k (omega arith) ∙ ap (from_be_bytes w32) (drop_more k bytes)

-- one more word
words_in-suc : (n : ℕ) (bytes : List ℕ) → words_in (suc n) bytes ≡ words_in n bytes ++ from_be_bytes w32 (drop (4 * n) bytes) ∷ []
unfolding words_in
words_in-suc zero bytes = refl
words_in-suc (suc n) bytes =
    ap (λ (ws : List ℕ). from_be_bytes w32 bytes ∷ ws) (words_in-suc n (drop 4 bytes))
    ∙ ap (λ (w : ℕ). from_be_bytes w32 bytes ∷ words_in n (drop 4 bytes) ++ w ∷ []) (ap (from_be_bytes w32) (drop_more n bytes))

pub words_in-more : (n : ℕ) (bytes : List ℕ) → words_in (n + 1) bytes ≡ words_in n bytes ++ from_be_bytes w32 (drop (4 * n) bytes) ∷ []
words_in-more n bytes =
    let one : n + 1 ≡ suc n = omega arith in
    ap (λ (k : ℕ). words_in k bytes) one ∙ words_in-suc n bytes

-- words are read as they are written
pub words_in-flat : (ws : List ℕ) → ((k : ℕ) → get_or ws k 0 < 2 ^ 32) → words_in (length ws) (flat_map (to_be_bytes w32) ws) ≡ ws
unfolding words_in
words_in-flat [] fits = refl
words_in-flat (w ∷ ws) fits =
    ap (λ (v : ℕ). v ∷ words_in (length ws) (flat_map (to_be_bytes w32) ws)) (from_be_bytes-to_be_bytes_4 w (fits 0))
    ∙ ap (λ (vs : List ℕ). w ∷ vs) (words_in-flat ws (λ k. fits (suc k)))

pub length-flat : (ws : List ℕ) → length (flat_map (to_be_bytes w32) ws) ≡ 4 * length ws
length-flat [] = refl
length-flat (w ∷ ws) = ap (λ (n : ℕ). suc (suc (suc (suc n)))) (length-flat ws) ∙ omega arith

-- four bytes are those of their number
pub four : (a b c d : ℕ) (rest : List ℕ) → a < 256 → b < 256 → c < 256 → d < 256 → to_be_bytes w32 (from_be_bytes w32 (a ∷ b ∷ c ∷ d ∷ rest)) ≡ a ∷ b ∷ c ∷ d ∷ []
four a b c d rest la lb lc ld = be_bytes_4 (a ∷ b ∷ c ∷ d ∷ []) (from_be_bytes w32 (a ∷ b ∷ c ∷ d ∷ rest)) refl (front la lb lc ld) refl
  where
    front : a < 256 → b < 256 → c < 256 → d < 256 → (i : ℕ) → get_or (a ∷ b ∷ c ∷ d ∷ []) i 0 < 256
    front la lb lc ld zero = la
    front la lb lc ld (suc zero) = lb
    front la lb lc ld (suc (suc zero)) = lc
    front la lb lc ld (suc (suc (suc zero))) = ld
    front la lb lc ld (suc (suc (suc (suc i)))) = omega arith

-- bytes that are whole words are written as they are read
pub flat-words_in : (n : ℕ) (bytes : List ℕ) → length bytes ≡ 4 * n → ((k : ℕ) → get_or bytes k 0 < 256) → flat_map (to_be_bytes w32) (words_in n bytes) ≡ bytes
unfolding words_in
flat-words_in zero [] long fits = refl
flat-words_in zero (a ∷ bytes) long fits = absurd (omega arith)
flat-words_in (suc n) (a ∷ b ∷ c ∷ d ∷ bytes) long fits =
    ap (λ (front : List ℕ). front ++ flat_map (to_be_bytes w32) (words_in n bytes)) (four a b c d bytes (fits 0) (fits 1) (fits 2) (fits 3))
    ∙ ap (λ (rest : List ℕ). a ∷ b ∷ c ∷ d ∷ rest) (flat-words_in n bytes (omega (arith, long)) (λ k. fits (suc (suc (suc (suc k))))))
flat-words_in (suc n) [] long fits = absurd (omega arith)
flat-words_in (suc n) (a ∷ []) long fits = absurd (omega arith)
flat-words_in (suc n) (a ∷ b ∷ []) long fits = absurd (omega arith)
flat-words_in (suc n) (a ∷ b ∷ c ∷ []) long fits = absurd (omega arith)

-- a word of bytes fits its type
pub word-fits : (bytes : List ℕ) → ((k : ℕ) → get_or bytes k 0 < 256) → from_be_bytes w32 bytes < 2 ^ 32
word-fits bytes fits = omega (arith, fits 0, fits 1, fits 2, fits 3)
