-- Whole messages: formats and measured items one after the other, up to the end of the bytes or to a rest that is left unread.
use Rattle.std.specs.Prelude.{◌≡◌, ◌≢◌, ◌⊎◌, ◌+◌, ℕ, List, [], ◌++◌, length, take, drop, Result, Ok, Err, ◌==◌, nat_le, if◌then◌else◌}
use Rattle.lnfs_xdr.specs.declared.error.XdrError.{XdrError}
use Rattle.lnfs_xdr.specs.Format.{Format, Spells, Stuck, Leaving}
use Rattle.lnfs_xdr.specs.Reading.{Fault, Leaves, Read, read}

pub data Message : Type 0 → Type 1 where
  -- nothing follows
  Closed : {B : Type 0} → B → Message B
  -- what follows is unread
  Unread : {B : Type 0} → B → Message B
  -- a format and then the others; where it leaves, the last is the value, and what follows is unread
  Next : {E A B : Type 0} → Format E A → (A → Message B) → (E → B) → Message B
  -- one item, whose length is told by all the bytes that are left
  Measured : {B : Type 0} → (List ℕ → Result ℕ XdrError) → (List ℕ → Message B) → Message B

-- The bytes are this message.
abbrev pub Tells : {B : Type 0} → Message B → B → List ℕ → Type 0
Tells (Closed y) x bytes = (y ≡ x) × (bytes ≡ [])
Tells (Unread y) x bytes = y ≡ x
Tells (Next {E} {A} f k g) x bytes =
    ((a : A) × (front : List ℕ) × (back : List ℕ) × Spells f a front × (bytes ≡ front ++ back) × Tells (k a) x back)
    ⊎ ((e : E) × Leaving f bytes e × (g e ≡ x))
Tells (Measured measure k) x bytes = (front : List ℕ) × (back : List ℕ) × (bytes ≡ front ++ back) × (measure bytes ≡ Ok (length front)) × Tells (k front) x back

-- no measured item stands at the front
abbrev pub NoneMeasured : (List ℕ → Result ℕ XdrError) → List ℕ → Type 0
NoneMeasured measure bytes = (front back : List ℕ) → bytes ≡ front ++ back → measure bytes ≡ Ok (length front) → ⊥

-- The items before `stuck` are there. Then comes one that is not, or bytes after the end.
abbrev pub Refuses : {B : Type 0} → Message B → List ℕ → List ℕ → Type 0
Refuses (Closed y) bytes stuck = (bytes ≢ []) × (bytes ≡ stuck)
Refuses (Unread y) bytes stuck = ⊥
Refuses (Next {E} {A} f k g) bytes stuck =
    Stuck f bytes stuck ⊎ ((a : A) × (front : List ℕ) × (back : List ℕ) × Spells f a front × (bytes ≡ front ++ back) × Refuses (k a) back stuck)
Refuses (Measured measure k) bytes stuck =
    (NoneMeasured measure bytes × (bytes ≡ stuck)) ⊎ ((front : List ℕ) × (back : List ℕ) × (bytes ≡ front ++ back) × (measure bytes ≡ Ok (length front)) × Refuses (k front) back stuck)

-- the fault at an offset
abbrev pub RefusesAt : {B : Type 0} → Message B → List ℕ → ℕ → Type 0
RefusesAt m bytes at = (stuck : List ℕ) × Refuses m bytes stuck × (at + length stuck ≡ length bytes)

abbrev pub decided : {E A B : Type 0} → Read E A → (A → List ℕ → Result B (List ℕ)) → (E → B) → Result B (List ℕ)
decided (Ok x) k g = k x.0 x.1
decided (Err (Fault c stuck)) k g = Err stuck
decided (Err (Leaves e)) k g = Ok (g e)

-- so many bytes, if they are there, and what follows them
abbrev pub cut_at : {B : Type 0} → Result ℕ XdrError → List ℕ → (List ℕ → List ℕ → Result B (List ℕ)) → Result B (List ℕ)
cut_at (Ok n) bytes k = if nat_le n (length bytes) then k (take n bytes) (drop n bytes) else Err bytes
cut_at (Err c) bytes k = Err bytes

-- the message, or what is left where no item is
abbrev pub parse : {B : Type 0} → Message B → List ℕ → Result B (List ℕ)
parse (Closed y) bytes = if length bytes == 0 then Ok y else Err bytes
parse (Unread y) bytes = Ok y
parse (Next f k g) bytes = decided (read f bytes) (λ a rest. parse (k a) rest) g
parse (Measured measure k) bytes = cut_at (measure bytes) bytes (λ front back. parse (k front) back)
