-- What of a range lies below or above an offset, by where it stands.
use Rattle.std.proofs.Common.{◌≡◌, ℕ, ◌+◌, ◌-◌, ◌<◌, ◌≤◌, cond, false, List, [], ◌∷◌, ◌++◌, length, take, get_or, ap, sym, ◌∙◌}
use Rattle.std.specs.Prelude.{nat_lt}
use Rattle.std.specs.List.{flat_map}
use Rattle.std.proofs.lemmas.Bool.{cond-true, cond-false, lt-ltb, le-ltb}
use Rattle.lnfs_ranges.specs.declared.range.LockRange.{LockRange}
use Rattle.lnfs_ranges.specs.Modes.{joined, part_below, part_above}
use Rattle.lnfs_ranges.proofs.Ends.{one_more}

pub below_whole : (x : ℕ) (r : LockRange) → r.last < x → part_below x r ≡ r ∷ []
below_whole x r h = cond-true (nat_lt r.last x) (r ∷ []) (cond (nat_lt r.first x) (record r { last = x - 1 } ∷ []) []) (lt-ltb r.last x h)

pub below_cut : (x : ℕ) (r : LockRange) → x ≤ r.last → r.first < x → part_below x r ≡ record r { last = x - 1 } ∷ []
below_cut x r h k =
    cond-false (nat_lt r.last x) (r ∷ []) (cond (nat_lt r.first x) (record r { last = x - 1 } ∷ []) []) (le-ltb r.last x h)
    ∙ cond-true (nat_lt r.first x) (record r { last = x - 1 } ∷ []) [] (lt-ltb r.first x k)

pub below_none : (x : ℕ) (r : LockRange) → x ≤ r.last → x ≤ r.first → part_below x r ≡ []
below_none x r h k =
    cond-false (nat_lt r.last x) (r ∷ []) (cond (nat_lt r.first x) (record r { last = x - 1 } ∷ []) []) (le-ltb r.last x h)
    ∙ cond-false (nat_lt r.first x) (record r { last = x - 1 } ∷ []) [] (le-ltb r.first x k)

pub above_whole : (x : ℕ) (r : LockRange) → x < r.first → part_above x r ≡ r ∷ []
above_whole x r h = cond-true (nat_lt x r.first) (r ∷ []) (cond (nat_lt x r.last) (record r { first = x + 1 } ∷ []) []) (lt-ltb x r.first h)

pub above_cut : (x : ℕ) (r : LockRange) → r.first ≤ x → x < r.last → part_above x r ≡ record r { first = x + 1 } ∷ []
above_cut x r h k =
    cond-false (nat_lt x r.first) (r ∷ []) (cond (nat_lt x r.last) (record r { first = x + 1 } ∷ []) []) (le-ltb x r.first h)
    ∙ cond-true (nat_lt x r.last) (record r { first = x + 1 } ∷ []) [] (lt-ltb x r.last k)

pub above_none : (x : ℕ) (r : LockRange) → r.first ≤ x → r.last ≤ x → part_above x r ≡ []
above_none x r h k =
    cond-false (nat_lt x r.first) (r ∷ []) (cond (nat_lt x r.last) (record r { first = x + 1 } ∷ []) []) (le-ltb x r.first h)
    ∙ cond-false (nat_lt x r.last) (record r { first = x + 1 } ∷ []) [] (le-ltb x r.last k)

-- the element that a loop over ranges reads
abbrev pub no_range : LockRange
no_range = record { first = 0; last = 0; write = false }

-- one more turn of a loop that joins the parts of each range to a list
pub turn : (f : LockRange → List LockRange) (start rs out new parts : List LockRange) (i : ℕ) → i < length rs →
    out ≡ joined (start ++ flat_map f (take i rs)) → f (get_or rs i no_range) ≡ parts → new ≡ joined (out ++ parts) →
    new ≡ joined (start ++ flat_map f (take (i + 1) rs))
turn f start rs out new parts i within told part made =
    one_more f start rs out new i no_range within told (made ∙ ap (λ ys. joined (out ++ ys)) (sym part))
