-- The rule of the history, and its kinds of step.
use Rattle.std.specs.Prelude.{◌≡◌, ℕ, ◌+◌, ◌<◌, ◌≤◌, Bool, true, false, List, [], ◌∷◌, ◌++◌}
use mathlib.Core.Option.{some}
use lib.ListN.{get_elem?}
use Rattle.atomic_table.specs.Table.{State, Me, Step}
use Rattle.atomic_table.specs.Seated.{TableId}
use Rattle.lnfs_history.specs.declared.entry.Entry.{Entry}
use Rattle.lnfs_history.specs.declared.entry.View.{View}
use Rattle.lnfs_history.specs.Entries.{of}

-- the name of no table
abbrev pub no_table : TableId
no_table = record { words = 0; slots = 0; views_name = 0; atom = 0; block = 0; offset = 0; slot_names = [] }

abbrev pub view_of : Bool → List Entry → ℕ → Bool → ℕ → List Entry → View
view_of keeps log made has link entries = record { keeps = keeps; log = log; made = made; has = has; link = link; entries = entries }

abbrev pub keeper : List Entry → ℕ → View
keeper log made = view_of true log made false 0 []

abbrev pub place : ℕ → List Entry → View
place link entries = view_of false [] 0 true link entries

abbrev pub nobody : View
nobody = view_of false [] 0 false 0 []

-- The keeper's seat knows the whole history. The seat that has a link's part is the one that `seat_of` names, and its entries are all of that link
pub record Fits (seat : ℕ) (log : List Entry) (made : ℕ) (seat_of : ℕ → ℕ) (by : ℕ) (v : View) : Type 0 where
  pub keeps : v.keeps ≡ true → (by ≡ seat) × (v.log ≡ log) × (v.made ≡ made)
  pub has : v.has ≡ true → (seat_of v.link ≡ by) × (v.entries ≡ of v.link log) × (v.link < made)

-- there is one history, of which each view fits its part, and no link without a place has an entry
pub record Kept (s : State (Unit {0}) View) : Type 0 where
  pub seat : ℕ
  pub log : List Entry
  pub made : ℕ
  pub seat_of : ℕ → ℕ
  pub fits : (by : ℕ) (v : View) → get_elem? s.views by ≡ some v → Fits seat log made seat_of by v
  pub none : (link : ℕ) → made ≤ link → of link log ≡ []

-- a new place: what the keeper is then, and the place
abbrev pub one_more : View → View
one_more v = view_of v.keeps v.log (v.made + 1) v.has v.link v.entries

abbrev pub new_place : View → View
new_place v = place v.made []

-- the keeper with a place taken in, and the two apart again
abbrev pub with_place : View → View → View
with_place v w = view_of v.keeps v.log v.made w.has w.link w.entries

abbrev pub without_place : View → View
without_place v = view_of v.keeps v.log v.made false 0 []

abbrev pub place_of : View → View
place_of v = view_of false [] 0 v.has v.link v.entries

-- an entry is added to the whole and to the part
abbrev pub with_entry : Entry → View → View
with_entry e v = view_of v.keeps (v.log ++ e ∷ []) v.made v.has v.link (v.entries ++ e ∷ [])

abbrev pub Added : Entry → Step (Unit {0}) → Me (Unit {0}) View → ℕ → Me (Unit {0}) View → Type 0
Added e st m n m' = m' ≡ (with_entry e m.0, m.1)

-- the keeper learns that a place has all of its link's entries, and is without it again
abbrev pub Learned : Step (Unit {0}) → Me (Unit {0}) View → ℕ → Me (Unit {0}) View → Type 0
Learned st m n m' =
    (m' ≡ (without_place m.0, m.1))
    × (m.0.has ≡ true → (m.0.entries ≡ of m.0.link m.0.log) × (m.0.link < m.0.made))
    × ((link : ℕ) → m.0.made ≤ link → of link m.0.log ≡ [])
