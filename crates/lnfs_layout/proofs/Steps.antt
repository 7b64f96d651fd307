-- A row more, as a loop reads it.
use Rattle.std.proofs.Common.{◌≡◌, ℕ, ◌-◌, ◌+◌, ◌<◌, List, [], ◌∷◌, ◌++◌, map, Ok, ap, ◌∙◌}
use Rattle.std.proofs.lemmas.List.{map-append}
use Rattle.lnfs_xdr.specs.Format.{times}
use Rattle.lnfs_xdr.specs.Reading.{Read, read}
use Rattle.lnfs_xdr.proofs.Loops.{grown, goes_on}
use Rattle.lnfs_layout.specs.Grammar.{Rows}

pub row_read : {X A : Type 0} (f : Rows A) (view : X → A) (rows pushed : List X) (x : X) (count i : ℕ) (bytes rest : List ℕ) (total : Read ⊥ (List A)) → pushed ≡ rows ++ x ∷ [] → i < count → read f bytes ≡ Ok (view x, rest)
    → grown (map view rows) (read (times (count - i) f) bytes) ≡ total → grown (map view pushed) (read (times (count - (i + 1)) f) rest) ≡ total
row_read f view rows pushed x count i bytes rest total more lt first so_far =
    ap (λ (l : List _). grown l (read (times (count - (i + 1)) f) rest)) (ap (map view) more ∙ map-append view rows (x ∷ []))
    ∙ goes_on f (map view rows) count i bytes (view x) rest total lt first so_far

pub item_read : {A : Type 0} (f : Rows A) (rows pushed : List A) (x : A) (count i : ℕ) (bytes rest : List ℕ) (total : Read ⊥ (List A)) → pushed ≡ rows ++ x ∷ [] → i < count → read f bytes ≡ Ok (x, rest)
    → grown rows (read (times (count - i) f) bytes) ≡ total → grown pushed (read (times (count - (i + 1)) f) rest) ≡ total
item_read f rows pushed x count i bytes rest total more lt first so_far =
    ap (λ (l : List _). grown l (read (times (count - (i + 1)) f) rest)) more ∙ goes_on f rows count i bytes x rest total lt first so_far
