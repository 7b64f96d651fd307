-- A reading goes on byte by byte.
use Rattle.std.proofs.Common.{◌≡◌, ℕ, ◌+◌, ◌<◌, ◌≤◌, List, length, get_or, drop, Some, None, ap, ◌∙◌}
use Rattle.std.specs.Option.{option_and_then}
use Rattle.std.proofs.lemmas.List.{drop_more, drop_all}
use Rattle.lnfs_format.specs.declared.reading.Reading.{Reading}
use Rattle.lnfs_format.specs.Reading.{step, read_bytes}

pub goes_on : (r s : Reading) (bytes : List ℕ) (i : ℕ) → i < length bytes → step r (get_or bytes i 0) ≡ Some s → read_bytes r (drop i bytes) ≡ read_bytes s (drop (i + 1) bytes)
goes_on r s bytes i l h = ap (read_bytes r) (drop_more bytes i 0 l) ∙ ap (option_and_then (λ t. read_bytes t (drop (i + 1) bytes))) h

pub stops : (r : Reading) (bytes : List ℕ) (i : ℕ) → i < length bytes → step r (get_or bytes i 0) ≡ None → read_bytes r (drop i bytes) ≡ None
stops r bytes i l h = ap (read_bytes r) (drop_more bytes i 0 l) ∙ ap (option_and_then (λ t. read_bytes t (drop (i + 1) bytes))) h

pub is_read : (r : Reading) (bytes : List ℕ) (i : ℕ) → length bytes ≤ i → read_bytes r (drop i bytes) ≡ Some r
is_read r bytes i l = ap (read_bytes r) (drop_all i bytes l)
