-- Bytes as far as they are a recording: the whole events at the front, one after another, and what is left behind them.
use Rattle.std.specs.Prelude.{ℕ, zero, suc, ◌-◌, Bool, cond, ◌&&◌, nat_eq, List, [], ◌∷◌, length, take, drop, Ok, Err}
use Rattle.std.specs.Str.{bytes_eq}
use Rattle.lnfs_types.specs.declared.event.Event.{Event}
use Rattle.lnfs_xdr.specs.Reading.{Read, read}
use Rattle.lnfs_traffic.specs.Recording.{event, beginning}

pub record Parts : Type 0 where
  pub events : List Event
  pub rest : List ℕ

-- no event, where none stands at the front of the bytes
abbrev pub where_read : List ℕ → Read (Unit {0}) Event → (List ℕ → Parts) → Parts
where_read bytes (Ok x) next = record { events = x.0 ∷ (next x.1).events; rest = (next x.1).rest }
where_read bytes (Err stop) next = record { events = []; rest = bytes }

-- from behind so many bytes
unfoldable pub parts_behind : ℕ → List ℕ → Parts
parts_behind n [] = record { events = []; rest = [] }
parts_behind (suc n) (b ∷ bytes) = parts_behind n bytes
parts_behind zero (b ∷ bytes) = where_read (b ∷ bytes) (read event (b ∷ bytes)) (λ rest. parts_behind (length bytes - length rest) bytes)

abbrev pub parts_of : List ℕ → Parts
parts_of bytes = parts_behind 0 bytes

abbrev pub begins : List ℕ → Bool
begins bytes = bytes_eq (take 8 bytes) beginning

-- the events of a recording, as far as it isn't damaged
abbrev pub recorded : List ℕ → List Event
recorded bytes = cond (begins bytes) (parts_of (drop 8 bytes)).events []

abbrev pub is_recording : List ℕ → Bool
is_recording bytes = begins bytes && nat_eq (length (parts_of (drop 8 bytes)).rest) 0

-- where a recording is damaged
abbrev pub place_of : List ℕ → ℕ
place_of bytes = cond (begins bytes) (length bytes - length (parts_of (drop 8 bytes)).rest) 0
