-- Reading a text byte by byte, with no regard to how it is spelled. What was read is taken only where its own text is
-- the text that was read.
use Rattle.std.specs.Prelude.{ℕ, ◌<◌, ◌+◌, ◌-◌, ◌*◌, ◌==◌, ◌&&◌, ◌||◌, true, false, List, [], ◌∷◌, length, Option, Some, None, nat_le, nat_lt, unwrap_or, option_and_then, if◌then◌else◌}
use Rattle.lnfs_calipso.specs.Label.{Label, has_comp, compartments}
use Rattle.lnfs_calipso.specs.declared.bitmap.TheConstants.{COMPARTMENTS}
use Rattle.lnfs_format.specs.declared.formats.TheConstants.{MAX_SPELLING}
use Rattle.std.specs.Str.{bytes_eq}
use Rattle.lnfs_format.specs.Text.{text_of, comps_text}
use Rattle.lnfs_format.specs.declared.reading.Reading.{Reading}

-- a label with the compartments of a range too
abbrev pub with_range : Label → ℕ → ℕ → Label
with_range label low high =
    record label { comps = compartments (λ c. has_comp label.comps c || (nat_le low c && nat_le c high)) }

-- a label without compartments
abbrev pub bare : ℕ → ℕ → Label
bare doi sens = record { doi = doi; sens = sens; comps = [] }

-- the label with the item that was read last
abbrev pub closed : Reading → Label
closed r = with_range r.label (unwrap_or r.from r.number) r.number

-- one more byte: a digit, the beginning of a number, the end of the sensitivity, the end of an item, or a range
unfoldable pub step : Reading → ℕ → Option Reading
step r byte =
    if nat_le 48 byte && nat_le byte 57
    then (if nat_lt (10 * r.number + (byte - 48)) COMPARTMENTS then Some (record r { number = 10 * r.number + (byte - 48) }) else None)
    else (if byte == 99 || byte == 115 then Some (record r { number = 0 })
    else (if byte == 58 then (if nat_lt r.number 256 then Some (record r { label = bare r.label.doi r.number; in_comps = true }) else None)
    else (if byte == 44 then Some (record r { label = closed r; from = None })
    else (if byte == 46 then Some (record r { from = Some r.number }) else None))))

abbrev pub read_bytes : Reading → List ℕ → Option Reading
read_bytes r [] = Some r
read_bytes r (byte ∷ bytes) = option_and_then (λ s. read_bytes s bytes) (step r byte)

-- the number that was read last is that of a compartment
abbrev pub HasFit : Reading → Type 0
HasFit r = r.number < COMPARTMENTS

-- the label at the end of the bytes
abbrev pub finished : Reading → Option Label
finished r =
    if r.in_comps then Some (closed r) else (if nat_lt r.number 256 then Some (bare r.label.doi r.number) else None)

abbrev pub start : ℕ → Reading
start doi = record { label = bare doi 0; number = 0; from = None; in_comps = false }

abbrev pub start_comps : ℕ → ℕ → Reading
start_comps doi sens = record { label = bare doi sens; number = 0; from = None; in_comps = true }

-- the label that some bytes tell
abbrev pub told : Reading → List ℕ → Option Label
told r bytes = option_and_then finished (read_bytes r bytes)

-- a label where some bytes are its text
abbrev pub where_spelled : Label → List ℕ → List ℕ → Option Label
where_spelled label text bytes = if bytes_eq text bytes then Some label else None

-- bytes, where they are no more than a spelling may have
abbrev pub short : List ℕ → Option (List ℕ)
short text = if nat_le (length text) MAX_SPELLING then Some text else None

-- the label under a DOI whose text some bytes are
unfoldable pub reads_text : ℕ → List ℕ → Option Label
reads_text doi bytes =
    option_and_then (λ text. option_and_then (λ label. where_spelled label (text_of label) text) (told (start doi) text)) (short bytes)

-- the label of a DOI and a sensitivity whose compartments some bytes are
unfoldable pub reads_comps : ℕ → ℕ → List ℕ → Option Label
reads_comps doi sens bytes =
    option_and_then
    (λ label. if label.sens == sens then where_spelled label (comps_text label.comps) bytes else None)
    (told (start_comps doi sens) bytes)

-- the text of a label under a DOI, where that is the label's and the text isn't too long
unfoldable pub writes_text : ℕ → Label → Option (List ℕ)
writes_text doi label = if label.doi == doi then short (text_of label) else None
