-- From what reading a list gives to what is answered.
use Rattle.std.proofs.Common.{◌≡◌, ℕ, false, eqb, List, length, Result, Ok, Err, refl, ap, ◌∙◌}
use Rattle.lnfs_xdr.specs.Reading.{Read, read}
use Rattle.lnfs_xdr.specs.Message.{Closed, decided, parse}
use Rattle.lnfs_xdr.proofs.Fields.{IsBytes}
use Rattle.lnfs_xdr.proofs.Messages.{tells, refuses}
use Rattle.lnfs_attrs.specs.Attributes.{AllAsked, is_listed, is_settable}
use Rattle.lnfs_attrs.specs.Settable.{values, list_values, Exactly, Judged, Lists}
use Rattle.lnfs_attrs.specs.declared.bitmap.Bitmap.{Bitmap}
use Rattle.lnfs_attrs.specs.declared.raw.RawAttrs.{RawAttrs}
use Rattle.lnfs_attrs.specs.declared.settable.AttrSet.{AttrSet}
use Rattle.lnfs_attrs.specs.declared.settable.AttrError.{AttrError}
use Rattle.lnfs_attrs.specs.declared.settable.AttrError.TheVariants.{AttrNotSupp, Inval, BadXdr, Memory}

closed_not : (x : AttrSet) (rest : List ℕ) → eqb (length rest) 0 ≡ false → parse (Closed x) rest ≡ Err rest
closed_not x rest some = rw some refl

-- bytes behind the values
pub left_over : (mask : Bitmap) (bytes : List ℕ) (x : AttrSet) (rest : List ℕ) → read (values mask) bytes ≡ Ok (x, rest) → eqb (length rest) 0 ≡ false → (stuck : List ℕ) × (parse (list_values mask) bytes ≡ Err stuck)
unfolding list_values
left_over mask bytes x rest e some =
    (rest, ap (λ (r : Read ⊥ AttrSet). decided r (λ a s. parse (Closed a) s) (λ e. absurd e)) e ∙ closed_not x rest some)

pub exact : (mask : Bitmap) (bytes : List ℕ) (r : Result AttrSet AttrError) → IsBytes bytes → Lists r (parse (list_values mask) bytes) → Exactly r mask bytes
exact mask bytes (Ok x) fits given = tells (list_values mask) bytes x fits given
exact mask bytes (Err BadXdr) fits given = (given.0, refuses (list_values mask) bytes given.0 fits given.1)
exact mask bytes (Err Memory) fits given = tt
exact mask bytes (Err AttrNotSupp) fits given = absurd given
exact mask bytes (Err Inval) fits given = absurd given

pub judged : (raw : RawAttrs) (r : Result AttrSet AttrError) → AllAsked raw.mask is_listed → AllAsked raw.mask is_settable → Exactly r raw.mask raw.list → Judged r raw
judged raw (Ok x) all some given = (all, some, given)
judged raw (Err BadXdr) all some given = (all, some, given)
judged raw (Err Memory) all some given = tt
judged raw (Err AttrNotSupp) all some given = absurd given
judged raw (Err Inval) all some given = absurd given
