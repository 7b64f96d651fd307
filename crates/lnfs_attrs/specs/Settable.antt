-- Attributes that a client sets (RFC 8881 sections 18.30 and 18.16): size, mode and sec_label, in this order.
use Rattle.std.specs.Prelude.{◌≡◌, ℕ, Bool, List, Option, Some, None, Result, Ok, Err}
use Rattle.lnfs_xdr.specs.declared.error.XdrError.{XdrError}
use Rattle.lnfs_xdr.specs.Cursor.{Cursor}
use Rattle.lnfs_xdr.specs.Format.{Format, Word, Long, Opaque, Done, ◌>>=◌, when◌then◌else◌}
use Rattle.lnfs_xdr.specs.Reading.{Read, Fault}
use Rattle.lnfs_xdr.specs.Message.{Message, Closed, Next, Tells, Refuses}
use Rattle.lnfs_attrs.specs.Bitmaps.{has_attr}
use Rattle.lnfs_attrs.specs.Attributes.{AllAsked, is_listed, is_settable}
use Rattle.lnfs_attrs.specs.declared.bitmap.Bitmap.{Bitmap}
use Rattle.lnfs_attrs.specs.declared.raw.RawAttrs.{RawAttrs}
use Rattle.lnfs_attrs.specs.declared.view.LabelValue.{LabelValue}
use Rattle.lnfs_attrs.specs.declared.settable.AttrSet.{AttrSet}
use Rattle.lnfs_attrs.specs.declared.settable.AttrError.{AttrError}
use Rattle.lnfs_attrs.specs.declared.settable.AttrError.TheVariants.{AttrNotSupp, Inval, BadXdr, Memory}

-- sec_label4, RFC 7862 section 12.2.4
unfoldable pub label : Format ⊥ LabelValue
label = do
  lfs ← Word
  pi ← Word
  bytes ← Opaque 65536
  Done (record { lfs = lfs; pi = pi; bytes = bytes })

-- a value that is there or not
abbrev pub given : {A : Type 0} → Bool → Format ⊥ A → Format ⊥ (Option A)
given is_there f = when is_there then (f >>= λ x. Done (Some x)) else Done None

unfoldable pub values : Bitmap → Format ⊥ AttrSet
values mask = do
  size ← given (has_attr mask 4) Long
  mode ← given (has_attr mask 33) Word
  named ← given (has_attr mask 80) label
  Done (record { size = size; mode = mode; label = named })

-- the values of a list, and nothing behind them
unfoldable pub list_values : Bitmap → Message AttrSet
list_values mask = Next (values mask) (λ x. Closed x) (λ e. absurd e)

-- The list is exactly the values, or it isn't.
abbrev pub Exactly : Result AttrSet AttrError → Bitmap → List ℕ → Type 0
Exactly (Ok x) mask bytes = Tells (list_values mask) x bytes
Exactly (Err BadXdr) mask bytes = (stuck : List ℕ) × Refuses (list_values mask) bytes stuck
Exactly (Err Memory) mask bytes = Unit {0}
Exactly (Err AttrNotSupp) mask bytes = ⊥
Exactly (Err Inval) mask bytes = ⊥

-- What is answered, in this order: an attribute outside of the table, one that can't be set, a list that isn't exactly the values.
abbrev pub Judged : Result AttrSet AttrError → RawAttrs → Type 0
Judged (Ok x) raw = AllAsked raw.mask is_listed × AllAsked raw.mask is_settable × Exactly (Ok x) raw.mask raw.list
Judged (Err AttrNotSupp) raw = AllAsked raw.mask is_listed → ⊥
Judged (Err Inval) raw = AllAsked raw.mask is_listed × (AllAsked raw.mask is_settable → ⊥)
Judged (Err BadXdr) raw = AllAsked raw.mask is_listed × AllAsked raw.mask is_settable × Exactly (Err BadXdr) raw.mask raw.list
Judged (Err Memory) raw = Unit {0}

-- ---- what parts of it promise

abbrev pub Gets : {A : Type 0} → Result A AttrError → Cursor → Read ⊥ A → Type 0
Gets (Ok x) new r = r ≡ Ok (x, new.rest)
Gets (Err BadXdr) new r = (c : XdrError) × (r ≡ Err (Fault c new.rest))
Gets (Err Memory) new r = Unit {0}
Gets (Err AttrNotSupp) new r = ⊥
Gets (Err Inval) new r = ⊥

abbrev pub Lists : Result AttrSet AttrError → Result AttrSet (List ℕ) → Type 0
Lists (Ok x) r = r ≡ Ok x
Lists (Err BadXdr) r = (stuck : List ℕ) × (r ≡ Err stuck)
Lists (Err Memory) r = Unit {0}
Lists (Err AttrNotSupp) r = ⊥
Lists (Err Inval) r = ⊥
