-- The canonical spelling of the shared structures, and what has one.
use Rattle.std.specs.Prelude.{◌≡◌, ℕ, ◌^◌, ◌<◌, ◌≤◌, List, ◌++◌, length, Option, Some, None, IfSome}
use Rattle.lnfs_xdr.specs.Canon.{word, long, padded, opaque}
use Rattle.lnfs_attrs.specs.Bitmaps.{bitmap_text, IsWord, BitmapFits}
use Rattle.lnfs_attrs.specs.declared.raw.RawAttrs.{RawAttrs}
use Rattle.lnfs_arguments.specs.declared.stateid.StateId.{StateId}
use Rattle.lnfs_arguments.specs.declared.stateid.Cinfo.{Cinfo}
use Rattle.lnfs_arguments.specs.declared.channel.Channel.{Channel}

abbrev pub optional_word : Option ℕ → List ℕ
optional_word None = word 0
optional_word (Some n) = word 1 ++ word n

unfoldable pub attrs_text : RawAttrs → List ℕ
attrs_text a = bitmap_text a.mask ++ opaque a.list

unfoldable pub state_id_text : StateId → List ℕ
state_id_text s = word s.seqid ++ padded s.other

unfoldable pub cinfo_text : Cinfo → List ℕ
cinfo_text c = word 1 ++ long c.before ++ long c.after

unfoldable pub channel_text : Channel → List ℕ
channel_text c = word c.headerpad ++ word c.maxrequest ++ word c.maxresponse ++ word c.cached ++ word c.operations ++ word c.requests ++ optional_word c.ird

-- ---- every field is within its bound

abbrev pub IsLong : ℕ → Type 0
IsLong n = n < 2 ^ 64

abbrev pub AttrsFit : RawAttrs → Type 0
AttrsFit a = BitmapFits a.mask × (length a.list ≤ 65536)

abbrev pub StateIdFits : StateId → Type 0
StateIdFits s = IsWord s.seqid × (length s.other ≡ 12)

abbrev pub CinfoFits : Cinfo → Type 0
CinfoFits c = IsLong c.before × IsLong c.after

abbrev pub ChannelFits : Channel → Type 0
ChannelFits c = IsWord c.headerpad × IsWord c.maxrequest × IsWord c.maxresponse × IsWord c.cached × IsWord c.operations × IsWord c.requests × IfSome c.ird IsWord
