-- Structures that stand in arguments and in results.
use Rattle.std.specs.Prelude.{◌==◌}
use Rattle.lnfs_xdr.specs.Format.{Word, Long, Among, Opaque, Fixed, Done, ◌>>=◌, optional}
use Rattle.lnfs_attrs.specs.Parsing.{Args}
use Rattle.lnfs_attrs.specs.Bitmaps.{bitmap}
use Rattle.lnfs_attrs.specs.declared.raw.RawAttrs.{RawAttrs}
use Rattle.lnfs_arguments.specs.declared.stateid.StateId.{StateId}
use Rattle.lnfs_arguments.specs.declared.stateid.Cinfo.{Cinfo}
use Rattle.lnfs_arguments.specs.declared.channel.Channel.{Channel}

-- fattr4, RFC 8881 section 3.3.7
unfoldable pub attrs : Args RawAttrs
attrs = do
  mask ← bitmap
  list ← Opaque 65536
  Done (record { mask = mask; list = list })

-- stateid4, RFC 8881 section 3.3.12
unfoldable pub state_id : Args StateId
state_id = do
  seqid ← Word
  other ← Fixed 12
  Done (record { seqid = seqid; other = other })

-- change_info4 of an operation that was atomic, RFC 8881 section 3.3.8
unfoldable pub cinfo : Args Cinfo
cinfo = do
  atomic ← Among (λ n. n == 1)
  before ← Long
  later ← Long
  Done (record { before = before; after = later })

-- channel_attrs4, RFC 8881 section 18.36.1
unfoldable pub channel : Args Channel
channel = do
  headerpad ← Word
  maxrequest ← Word
  maxresponse ← Word
  cached ← Word
  operations ← Word
  requests ← Word
  ird ← optional Word
  Done (record { headerpad = headerpad; maxrequest = maxrequest; maxresponse = maxresponse; cached = cached; operations = operations; requests = requests; ird = ird })
