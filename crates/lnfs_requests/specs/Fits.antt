-- What has a canonical spelling: every field is within its bound.
use Rattle.std.specs.Prelude.{◌≡◌, ◌≤◌, length, All, Option, Some, None}
use Rattle.lnfs_attrs.specs.Bitmaps.{IsWord, BitmapFits}
use Rattle.lnfs_arguments.specs.declared.types.Sequence.{Sequence}
use Rattle.lnfs_arguments.specs.declared.types.What.{What}
use Rattle.lnfs_arguments.specs.declared.types.What.TheVariants.{Dir, Symlink}
use Rattle.lnfs_arguments.specs.declared.types.Making.{Making}
use Rattle.lnfs_arguments.specs.declared.types.Making.TheVariants.{Unchecked, Guarded, Exclusive}
use Rattle.lnfs_arguments.specs.declared.types.Claim.{Claim}
use Rattle.lnfs_arguments.specs.declared.types.Claim.TheVariants.{Name, Handle}
use Rattle.lnfs_arguments.specs.declared.types.Callback.{Callback}
use Rattle.lnfs_arguments.specs.declared.types.Callback.TheVariants.{Nothing, Sys, Gss}
use Rattle.lnfs_arguments.specs.declared.types.CreateSession.{CreateSession}
use Rattle.lnfs_arguments.specs.declared.types.Implementation.{Implementation}
use Rattle.lnfs_arguments.specs.declared.types.Compound.{Compound}
use Rattle.lnfs_arguments.specs.declared.types.Op.{Op}
use Rattle.lnfs_arguments.specs.declared.types.Op.TheVariants as ops
use Rattle.lnfs_xdr.specs.declared.limits.TheConstants.{MACHINE_LIMIT, GROUP_LIMIT}
use Rattle.lnfs_arguments.specs.declared.numbers.TheConstants.{DATA_LIMIT}
use Rattle.lnfs_arguments.specs.SharedTexts.{IsLong, AttrsFit, StateIdFits, ChannelFits}

abbrev pub WhatFits : What → Type 0
WhatFits (Symlink text) = length text ≤ 65536
WhatFits Dir = Unit {0}

abbrev pub MakingFits : Option Making → Type 0
MakingFits None = Unit {0}
MakingFits (Some (Unchecked a)) = AttrsFit a
MakingFits (Some (Guarded a)) = AttrsFit a
MakingFits (Some (Exclusive v a)) = (length v ≡ 8) × AttrsFit a

abbrev pub ClaimFits : Claim → Type 0
ClaimFits (Name n) = length n ≤ 65536
ClaimFits Handle = Unit {0}

abbrev pub ImplementationFits : Option Implementation → Type 0
ImplementationFits None = Unit {0}
ImplementationFits (Some i) = (length i.domain ≤ 1024) × (length i.name ≤ 1024) × IsLong i.secs × IsWord i.nanos

abbrev pub CallbackFits : Callback → Type 0
CallbackFits Nothing = Unit {0}
CallbackFits (Sys stamp machine uid gid gids) = IsWord stamp × (length machine ≤ MACHINE_LIMIT) × IsWord uid × IsWord gid × (length gids ≤ GROUP_LIMIT) × All IsWord gids
CallbackFits (Gss service server client) = IsWord service × (length server ≤ 1024) × (length client ≤ 1024)

pub record CreateSessionFits (x : CreateSession) : Type 0 where
  pub client : IsLong x.client
  pub sequence : IsWord x.sequence
  pub flags : IsWord x.flags
  pub fore : ChannelFits x.fore
  pub back : ChannelFits x.back
  pub program : IsWord x.program
  pub few : length x.callbacks ≤ 16
  pub callbacks : All CallbackFits x.callbacks

abbrev pub SequenceFits : Sequence → Type 0
SequenceFits s = (length s.session ≡ 16) × IsWord s.sequence × IsWord s.slot × IsWord s.highest

abbrev pub OpFits : Op → Type 0
OpFits (ops.Access bits) = IsWord bits
OpFits (ops.Close seqid id) = IsWord seqid × StateIdFits id
OpFits (ops.Commit offset count) = IsLong offset × IsWord count
OpFits (ops.Create made called given) = WhatFits made × (length called ≤ 65536) × AttrsFit given
OpFits (ops.GetAttr asked) = BitmapFits asked
OpFits ops.GetFh = Unit {0}
OpFits (ops.Link called) = length called ≤ 65536
OpFits (ops.Lookup called) = length called ≤ 65536
OpFits ops.LookupP = Unit {0}
OpFits (ops.NVerify given) = AttrsFit given
OpFits (ops.Open seqid access deny client owner how target) = IsWord seqid × IsWord access × IsWord deny × IsLong client × (length owner ≤ 1024) × MakingFits how × ClaimFits target
OpFits (ops.PutFh handle) = length handle ≤ 128
OpFits ops.PutRootFh = Unit {0}
OpFits (ops.Read id offset count) = StateIdFits id × IsLong offset × IsWord count
OpFits (ops.ReadDir cookie verifier dircount maxcount asked) = IsLong cookie × (length verifier ≡ 8) × IsWord dircount × IsWord maxcount × BitmapFits asked
OpFits ops.ReadLink = Unit {0}
OpFits (ops.Remove called) = length called ≤ 65536
OpFits (ops.Rename old new) = (length old ≤ 65536) × (length new ≤ 65536)
OpFits ops.RestoreFh = Unit {0}
OpFits ops.SaveFh = Unit {0}
OpFits (ops.SetAttr id given) = StateIdFits id × AttrsFit given
OpFits (ops.Verify given) = AttrsFit given
OpFits (ops.Write id offset stable content) = StateIdFits id × IsLong offset × IsWord stable × (length content ≤ DATA_LIMIT)
OpFits (ops.ExchangeId verifier owner flags made) = (length verifier ≡ 8) × (length owner ≤ 1024) × IsWord flags × ImplementationFits made
OpFits (ops.CreateSession x) = CreateSessionFits x
OpFits (ops.DestroySession session) = length session ≡ 16
OpFits (ops.Sequence x) = SequenceFits x
OpFits (ops.DestroyClientId client) = IsLong client
OpFits (ops.ReclaimComplete one_fs) = Unit {0}
OpFits (ops.Outside number status) = ⊥
OpFits (ops.Extra number args) = ⊥

pub record CompoundFits (c : Compound) : Type 0 where
  pub tag : length c.tag ≤ 1024
  pub minor : c.minor ≡ 2
  pub count : c.count ≡ length c.ops
  pub few : length c.ops ≤ 32
  pub ops : All OpFits c.ops
