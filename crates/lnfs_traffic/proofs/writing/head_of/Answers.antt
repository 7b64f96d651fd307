use Rattle.std.proofs.Common.{refl}
use Rattle.lnfs_xdr.specs.Canon.{word, long}
use Rattle.lnfs_traffic.specs.Texts.{event_text}
use Rattle.lnfs_traffic.proofs.Whole.{event_spelled}
use Rattle.lnfs_traffic.proofs.writing.head_of.Goals as goal

pub returns-clause-text : goal.returns-clause-text
unfolding word long event_text
returns-clause-text c = rw (c.copy_from_slice.ensures.after, c.copy_from_slice-2.ensures.after, c.copy_from_slice-3.ensures.after, c.copy_from_slice-4.ensures.after, c.copy_from_slice-5.ensures.after, c.to_be_bytes.ensures, c.to_be_bytes-2.ensures, c.to_be_bytes-3.ensures, c.to_be_bytes-4.ensures, c.to_be_bytes-5.ensures, c.len.ensures) refl

pub returns-clause-spelled : goal.returns-clause-spelled
returns-clause-spelled c = event_spelled c.args.event.now c.requires c.law_words.ensures.class c.law_words.ensures.link
