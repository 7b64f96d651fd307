use Rattle.lnfs_calipso.proofs.Bodies.{body_written}
use Rattle.lnfs_calipso.proofs.body.write_label.Goals as goal

pub returns : goal.returns
returns c =
    rw (c.in_ok-put_words.ensures, c.in_ok-push-2.ensures.items, c.in_ok-push.ensures.items, c.in_ok-extend_from_slice.ensures.items, c.in_ok-bytes.ensures.items)
    (body_written c.args.label.now c.words-words.result.now c.to_be_bytes.result c.doi.result c.sens.result c.words-words.ensures.bitmap c.words-words.ensures.members
    c.to_be_bytes.ensures c.doi.ensures c.sens.ensures)
