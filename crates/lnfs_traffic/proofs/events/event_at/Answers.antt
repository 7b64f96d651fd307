use Rattle.std.proofs.Common.{Ok, ap, sym, ◌∙◌, ◌≡◌, ◌+◌, length, arith}
use Rattle.lnfs_xdr.proofs.Fields.{IsBytes}
use Rattle.lnfs_traffic.specs.Stages.{stage_of}
use Rattle.lnfs_traffic.proofs.Fed.{front_is}
use Rattle.lnfs_traffic.proofs.events.event_at.Goals as goal

pub returns-clause-found : goal.returns-clause-found
returns-clause-found c =
    let bytes = c.args.bytes.now in
    let rest = c.fields_of.new.reader.rest in
    let fits : IsBytes bytes = λ i. omega (arith, c.type_inv.bytes i) in
    let start = c.new-reader.ensures in
    let r = rw start at c.in-Ok.ensures.fields in
    let n : c.at.result + length rest ≡ length bytes = c.at.ensures ∙ (rw start at c.in-Ok.ensures.total) in
    let f = front_is bytes c.in_ok-event.event rest c.at.result fits (r ∙ ap (λ e. Ok (e, rest)) (sym c.in_ok-event.ensures)) n in
    (ap stage_of r, f.spelled, f.within, f.some)
