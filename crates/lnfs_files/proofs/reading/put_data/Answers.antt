use Rattle.std.proofs.Common.{ap, ◌∙◌, ℕ, ◌+◌, ◌++◌, Bool, List, take}
use Rattle.std.specs.Prelude.{length, nat_le}
use Rattle.lnfs_xdr.specs.Format.{padding}
use Rattle.lnfs_xdr.specs.Canon.{word, flag, zeros}
use Rattle.lnfs_world.specs.Effects.{read_at}
use Rattle.lnfs_files.proofs.FileReads.{read_written, on_ok}
use Rattle.lnfs_files.proofs.reading.put_data.Goals as goal

pub returns : goal.returns
returns c =
    on_ok c.raw.result (λ last.
    read_written (nat_le (length c.args.content.now) (c.args.offset + length (read_at c.args.offset c.args.count c.args.content.now))) (read_at c.args.offset c.args.count c.args.content.now)
    c.args.out.now c.u32.new.self c.u32-2.new.self c.boolean.new.self c.u32-3.new.self c.append_to.new.out c.raw.new.self
    c.in_ok-u32.ensures.ok
    c.in_ok-u32-2.ensures.ok
    (c.in_ok-boolean.ensures.ok ∙ ap (λ (b : Bool). c.u32-2.new.self ++ flag b) (c.is_end-eof.ensures ∙ ap (λ (n : ℕ). nat_le (length c.args.content.now) (c.args.offset + n)) c.readable-size.ensures))
    (c.in_ok-u32-3.ensures.ok ∙ ap (λ (n : ℕ). c.boolean.new.self ++ word n) c.readable-size.ensures)
    c.in_ok-append_to.ensures.ok
    (last ∙ ap (λ (pad : List ℕ). c.append_to.new.out ++ pad) (c.padding.ensures ∙ ap (λ (n : ℕ). take (padding n) zeros) c.readable-size.ensures)))
    c.raw.ensures.ok
