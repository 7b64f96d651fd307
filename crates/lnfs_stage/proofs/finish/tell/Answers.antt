use Rattle.std.proofs.Common.{rules, refl, ◌∙◌}
use Rattle.lnfs_stage.proofs.Telling.{told_short, told_cut, told_line, gave_up}
use Rattle.lnfs_stage.proofs.finish.tell.Goals as goal

pub returns-in_err-line-in-Err-Ends-clause-does : goal.returns-in_err-line-in-Err-Ends-clause-does
returns-in_err-line-in-Err-Ends-clause-does g c = λ n n' before due p. told_short _ due (search rules) (rw (c.in-Err-Ends.is, c.in-Err-Ends.field-0-is) at p)

pub returns-in_err-put_line-in-Err-Ends-clause-does : goal.returns-in_err-put_line-in-Err-Ends-clause-does
returns-in_err-put_line-in-Err-Ends-clause-does g c = λ n n' before due p.
    told_cut _ due _ (c.as_bytes.ensures.value ∙ c.in_ok-line-in-Err-Ends.ensures) (search rules) (rw (c.in-Err-Ends.is, c.in-Err-Ends.field-0-is) at p) c.in_err-put_line-in-Err-Ends.ensures.does

pub returns-in_ok-put_line-in-Err-Ends-clause-does : goal.returns-in_ok-put_line-in-Err-Ends-clause-does
returns-in_ok-put_line-in-Err-Ends-clause-does g c = λ n n' before due p.
    told_line _ due _ (c.as_bytes.ensures.value ∙ c.in_ok-line-in-Err-Ends.ensures) (search rules) (rw (c.in-Err-Ends.is, c.in-Err-Ends.field-0-is) at p) c.in_ok-put_line-in-Err-Ends.ensures.does

pub returns-in-Err-ReadFault-clause-does : goal.returns-in-Err-ReadFault-clause-does
returns-in-Err-ReadFault-clause-does g c = λ n n' before due p. gave_up _ due refl refl (rw (c.in-Err-ReadFault.is, c.in-Err-ReadFault.field-0-is) at p)

pub returns-in-Err-WriteFault-clause-does : goal.returns-in-Err-WriteFault-clause-does
returns-in-Err-WriteFault-clause-does g c = λ n n' before due p. gave_up _ due refl refl (rw (c.in-Err-WriteFault.is, c.in-Err-WriteFault.field-0-is) at p)

pub returns-in-Err-NetFault-clause-does : goal.returns-in-Err-NetFault-clause-does
returns-in-Err-NetFault-clause-does g c = λ n n' before due p. gave_up _ due refl refl (rw (c.in-Err-NetFault.is, c.in-Err-NetFault.field-0-is) at p)

pub returns-in-Err-Memory-clause-does : goal.returns-in-Err-Memory-clause-does
returns-in-Err-Memory-clause-does g c = λ n n' before due p. gave_up _ due refl refl (rw (c.in-Err-Memory.is, c.in-Err-Memory.field-0-is) at p)
