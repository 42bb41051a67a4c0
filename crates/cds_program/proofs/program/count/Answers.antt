use Rattle.std.proofs.Common.{sym, inl}
use Rattle.cds_program.proofs.program.count.Goals as goal

pub returns-in-Ok-clause-ends : goal.returns-in-Ok-clause-ends
returns-in-Ok-clause-ends g c = λ bytes told. inl (sym (c.in-Ok.ensures.ok bytes told).is)

pub returns-in-Ok-clause-writes : goal.returns-in-Ok-clause-writes
returns-in-Ok-clause-writes g c = λ bytes told before held. inl ((c.in-Ok.ensures.ok bytes told).text before held)

pub returns-in-Err-Line-clause-ends : goal.returns-in-Err-Line-clause-ends
returns-in-Err-Line-clause-ends g c = λ bytes told. inl (sym ((rw c.in-Err-Line.field-0-is at c.in-Err-Line.ensures.line) bytes told).is)

pub returns-in-Err-Line-clause-writes : goal.returns-in-Err-Line-clause-writes
returns-in-Err-Line-clause-writes g c =
    λ bytes told before held. inl (((rw c.in-Err-Line.field-0-is at c.in-Err-Line.ensures.line) bytes told).text before held)

pub returns-in-Err-Limit-clause-ends : goal.returns-in-Err-Limit-clause-ends
returns-in-Err-Limit-clause-ends g c = λ bytes told. inl (sym ((rw c.in-Err-Limit.field-0-is at c.in-Err-Limit.ensures.limit) bytes told).is)

pub returns-in-Err-Limit-clause-writes : goal.returns-in-Err-Limit-clause-writes
returns-in-Err-Limit-clause-writes g c =
    λ bytes told before held. inl (((rw c.in-Err-Limit.field-0-is at c.in-Err-Limit.ensures.limit) bytes told).text before held)
