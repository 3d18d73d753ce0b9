use Rattle.std.proofs.Common.{sym, ap, arith}
use Rattle.setl_token.specs.Spellings.{spellings}
use Rattle.setl_token.proofs.Words.{spellings_with, no_spellings}
use Rattle.setl_token.proofs.spellings.spellings_of_len.Goals as goal

pub returns-in-1 : goal.returns-in-1
unfolding spellings
returns-in-1 c = ap spellings_with (sym c.in-1.is)

pub returns-in-2 : goal.returns-in-2
unfolding spellings
returns-in-2 c = ap spellings_with (sym c.in-2.is)

pub returns-in-3 : goal.returns-in-3
unfolding spellings
returns-in-3 c = ap spellings_with (sym c.in-3.is)

pub returns-in-4 : goal.returns-in-4
unfolding spellings
returns-in-4 c = ap spellings_with (sym c.in-4.is)

pub returns-in-5 : goal.returns-in-5
unfolding spellings
returns-in-5 c = ap spellings_with (sym c.in-5.is)

pub returns-in-6 : goal.returns-in-6
unfolding spellings
returns-in-6 c = ap spellings_with (sym c.in-6.is)

pub returns-in-7 : goal.returns-in-7
unfolding spellings
returns-in-7 c = ap spellings_with (sym c.in-7.is)

pub returns-in-8 : goal.returns-in-8
unfolding spellings
returns-in-8 c = ap spellings_with (sym c.in-8.is)

pub returns-in-9 : goal.returns-in-9
unfolding spellings
returns-in-9 c = ap spellings_with (sym c.in-9.is)

pub returns-in-10 : goal.returns-in-10
unfolding spellings
returns-in-10 c = ap spellings_with (sym c.in-10.is)

pub returns-in_default : goal.returns-in_default
returns-in_default c = sym (no_spellings c.args.len (λ low high. omega arith))
