use Rattle.setl_live_reads.proofs.Bits.{or_left, read_reads, read_only, write_passes, write_only, back_reads, back_only}
use Rattle.setl_live_reads.proofs.masks.before.Goals as goal

pub returns-in-Read-clause-reads : goal.returns-in-Read-clause-reads
returns-in-Read-clause-reads c back handed k small read =
    read_reads c.args.access c.in-Read.slot c.args.base c.args.behind c.bit.result k small back c.in-Read.is (c.bit.ensures.slot k small) read

pub returns-in-Read-clause-passes : goal.returns-in-Read-clause-passes
returns-in-Read-clause-passes c k small kept is = or_left c.args.behind c.bit.result k is

pub returns-in-Read-clause-only : goal.returns-in-Read-clause-only
returns-in-Read-clause-only c back handed k small has =
    read_only c.args.access c.in-Read.slot c.args.base c.args.behind c.bit.result k small back c.in-Read.is (c.bit.ensures.others k small) has

pub returns-in-Write-clause-passes : goal.returns-in-Write-clause-passes
returns-in-Write-clause-passes c k small kept has =
    write_passes c.args.access c.in-Write.slot c.args.base c.args.behind c.bit-in-Write.result k small c.in-Write.is c.bit-in-Write.type_inv (c.bit-in-Write.ensures.others k small) kept has

pub returns-in-Write-clause-only : goal.returns-in-Write-clause-only
returns-in-Write-clause-only c back handed k small has =
    write_only c.args.access c.in-Write.slot c.args.base c.args.behind c.bit-in-Write.result k small back c.in-Write.is c.bit-in-Write.type_inv (c.bit-in-Write.ensures.slot k small) has

pub returns-in-HandBack-clause-reads : goal.returns-in-HandBack-clause-reads
returns-in-HandBack-clause-reads c back handed k small read = back_reads c.args.access 0 c.args.base c.args.behind c.args.handed k small back c.in-HandBack.is (handed k small) read

pub returns-in-HandBack-clause-passes : goal.returns-in-HandBack-clause-passes
returns-in-HandBack-clause-passes c k small kept is = or_left c.args.behind c.args.handed k is

pub returns-in-HandBack-clause-only : goal.returns-in-HandBack-clause-only
returns-in-HandBack-clause-only c back handed k small has = back_only c.args.access 0 c.args.base c.args.behind c.args.handed k small back c.in-HandBack.is (handed k small) has
