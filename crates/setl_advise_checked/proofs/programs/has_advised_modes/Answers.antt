use Rattle.std.proofs.Common.{map, subst}
use Rattle.setl_program.specs.code.Plain.{plain_declared, plain_program}
use Rattle.setl_advise_section.specs.code.Numbers.{bases_of}
use Rattle.setl_advise_terms.specs.code.Plain.{flows_of}
use Rattle.setl_advise_checked.specs.Checked.{AreAdvised}
use Rattle.setl_advise_checked.proofs.Declared.{have_advice}
use Rattle.setl_advise_checked.proofs.programs.has_advised_modes.Goals as goal

pub returns : goal.returns
returns c so formed input turns n e a ends =
    let p = plain_program c.args.program.now in
    let s = flows_of c.in_ok-table.table in
    let b = bases_of c.numbers.result in
    let advised : AreAdvised b s p.modes = subst (λ ds. AreAdvised b s (map plain_declared ds)) c.as_slice-declared.ensures (c.are_advised.ensures so) in
    c.values_stay_in_their_flows.ensures.fits p s b (c.in_ok-table.ensures.solves formed) (have_advice b s p.modes advised) input turns n e a ends
