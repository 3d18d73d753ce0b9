use Rattle.setl_program.specs.ProgramOf.{program_of}
use Rattle.setl_advise_solving.specs.Advised.{with_modes}
use Rattle.setl_advise.proofs.laws.advice_always_fits.Goals as goal

pub returns : goal.returns
returns c names t text accepted a m b advises input turns n e s ends =
    let p = program_of t in
    let formed = c.accepted_is_formed.ensures.formed t accepted in
    let solves = c.conditions_are_enough.ensures (with_modes p m) a.flows formed (c.conditions_are_needed.ensures p a.flows a.least.solves) in
    c.values_stay_in_their_flows.ensures.fits (with_modes p m) a.flows b solves advises input turns n e s ends
