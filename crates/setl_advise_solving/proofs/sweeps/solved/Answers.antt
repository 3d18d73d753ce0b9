use Rattle.std.proofs.Common.{◌∙◌, ap, subst}
use Rattle.std.proofs.lemmas.Result.{IfOk-weaker}
use Rattle.setl_program.specs.code.Plain.{plain_program}
use Rattle.setl_advise_conditions.specs.Conditions.{MeetsAll}
use Rattle.setl_advise_conditions.specs.Grown.{Grown}
use Rattle.setl_advise_conditions.specs.Parts.{conditions_of}
use Rattle.setl_advise_gathering.specs.code.Plain.{listed}
use Rattle.setl_advise_terms.specs.code.Plain.{flows_of}
use Rattle.setl_advise_solving.specs.Advised.{with_modes}
use Rattle.setl_advise_solving.proofs.sweeps.solved.Goals as goal

pub returns-clause-solves : goal.returns-clause-solves
returns-clause-solves c =
    let p = plain_program c.args.p.now in
    IfOk-weaker c.settled.result _ _
    (λ t h formed. c.conditions_are_enough.ensures p (flows_of t) formed (subst (MeetsAll (flows_of t)) (ap listed c.as_slice.ensures.value ∙ c.in_ok-conditions.ensures) h))
    c.settled.ensures.met

pub returns-clause-fits : goal.returns-clause-fits
returns-clause-fits c =
    let p = plain_program c.args.p.now in
    IfOk-weaker c.settled.result _ _
    (λ t h formed m b advises input turns n e a ends.
    c.values_stay_in_their_flows.ensures.fits (with_modes p m) (flows_of t) b
    (c.conditions_are_enough.ensures (with_modes p m) (flows_of t) formed (subst (MeetsAll (flows_of t)) (ap listed c.as_slice.ensures.value ∙ c.in_ok-conditions.ensures) h))
    advises input turns n e a ends)
    c.settled.ensures.met

pub returns-clause-least : goal.returns-clause-least
returns-clause-least c =
    let p = plain_program c.args.p.now in
    let is = ap listed c.as_slice.ensures.value ∙ c.in_ok-conditions.ensures in
    IfOk-weaker c.settled.result _ _
    (λ t h u within solves. c.grown_flows_are_least.ensures (conditions_of p) (flows_of t) u within (subst (λ cs. Grown cs (flows_of t)) is h) (c.conditions_are_needed.ensures p u solves))
    c.settled.ensures.grown
