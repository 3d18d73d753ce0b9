use Rattle.std.proofs.Common.{◌≡◌, ◌∙◌, subst, sym, ap, map}
use Rattle.std.proofs.lemmas.Result.{IfOk-weaker}
use Rattle.setl_program.specs.Formed.{Formed}
use Rattle.setl_program.specs.ProgramOf.{program_of}
use Rattle.setl_program.specs.code.Plain.{plain_program, plain_variable}
use Rattle.setl_advise_section.specs.Section.{section_text}
use Rattle.setl_advise_section.specs.code.Numbers.{bases_of, plain_variables}
use Rattle.setl_advise.specs.Advice.{AreLeast, AreFirstFree, main_variables, with_flows}
use Rattle.setl_advise.specs.code.Flows.{HaveLeastFlows}
use Rattle.setl_advise.proofs.advice.advise.Goals as goal

pub returns-clause-advice : goal.returns-clause-advice
returns-clause-advice c =
    let t = c.args.tree.now in
    let n = c.in_ok-numbers.numbers in
    let is : plain_program c.in_ok-program.program ≡ program_of t = c.in_ok-program.ensures in
    let formed = subst Formed (sym is) (c.accepted_is_formed.ensures.formed t c.requires.accepted) in
    let vs = plain_variables c.in_ok-declared.declared.items in
    let have : HaveLeastFlows (program_of t) (main_variables t) vs =
    subst (λ p. HaveLeastFlows p (main_variables t) vs) is
    (subst (λ xs. HaveLeastFlows (plain_program c.in_ok-program.program) xs vs) (ap (map plain_variable) c.as_slice.ensures ∙ c.in_ok-variables.ensures) (c.in_ok-declared.ensures formed)) in
    IfOk-weaker c.section.result _ _
    (λ text h. record {
      flows = have.flows;
      least = have.least;
      numbers = n;
      named = subst (AreFirstFree c.args.names.now n) have.variables (rw c.deref.ensures.value at c.in_ok-numbers.ensures);
      text_is = (rw c.deref-2.ensures.value at h) ∙ ap (section_text (bases_of n)) have.variables;
    })
    c.section.ensures

pub returns-clause-fits : goal.returns-clause-fits
returns-clause-fits c =
    IfOk-weaker c.section.result _ _ (λ text h a. c.advice_always_fits.ensures c.args.names.now c.args.tree.now text.items c.requires.accepted a) c.section.ensures
