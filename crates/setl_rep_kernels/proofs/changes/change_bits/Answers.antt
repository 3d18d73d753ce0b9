use Rattle.std.proofs.Common.{◌∙◌, ap}
use Rattle.std.specs.Prelude.{Err}
use Rattle.std.proofs.lemmas.Result.{err_from_is_err_and}
use Rattle.setl_rep_forms.specs.FormOf.{form}
use Rattle.setl_rep_kernels.proofs.Changing.{stays, puts, fails_so}
use Rattle.setl_rep_kernels.proofs.changes.change_bits.Goals as goal

pub returns-in_err-plan_of : goal.returns-in_err-plan_of
returns-in_err-plan_of c =
    let p = err_from_is_err_and c.from_residual.result c.from_residual.ensures.1 in
    fails_so c.args.bases.now c.args.b (form c.args.x.now) c.args.on c.args.bits.now c.requires.living c.requires.shallow c.from_residual.result c.in_err-plan_of.field-0.0 (p.1 ∙ ap Err p.2) c.in_err-plan_of.ensures

pub returns-in-Stays : goal.returns-in-Stays
returns-in-Stays c =
    stays c.args.bases.now c.args.b (form c.args.x.now) c.sets_have_their_members.ensures.tested c.at-base.ensures.known c.args.on c.args.bits.now c.requires.living c.requires.shallow
    c.in_ok-plan_of.field-0 c.in-Stays.is c.in_ok-plan_of.ensures

pub returns-in_ok-put_in_bits-in-Puts : goal.returns-in_ok-put_in_bits-in-Puts
returns-in_ok-put_in_bits-in-Puts c =
    puts c.args.bases.now c.args.b (form c.args.x.now) c.at-base.ensures.known c.args.on c.args.bits.now c.put_in_bits.new.bits c.in-Puts.e c.requires.shallow
    c.in_ok-plan_of.field-0 c.in-Puts.is c.in_ok-plan_of.ensures c.at.result.now c.at.ensures.base c.in_ok-put_in_bits-in-Puts.ensures.put c.in_ok-put_in_bits-in-Puts.ensures.living
