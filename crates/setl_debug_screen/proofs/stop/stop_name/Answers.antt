use Rattle.setl_debug_screen.proofs.Stopping.{name_told, none_told}
use Rattle.setl_debug_screen.proofs.stop.stop_name.Goals as goal

pub returns-in-Some : goal.returns-in-Some
returns-in-Some c =
    name_told c.args.declared.now c.in-Unfit.at c.args.kind c.in-Some.declared.now c.name_of.result.now c.in-Unfit.is c.in-Some.ensures.some c.name_of.ensures

pub returns-in-None : goal.returns-in-None
returns-in-None c = none_told c.args.declared.now c.in-Unfit.at c.args.kind c.in-Unfit.is c.in-None.ensures.none
