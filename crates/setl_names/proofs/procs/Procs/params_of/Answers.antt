use Rattle.std.proofs.Common.{Some, None}
use Rattle.setl_names.proofs.Tables.{params_found}
use Rattle.setl_names.proofs.procs.Procs.params_of.Goals as goal

pub returns-in-None : goal.returns-in-None
returns-in-None c = params_found c.args.self.now c.args.name.now None c.in-None.ensures

pub returns-in-Some : goal.returns-in-Some
returns-in-Some c = params_found c.args.self.now c.args.name.now (Some (c.in-Some.found.0, c.in-Some.found.1.now)) c.in-Some.ensures
