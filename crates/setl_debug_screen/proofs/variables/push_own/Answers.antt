use Rattle.std.proofs.Common.{◌≡◌, ◌++◌, subst, OnOk}
use Rattle.setl_code.specs.CodeCore.{held}
use Rattle.setl_code.specs.Plain.{variable_at}
use Rattle.setl_model_runs.specs.Variable.{Own}
use Rattle.setl_store.specs.Standing.{variables}
use Rattle.setl_debug_screen.specs.code.Standing.{named_line}
use Rattle.setl_debug_screen.proofs.Slots.{found}
use Rattle.setl_debug_screen.proofs.variables.push_own.Goals as goal

pub returns : goal.returns
returns c =
    let k = c.args.store.now.core in
    let same = found (variables k).own c.args.at (Own k.now.body c.args.name.now) c.requires.here in
    subst (λ x. OnOk c.push_line.result (c.push_line.new.into.items ≡ c.args.into.now.items ++ named_line c.args.name.now (held x k))) same
    (subst (λ name. OnOk c.push_line.result (c.push_line.new.into.items ≡ c.args.into.now.items ++ named_line name (held (variable_at (variables k).own c.args.at) k))) c.bytes.ensures.value c.push_line.ensures)
