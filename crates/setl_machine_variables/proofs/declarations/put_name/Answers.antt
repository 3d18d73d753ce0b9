use Rattle.std.proofs.Common.{◌∙◌}
use Rattle.setl_machine_variables.proofs.Finding.{puts}
use Rattle.setl_machine_variables.proofs.declarations.put_name.Goals as goal

pub returns : goal.returns
returns c =
    puts c.args.table.now c.insert.new.self c.in_ok-key.key c.args.name.now c.args.at c.in_ok-place.place (c.in_ok-key.ensures.items ∙ c.bytes.ensures.value) c.in_ok-place.ensures c.in_ok-insert.ensures.entries
