use Rattle.std.proofs.Common.{◌≡◌, Some, subst, rules}
use Rattle.setl_value.specs.declared.Value.TheVariants.{Tuple}
use Rattle.setl_machine_control.specs.Working.{PopsTop}
use Rattle.setl_machine.proofs.Components.{apart_goes}
use Rattle.setl_machine.proofs.iterating.take_apart.Goals as goal

pub returns-in-Some-Some-Tuple : goal.returns-in-Some-Some-Tuple
returns-in-Some-Some-Tuple c =
    let same : c.in_ok-tuple.field-0 ≡ Some (Some (Tuple c.in-Some-Some-Tuple.tuple)) = search rules in
    let pops = subst (λ v. PopsTop c.args.store.now v c.pop_top.new.store) same c.in_ok-tuple.ensures in
    apart_goes c.args.store.now c.pop_top.new.store c.push_parts.new.store c.go_on.new.store c.args.line c.args.count c.in-Some-Some-Tuple.tuple pops.0 pops.1 c.in_ok-push_parts-in-Some-Some-Tuple.ensures c.go_on.ensures
