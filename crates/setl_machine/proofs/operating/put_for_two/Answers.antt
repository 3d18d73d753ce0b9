use Rattle.std.proofs.Common.{subst, sym}
use Rattle.setl_value.specs.code.DatumOf.{part}
use Rattle.setl_store.specs.Operands.{IsPlainTop}
use Rattle.setl_store.specs.Standing.{Standing}
use Rattle.setl_machine.proofs.Operated.{some_of_two, plain_of_two, put_two}
use Rattle.setl_machine.proofs.operating.put_for_two.Goals as goal

pub drop_top-requires : goal.drop_top-requires
drop_top-requires c = some_of_two c.args.store.now.core.now.operands c.requires.two

pub put_top-requires : goal.put_top-requires
put_top-requires c = subst (λ (s : Standing). IsPlainTop s.core.now.operands) (sym c.in_ok-drop_top.ensures) (plain_of_two c.args.store.now.core.now.operands c.requires.two)

pub returns : goal.returns
returns c = put_two c.args.store.now c.drop_top.new.self c.put_top.new.self c.go_on.new.store (part c.args.value) c.in_ok-drop_top.ensures c.in_ok-put_top.ensures c.go_on.ensures
