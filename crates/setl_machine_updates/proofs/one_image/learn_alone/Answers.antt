use Rattle.std.proofs.Common.{sym, subst}
use Rattle.setl_value.specs.code.DatumOf.{datum}
use Rattle.setl_operators_table.specs.declared.Operator.TheVariants.{Add, Subtract, With, Less}
use Rattle.setl_machine_updates.specs.Changing.{CombinesAlike}
use Rattle.setl_machine_updates.proofs.Alone.{added_alike, subtracted_alike}
use Rattle.setl_machine_updates.proofs.one_image.learn_alone.Goals as goal

pub returns-clause-sum : goal.returns-clause-sum
returns-clause-sum c =
    let y = datum c.args.y.now in
    subst (λ d. CombinesAlike Add d With y) (sym c.requires)
    (added_alike c.rising_lists_agree.ensures c.tests_are_exact.ensures.membership c.operations_have_their_members.ensures.union c.images_are_shallower.ensures y)

pub returns-clause-difference : goal.returns-clause-difference
returns-clause-difference c =
    let y = datum c.args.y.now in
    subst (λ d. CombinesAlike Subtract d Less y) (sym c.requires) (subtracted_alike y)
