use Rattle.std.proofs.Common.{[], ◌∷◌, Some, sym, subst}
use Rattle.setl_value.specs.code.DatumOf.{datum, part}
use Rattle.setl_modes.specs.Modes.{mode_of}
use Rattle.setl_operators_table.specs.declared.Operator.TheVariants.{Put}
use Rattle.setl_operators_table.specs.Operators.{op_of}
use Rattle.setl_rep_forms.specs.FormOf.{form}
use Rattle.setl_rep_forms.specs.Stands.{stands}
use Rattle.setl_rep_updates.specs.Updates.{IsUpdate}
use Rattle.setl_rep_updates.proofs.updating.put_part.Goals as goal

pub returns-in-None-clause-update : goal.returns-in-None-clause-update
returns-in-None-clause-update c =
    let m = mode_of c.args.mode.now in
    let n = c.args.instance in
    let bs = c.args.bases.now in
    let f = form c.args.f.now in
    subst (λ y. IsUpdate m n (op_of Put (stands bs f ∷ Some (datum c.args.x.now) ∷ part y ∷ [])) bs bs f (form c.cut.new.f) c.cut.result) (sym c.in-None.is) (c.cut.ensures.update m n c.requires)
