use Rattle.std.proofs.Common.{◌∙◌, ◌++◌, ap, sym}
use Rattle.setl_value.specs.code.DatumOf.{datum}
use Rattle.setl_rep_layout.specs.Members.{values_of}
use Rattle.setl_rep_layout.specs.Values.{tuple_text}
use Rattle.setl_rep_layout.proofs.ByModes.{tuple_by}
use Rattle.setl_rep_layout.proofs.Words.{on_ok}
use Rattle.setl_rep_layout.proofs.values.push_tuple.Goals as goal

pub returns-in-Tuple : goal.returns-in-Tuple
returns-in-Tuple c =
    let members = values_of c.args.base.now in
    let text = tuple_by members c.in-Tuple.t ∙ ap (λ v. tuple_text members (datum v)) (sym c.in-Tuple.is) in
    on_ok c.push_components.result (λ e. e ∙ ap (λ l. c.args.into.now.items ++ l) text) c.push_components.ensures
