use Rattle.std.proofs.Common.{◌∙◌, ◌++◌, ap, sym}
use Rattle.setl_modes.specs.declared.mode.Form.TheVariants.{Local, Remote, Sparse}
use Rattle.setl_value.specs.code.Body.{Members}
use Rattle.setl_value.specs.code.DatumOf.{datum}
use Rattle.setl_modes_dump.specs.Dump.{plain_text}
use Rattle.setl_rep_layout.specs.Members.{values_of}
use Rattle.setl_rep_layout.specs.Values.{based_text}
use Rattle.setl_rep_layout.proofs.ByModes.{numbered, plain_of_set, set_by}
use Rattle.setl_rep_layout.proofs.Words.{on_ok}
use Rattle.setl_rep_layout.proofs.values.push_set.Goals as goal

pub returns-in-Plain : goal.returns-in-Plain
returns-in-Plain c =
    let members = values_of c.args.base.now in
    let text = ap (λ v. plain_text (datum v)) c.in-Set.is ∙ plain_of_set members (Members c.in-Set.s) ∙ (λ i. based_text (sym c.in-Plain.is i) members (datum (sym c.in-Set.is i))) in
    on_ok c.push_plain-in-Plain.result (λ e. e ∙ ap (λ l. c.args.into.now.items ++ l) text) c.push_plain-in-Plain.ensures

pub returns-in-Sparse : goal.returns-in-Sparse
returns-in-Sparse c =
    let members = values_of c.args.base.now in
    let text = set_by Sparse members (Members c.in-Set.s) ∙ (λ i. based_text (sym c.in-Sparse.is i) members (datum (sym c.in-Set.is i))) in
    on_ok c.push_sparse_set.result (λ e. e ∙ ap (λ l. c.args.into.now.items ++ l) text) c.push_sparse_set.ensures

pub returns-in-Local : goal.returns-in-Local
returns-in-Local c =
    let members = values_of c.args.base.now in
    let text = set_by Local members (Members c.in-Set.s) ∙ (λ i. based_text (sym c.in-Local.is i) members (datum (sym c.in-Set.is i))) in
    on_ok c.push_remote_set.result (λ e. e ∙ ap (λ a. c.args.into.now.items ++ numbered a members (Members c.in-Set.s)) c.in-Local.is ∙ ap (λ l. c.args.into.now.items ++ l) text) c.push_remote_set.ensures

pub returns-in-Remote : goal.returns-in-Remote
returns-in-Remote c =
    let members = values_of c.args.base.now in
    let text = set_by Remote members (Members c.in-Set.s) ∙ (λ i. based_text (sym c.in-Remote.is i) members (datum (sym c.in-Set.is i))) in
    on_ok c.push_remote_set-in-Remote.result (λ e. e ∙ ap (λ a. c.args.into.now.items ++ numbered a members (Members c.in-Set.s)) c.in-Remote.is ∙ ap (λ l. c.args.into.now.items ++ l) text) c.push_remote_set-in-Remote.ensures
