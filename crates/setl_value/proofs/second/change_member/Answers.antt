use Rattle.std.proofs.Common.{◌≡◌, ap, ◌∙◌, sym, slice_get, slice_set, inl, inr}
use Rattle.std.specs.Result.{is_ok}
use Rattle.std.proofs.lemmas.Option.{IfSome_then}
use Rattle.std.proofs.lemmas.Result.{IfOk-weaker, on_err_weaker}
use Rattle.setl_value.proofs.Changing.{copies, none_then}
use Rattle.setl_value.proofs.second.change_member.Goals as goal

pub change_item-requires-clause-grows : goal.change_item-requires-clause-grows
change_item-requires-clause-grows g c =
    let same : c.in_ok-members.members.now.items ≡ c.args.shared.now.value.items =
    elim c.in_ok-members.ensures.value [ inl e ↦ ap (λ l. l.items) e | inr h ↦ copies c.args.shared.now.value.items c.in_ok-members.members.now.items h.0 ] in
    λ v e. c.requires.grows v (ap (λ l. slice_get l c.args.i) (sym same) ∙ e)

pub returns-clause-changed : goal.returns-clause-changed
returns-clause-changed g c =
    let same : c.in_ok-members.members.now.items ≡ c.args.shared.now.value.items =
    elim c.in_ok-members.ensures.value [ inl e ↦ ap (λ l. l.items) e | inr h ↦ copies c.args.shared.now.value.items c.in_ok-members.members.now.items h.0 ] in
    let left = c.make_mut.follows.holds c.change_item.new.members (ap is_ok c.in_ok-members.was) in
    IfOk-weaker c.change_item.result _ _ (λ o h. IfSome_then o h (λ r m. (m.0, m.1, ap (λ l. slice_get l c.args.i) (sym same) ∙ m.2, m.3, ap (λ l. l.items) left ∙ m.4 ∙ ap (λ l. slice_set l c.args.i m.1) same))) c.change_item.ensures.changed

pub returns-clause-nothing : goal.returns-clause-nothing
returns-clause-nothing g c =
    let same : c.in_ok-members.members.now.items ≡ c.args.shared.now.value.items =
    elim c.in_ok-members.ensures.value [ inl e ↦ ap (λ l. l.items) e | inr h ↦ copies c.args.shared.now.value.items c.in_ok-members.members.now.items h.0 ] in
    IfOk-weaker c.change_item.result _ _ (λ o h. none_then o (λ n. (n.0, ap (λ l. slice_get l c.args.i) (sym same) ∙ n.1, n.2)) h) c.change_item.ensures.nothing

pub returns-clause-unchanged : goal.returns-clause-unchanged
returns-clause-unchanged g c =
    let same : c.in_ok-members.members.now.items ≡ c.args.shared.now.value.items =
    elim c.in_ok-members.ensures.value [ inl e ↦ ap (λ l. l.items) e | inr h ↦ copies c.args.shared.now.value.items c.in_ok-members.members.now.items h.0 ] in
    let left = c.make_mut.follows.holds c.change_item.new.members (ap is_ok c.in_ok-members.was) in
    IfOk-weaker c.change_item.result _ _ (λ o h. none_then o (λ e. ap (λ l. l.items) left ∙ e ∙ same) h) c.change_item.ensures.unchanged

pub returns-clause-refused : goal.returns-clause-refused
returns-clause-refused g c =
    let same : c.in_ok-members.members.now.items ≡ c.args.shared.now.value.items =
    elim c.in_ok-members.ensures.value [ inl e ↦ ap (λ l. l.items) e | inr h ↦ copies c.args.shared.now.value.items c.in_ok-members.members.now.items h.0 ] in
    let left = c.make_mut.follows.holds c.change_item.new.members (ap is_ok c.in_ok-members.was) in
    on_err_weaker c.change_item.result (λ e. ap (λ l. l.items) left ∙ e ∙ same) c.change_item.ensures.refused
