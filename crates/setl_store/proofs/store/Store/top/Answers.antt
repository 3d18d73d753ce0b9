use Rattle.std.proofs.Common.{◌∙◌, ◌+◌, ◌-◌, ◌∷◌, drop, sym, ap, subst, refl, arith}
use Rattle.setl_code.specs.CodeCore.{Result as Holds}
use Rattle.setl_code.specs.Plain.{plain_code}
use Rattle.setl_rep_plain.specs.Standing.{held_value}
use Rattle.setl_store.specs.declared.store.Top.TheVariants as top
use Rattle.setl_store_operands.specs.Operands.{operand_of}
use Rattle.setl_store.specs.Standing.{Shows}
use Rattle.setl_store.proofs.StandingOperands.{form_over}
use Rattle.setl_store.proofs.OperandLists.{lowest_below, top_is, shows_iterator}
use Rattle.setl_store.proofs.store.Store.top.Goals as goal

pub returns-in-Om : goal.returns-in-Om
returns-in-Om c =
    let is = top_is c.self.inside.code.now c.self.inside.bases c.self.inside.at c.self.inside.environment.now c.self.inside.environment.kept c.args.self.now (c.operands-count.result - 1) c.operand.result.now c.self.invariant.1 c.self.view_is (omega (arith, lowest_below (plain_code c.self.inside.code.now) c.self.inside.bases c.self.inside.environment.now c.self.invariant.1, c.if-count-lowest.false, c.lowest.ensures, c.operands-count.ensures)) (omega (arith, c.operands-count.ensures)) c.operand.ensures in
    subst (λ l. Shows l top.Om) (sym (is ∙ ap (λ o. operand_of c.self.inside.bases c.self.inside.environment.now.members o ∷ drop 1 c.args.self.now.core.now.operands) c.in-Om.is)) tt

pub returns-in-Value : goal.returns-in-Value
returns-in-Value c =
    let is = top_is c.self.inside.code.now c.self.inside.bases c.self.inside.at c.self.inside.environment.now c.self.inside.environment.kept c.args.self.now (c.operands-count.result - 1) c.operand.result.now c.self.invariant.1 c.self.view_is (omega (arith, lowest_below (plain_code c.self.inside.code.now) c.self.inside.bases c.self.inside.environment.now c.self.invariant.1, c.if-count-lowest.false, c.lowest.ensures, c.operands-count.ensures)) (omega (arith, c.operands-count.ensures)) c.operand.ensures in
    subst (λ l. Shows l (top.Value (record { ref_ptr = (c.operand.result.ref_ptr.0, c.operand.result.ref_ptr.1 + 16); now = c.in-Value.value }))) (sym (is ∙ ap (λ o. operand_of c.self.inside.bases c.self.inside.environment.now.members o ∷ drop 1 c.args.self.now.core.now.operands) c.in-Value.is)) refl

pub top_of_form-requires : goal.top_of_form-requires
top_of_form-requires c =
    (form_over c.self.inside.bases c.self.inside.environment.now.operands (c.operands-count.result - 1) c.operand.result.now c.in-Based.form c.get.result.now c.self.invariant.1.operands c.operand.ensures c.in-Based.is c.get.ensures).over

pub returns-in-Based : goal.returns-in-Based
returns-in-Based c =
    let is = top_is c.self.inside.code.now c.self.inside.bases c.self.inside.at c.self.inside.environment.now c.self.inside.environment.kept c.args.self.now (c.operands-count.result - 1) c.operand.result.now c.self.invariant.1 c.self.view_is (omega (arith, lowest_below (plain_code c.self.inside.code.now) c.self.inside.bases c.self.inside.environment.now c.self.invariant.1, c.if-count-lowest.false, c.lowest.ensures, c.operands-count.ensures)) (omega (arith, c.operands-count.ensures)) c.operand.ensures in
    let xs = drop 1 c.args.self.now.core.now.operands in
    subst (λ l. Shows l c.top_of_form.result) (sym (is ∙ ap (λ o. operand_of c.self.inside.bases c.self.inside.environment.now.members o ∷ xs) c.in-Based.is ∙ ap (λ h. Holds (held_value c.self.inside.bases h) ∷ xs) (sym c.get.ensures))) (c.top_of_form.ensures xs)

pub returns-in-Iterator : goal.returns-in-Iterator
returns-in-Iterator c =
    let is = top_is c.self.inside.code.now c.self.inside.bases c.self.inside.at c.self.inside.environment.now c.self.inside.environment.kept c.args.self.now (c.operands-count.result - 1) c.operand.result.now c.self.invariant.1 c.self.view_is (omega (arith, lowest_below (plain_code c.self.inside.code.now) c.self.inside.bases c.self.inside.environment.now c.self.invariant.1, c.if-count-lowest.false, c.lowest.ensures, c.operands-count.ensures)) (omega (arith, c.operands-count.ensures)) c.operand.ensures in
    subst (λ l. Shows l top.Iterator) (sym (is ∙ ap (λ o. operand_of c.self.inside.bases c.self.inside.environment.now.members o ∷ drop 1 c.args.self.now.core.now.operands) c.in-Iterator.is)) (shows_iterator c.in-Iterator.field-0.pairs c.in-Iterator.field-0.left (drop 1 c.args.self.now.core.now.operands))

pub returns-in-Collection : goal.returns-in-Collection
returns-in-Collection c =
    let is = top_is c.self.inside.code.now c.self.inside.bases c.self.inside.at c.self.inside.environment.now c.self.inside.environment.kept c.args.self.now (c.operands-count.result - 1) c.operand.result.now c.self.invariant.1 c.self.view_is (omega (arith, lowest_below (plain_code c.self.inside.code.now) c.self.inside.bases c.self.inside.environment.now c.self.invariant.1, c.if-count-lowest.false, c.lowest.ensures, c.operands-count.ensures)) (omega (arith, c.operands-count.ensures)) c.operand.ensures in
    subst (λ l. Shows l (top.Collection c.in-Collection.what)) (sym (is ∙ ap (λ o. operand_of c.self.inside.bases c.self.inside.environment.now.members o ∷ drop 1 c.args.self.now.core.now.operands) c.in-Collection.is)) refl
