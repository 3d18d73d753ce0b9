use Rattle.setl_value.specs.code.DatumOf.{part}
use Rattle.std.proofs.Common.{◌-◌, ◌∙◌, ap, length}
use Rattle.setl_rep_plain.specs.Standing.{held_value, IsHeldOver}
use Rattle.setl_store.specs.Flat.{cut_to}
use Rattle.setl_store.proofs.StandingOperands.{form_over}
use Rattle.setl_store.proofs.Popping.{TakesTop, copy_taken, form_taken, plain_there, plain_taken}
use Rattle.setl_store.proofs.Serving.{collection_serves, collection_within}
use Rattle.setl_store.proofs.store.Store.pop.Goals as goal
use Rattle.setl_store.proofs.store.Store.pop.Goals.{After-plain-arg-in-Based-1, In_ok-drop_operand-in-Collection, In_ok-drop_operand-in-Based}

pub served-requires : goal.served-requires
served-requires c =
    collection_serves c.self.inside.code.now c.self.inside.bases c.self.inside.at c.self.inside.environment.now c.self.inside.environment.kept c.args.self.now c.self.invariant.1 c.self.view_is c.requires
    c.operands-last.result c.operands-last.ensures c.operand-operand.result.now c.operand-operand.ensures c.in-Collection.field-0 c.in-Collection.lowest c.in-Collection.field-2 c.in-Collection.is

pub drop_operand-requires-clause-fewer : goal.drop_operand-requires-clause-fewer
drop_operand-requires-clause-fewer c =
    collection_within c.self.inside.code.now c.self.inside.bases c.self.inside.at c.self.inside.environment.now c.self.inside.environment.kept c.args.self.now c.self.invariant.1 c.self.view_is c.requires
    c.operands-last.result c.operands-last.ensures c.operand-operand.result.now c.operand-operand.ensures c.in-Collection.field-0 c.in-Collection.lowest c.in-Collection.field-2 c.in-Collection.is

-- a collection is taken off, with what it serves as
made : (c : In_ok-drop_operand-in-Collection) → TakesTop c.self.inside.code.now c.self.inside.bases c.self.inside.keeps c.self.inside.at c.drop_operand.new.environment.now c.drop_operand.new.environment.kept c.args.self.now (part c.in_ok-value-in-Collection.value)
made c =
    copy_taken c.self.inside.code.now c.self.inside.bases c.self.inside.keeps c.self.inside.at c.self.inside.environment.now c.self.inside.environment.kept c.args.self.now c.self.invariant c.self.view_is c.requires
    c.operands-last.result c.operands-last.ensures c.operand-operand.result.now c.operand-operand.ensures c.drop_operand.new.environment.now c.drop_operand.new.environment.kept
    c.in-Collection.field-0 c.in-Collection.lowest c.in-Collection.field-2 (part c.in_ok-value-in-Collection.value) c.in-Collection.is
    c.in_ok-drop_operand-in-Collection.ensures.now c.in_ok-drop_operand-in-Collection.ensures.kept c.in_ok-value-in-Collection.ensures

pub invariant_of-self-in-Collection : goal.invariant_of-self-in-Collection
invariant_of-self-in-Collection c = (made (goal.at.invariant_of-self-in-Collection c).In_ok-drop_operand-in-Collection).holds

pub returns-in_ok-drop_operand-in-Collection-clause-value : goal.returns-in_ok-drop_operand-in-Collection-clause-value
returns-in_ok-drop_operand-in-Collection-clause-value c = (made (goal.at.returns-in_ok-drop_operand-in-Collection-clause-value c).In_ok-drop_operand-in-Collection).value

pub returns-in_ok-drop_operand-in-Collection-clause-rest : goal.returns-in_ok-drop_operand-in-Collection-clause-rest
returns-in_ok-drop_operand-in-Collection-clause-rest c = (made (goal.at.returns-in_ok-drop_operand-in-Collection-clause-rest c).In_ok-drop_operand-in-Collection).rest

-- a value in a form is taken off
standing : (c : After-plain-arg-in-Based-1) → IsHeldOver c.self.inside.bases c.get.result.now
standing c =
    form_over c.self.inside.bases c.self.inside.environment.now.operands (c.operands-last.result - 1) c.operand-operand.result.now c.in-Based.form c.get.result.now c.self.invariant.1.operands c.operand-operand.ensures c.in-Based.is c.get.ensures

pub plain-requires-clause-over : goal.plain-requires-clause-over
plain-requires-clause-over c = (standing c).over

pub plain-requires-clause-shallow : goal.plain-requires-clause-shallow
plain-requires-clause-shallow c = (standing c).shallow

unformed : (c : In_ok-drop_operand-in-Based) → TakesTop c.self.inside.code.now c.self.inside.bases c.self.inside.keeps c.self.inside.at c.drop_operand-in-Based.new.environment.now c.drop_operand-in-Based.new.environment.kept c.args.self.now (part c.in_ok-value-in-Based.value)
unformed c =
    form_taken c.self.inside.code.now c.self.inside.bases c.self.inside.keeps c.self.inside.at c.self.inside.environment.now c.self.inside.environment.kept c.args.self.now c.self.invariant c.self.view_is c.requires
    c.operands-last.result c.operands-last.ensures c.operand-operand.result.now c.operand-operand.ensures c.drop_operand-in-Based.new.environment.now c.drop_operand-in-Based.new.environment.kept
    c.in-Based.form (part c.in_ok-value-in-Based.value) c.in-Based.is (c.in_ok-drop_operand-in-Based.ensures.now ∙ ap (cut_to c.self.inside.environment.now (length c.self.inside.environment.now.operands - 1)) c.members-members.ensures) c.in_ok-drop_operand-in-Based.ensures.kept
    (c.in_ok-value-in-Based.ensures ∙ ap (held_value c.self.inside.bases) c.get.ensures)

pub invariant_of-self-in-Based : goal.invariant_of-self-in-Based
invariant_of-self-in-Based c = (unformed (goal.at.invariant_of-self-in-Based c).In_ok-drop_operand-in-Based).holds

pub returns-in_ok-drop_operand-in-Based-clause-value : goal.returns-in_ok-drop_operand-in-Based-clause-value
returns-in_ok-drop_operand-in-Based-clause-value c = (unformed (goal.at.returns-in_ok-drop_operand-in-Based-clause-value c).In_ok-drop_operand-in-Based).value

pub returns-in_ok-drop_operand-in-Based-clause-rest : goal.returns-in_ok-drop_operand-in-Based-clause-rest
returns-in_ok-drop_operand-in-Based-clause-rest c = (unformed (goal.at.returns-in_ok-drop_operand-in-Based-clause-rest c).In_ok-drop_operand-in-Based).rest

pub value-requires : goal.value-requires
value-requires c =
    plain_there c.self.inside.code.now c.self.inside.bases c.self.inside.keeps c.self.inside.at c.self.inside.environment.now c.self.inside.environment.kept c.args.self.now c.self.invariant c.self.view_is c.requires
    c.operands-last.result c.operands-last.ensures c.operand-operand.result.now c.operand-operand.ensures c.in_ok-take_operand-in_default.field-0 c.in_ok-take_operand-in_default.ensures.value c.in_default.not-Collection c.in_default.not-Based

pub invariant_of-self-in_default : goal.invariant_of-self-in_default
invariant_of-self-in_default c =
    let plain = plain_there c.self.inside.code.now c.self.inside.bases c.self.inside.keeps c.self.inside.at c.self.inside.environment.now c.self.inside.environment.kept c.args.self.now c.self.invariant c.self.view_is c.requires
    c.operands-last.result c.operands-last.ensures c.operand-operand.result.now c.operand-operand.ensures c.in_ok-take_operand-in_default.field-0 c.in_ok-take_operand-in_default.ensures.value c.in_default.not-Collection c.in_default.not-Based in
    (plain_taken c.self.inside.code.now c.self.inside.bases c.self.inside.keeps c.self.inside.at c.self.inside.environment.now c.take_operand.new.environment.now c.self.inside.environment.kept c.take_operand.new.environment.kept c.args.self.now c.self.invariant c.self.view_is c.requires
    c.in_ok-take_operand-in_default.field-0 (part c.value.result) c.in_ok-take_operand-in_default.ensures.value plain c.value.ensures c.in_ok-take_operand-in_default.ensures.now c.in_ok-take_operand-in_default.ensures.kept).holds

pub returns-in_ok-take_operand-in_default : goal.returns-in_ok-take_operand-in_default
returns-in_ok-take_operand-in_default c =
    let plain = plain_there c.self.inside.code.now c.self.inside.bases c.self.inside.keeps c.self.inside.at c.self.inside.environment.now c.self.inside.environment.kept c.args.self.now c.self.invariant c.self.view_is c.requires
    c.operands-last.result c.operands-last.ensures c.operand-operand.result.now c.operand-operand.ensures c.in_ok-take_operand-in_default.field-0 c.in_ok-take_operand-in_default.ensures.value c.in_default.not-Collection c.in_default.not-Based in
    let taken = plain_taken c.self.inside.code.now c.self.inside.bases c.self.inside.keeps c.self.inside.at c.self.inside.environment.now c.take_operand.new.environment.now c.self.inside.environment.kept c.take_operand.new.environment.kept c.args.self.now c.self.invariant c.self.view_is c.requires
    c.in_ok-take_operand-in_default.field-0 (part c.value.result) c.in_ok-take_operand-in_default.ensures.value plain c.value.ensures c.in_ok-take_operand-in_default.ensures.now c.in_ok-take_operand-in_default.ensures.kept in
    record { value = taken.value; rest = taken.rest; refused = tt }
