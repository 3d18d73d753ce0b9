use Rattle.std.proofs.Common.{◌≡◌, ◌+◌, ◌∙◌, arith, sym, ap, refl, rules, Some}
use Rattle.setl_model.specs.Collections.{refusal}
use Rattle.setl_value.specs.code.DatumOf.{part}
use Rattle.setl_code.specs.Machine.{Adds, added}
use Rattle.setl_store_operands.specs.declared.cells.Operand.TheVariants as operand
use Rattle.setl_store.proofs.Adding.{no_collection, told_refused, refused_by, adds, with_member}
use Rattle.setl_store.proofs.OperandLists.{now_is}
use Rattle.setl_store.proofs.NewOperands.{NowHas, told_of_now, rest_same, still_holds}
use Rattle.setl_store.proofs.store.Store.add_below.Goals as goal
use Rattle.setl_store.proofs.store.Store.add_below.Goals.{In_ok-add_member}

pub returns-in_default-clause-told : goal.returns-in_default-clause-told
returns-in_default-clause-told c =
    ap (added c.args.count (part c.args.value)) (sym (now_is c.self.inside.code.now c.self.inside.bases c.self.inside.at c.self.inside.environment.now c.self.inside.environment.kept c.args.self.now c.self.view_is))
    ∙ c.in_default.ensures.nowhere c.self.inside.bases (part c.args.value)

pub returns-in_default-operand : goal.returns-in_default-operand
returns-in_default-operand c = record {
  told =
      no_collection c.self.inside.code.now c.self.inside.bases c.self.inside.at c.self.inside.environment.now c.self.inside.environment.kept c.args.self.now c.in-Some.at c.args.count c.operand.result.now (part c.args.value)
      c.self.invariant.1 c.self.view_is c.in-Some.ensures.place.1 c.in-Some.ensures.place.0 c.operand.ensures c.in-Some.ensures.above c.in_default-operand.not-Collection;
  rest = refl;
  nowhere = λ e. refl;
  refused = tt;
}

pub returns-in_err-check_member-clause-told : goal.returns-in_err-check_member-clause-told
returns-in_err-check_member-clause-told c =
    let told =
    told_refused (added c.args.count (part c.args.value) c.args.self.now.core.now.operands) c.in_err-check_member.field-0.0 (refusal c.in-Collection.what (part c.args.value)) c.args.self.now.core.now.operands c.in_err-check_member.ensures.refused
    (refused_by c.self.inside.code.now c.self.inside.bases c.self.inside.keeps c.self.inside.at c.self.inside.environment.now c.self.inside.environment.kept c.args.self.now c.in-Some.at c.args.count c.in-Collection.what c.in-Collection.lowest c.in-Collection.got
    c.self.invariant c.self.view_is c.in-Some.ensures.place.1 c.in-Some.ensures.place.0 (ap Some (sym c.in-Collection.is) ∙ c.operand.ensures) c.in-Some.ensures.above (part c.args.value)) in
    search rules

abbrev Done : In_ok-add_member → Type 0
Done c = NowHas (λ xs. added c.args.count (part c.args.value) c.args.self.now.core.now.operands ≡ Adds xs) c.self.inside.code.now c.self.inside.bases c.self.inside.keeps c.self.inside.at c.add_member.new.environment.now c.add_member.new.environment.kept c.args.self.now

done : (c : In_ok-add_member) → Done c
done c =
    let one : c.in-Some-checked_add.more ≡ c.in-Collection.got + 1 = omega (arith, c.in-Some-checked_add.ensures) in
    adds c.self.inside.code.now c.self.inside.bases c.self.inside.keeps c.self.inside.at c.self.inside.environment.now c.self.inside.environment.kept c.args.self.now c.in-Some.at c.args.count c.in-Collection.what c.in-Collection.lowest c.in-Collection.got
    c.self.invariant c.self.view_is c.in-Some.ensures.place.1 c.in-Some.ensures.place.0 (ap Some (sym c.in-Collection.is) ∙ c.operand.ensures) c.in-Some.ensures.above
    (record { value = c.args.value }) c.add_member.new.environment.now c.add_member.new.environment.kept c.in_ok-check_member.ensures.taken
    (c.in_ok-add_member.ensures.now ∙ ap (λ n. with_member c.self.inside.environment.now c.in-Some.at (operand.Collection c.in-Collection.what c.in-Collection.lowest n) (record { value = c.args.value })) one) c.in_ok-add_member.ensures.kept

pub invariant_of-self-2 : goal.invariant_of-self-2
invariant_of-self-2 c = still_holds (λ xs. added c.args.count (part c.args.value) c.args.self.now.core.now.operands ≡ Adds xs) c.self.inside.code.now c.self.inside.bases c.self.inside.keeps c.self.inside.at c.add_member.new.environment.now c.add_member.new.environment.kept c.args.self.now (done c)

pub returns-clause-told : goal.returns-clause-told
returns-clause-told c = told_of_now (λ xs. added c.args.count (part c.args.value) c.args.self.now.core.now.operands ≡ Adds xs) c.self.inside.code.now c.self.inside.bases c.self.inside.keeps c.self.inside.at c.add_member.new.environment.now c.add_member.new.environment.kept c.args.self.now (done c)

pub returns-clause-rest : goal.returns-clause-rest
returns-clause-rest c = rest_same (λ xs. added c.args.count (part c.args.value) c.args.self.now.core.now.operands ≡ Adds xs) c.self.inside.code.now c.self.inside.bases c.self.inside.keeps c.self.inside.at c.add_member.new.environment.now c.add_member.new.environment.kept c.args.self.now (done c)
