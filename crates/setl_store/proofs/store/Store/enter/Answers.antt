use Rattle.std.proofs.Common.{◌≡◌, ◌+◌, ◌<◌, ◌∙◌, map, length, sym, ap, subst, refl, slice_get, IfSome}
use Rattle.std.proofs.lemmas.List.{length-map}
use Rattle.std.proofs.lemmas.Option.{IfSome_then}
use Rattle.setl_value.specs.code.DatumOf.{part}
use Rattle.setl_code.specs.declared.code.Code.{Code}
use Rattle.setl_code.specs.Plain.{plain_code}
use Rattle.setl_store.specs.Bodies.{entered}
use Rattle.setl_store.specs.Standing.{Standing}
use Rattle.setl_store.proofs.Entering.{enters}
use Rattle.setl_store.proofs.OperandLists.{Changed}
use Rattle.setl_store.proofs.store.Store.enter.Goals as goal
use Rattle.setl_store.proofs.store.Store.enter.Goals.{In_ok-add_activation}

done : (c : In_ok-add_activation) → Changed c.self.inside.code.now c.self.inside.bases c.self.inside.keeps 0 c.add_activation.new.environment.now c.add_activation.new.environment.kept c.args.self.now (entered c.args.body (slice_get (plain_code c.args.self.now.code).bodies c.args.body) (map part c.args.values.items) c.args.self.now.core)
done c =
    let e = c.self.inside.environment.now in
    let s = c.args.self.now in
    let same : s.code ≡ c.self.inside.code.now = sym (ap (λ (x : Standing). x.code) c.self.view_is) in
    enters c.self.inside.code.now c.self.inside.bases c.self.inside.keeps c.self.inside.at e c.add_activation.new.environment.now c.self.inside.environment.kept c.add_activation.new.environment.kept s
    (record { body = c.args.body; from = c.self.inside.at + 1; slots = c.slots.result; operands = c.operands.result }) c.args.values.items c.name_count-names.result c.self.invariant c.self.view_is
    (record {
      there = subst (λ (code : Code). c.args.body < length code.bodies) same c.requires.there;
      each =
          IfSome_then (slice_get c.self.inside.code.now.bodies c.args.body) (subst (λ (code : Code). IfSome (slice_get code.bodies c.args.body) (λ b. length c.args.values.items ≡ length b.parameters)) same c.requires.each)
          (λ b is. length-map c.args.values.items part ∙ is);
      names = c.name_count-names.ensures;
      slots = c.slots.ensures;
      operands = c.operands.ensures;
      from = refl;
    })
    c.in_ok-add_activation.ensures.slots c.in_ok-add_activation.ensures.rest c.in_ok-add_activation.ensures.kept

pub invariant_of-self-2 : goal.invariant_of-self-2
invariant_of-self-2 c = (done (goal.at.invariant_of-self-2 c).In_ok-add_activation).holds

pub returns : goal.returns
returns c = (done (goal.at.returns c).In_ok-add_activation).stands
