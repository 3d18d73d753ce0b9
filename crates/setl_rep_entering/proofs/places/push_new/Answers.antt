use Rattle.std.proofs.Common.{◌≡◌, ◌∙◌, ◌++◌, ◌∷◌, [], None, true, not, sym, ap, subst}
use Rattle.std.specs.Option.{is_some}
use Rattle.setl_value.specs.code.DatumOf.{datum}
use Rattle.setl_base.specs.Base.{find}
use Rattle.setl_rep_bases.specs.Bases.{base_at, named}
use Rattle.setl_rep_entering.proofs.Gaining.{gains_new, gains_member, none_if}
use Rattle.setl_rep_entering.proofs.places.push_new.Goals as goal

pub returns-in_ok-push : goal.returns-in_ok-push
returns-in_ok-push c =
    let bs = c.args.a.now.bases.now in
    let n = c.args.a.now.instance in
    let d = datum c.args.v.now in
    let none : find (base_at bs (named bs n c.args.b)) d ≡ None =
    ap (λ i. find (base_at bs i) d) (sym c.named-base.ensures) ∙ ap (λ b. find b d) (sym c.at.ensures.base) ∙ sym c.find.ensures.handle ∙ none_if c.find.result (ap not (c.is_none.ensures ∙ ap not c.if-is_none.true))
    in
    gains_new c.instances_are_read.ensures.names bs n c.args.b d c.in_ok-value.value c.args.found.now.items c.push.new.self.items (ap datum c.in_ok-value.ensures.same) none
    (subst (λ i. c.push.new.self.items ≡ c.args.found.now.items ++ record { base = i; value = c.in_ok-value.value } ∷ []) c.named-base.ensures c.in_ok-push.ensures.items)

pub returns-else-is_none : goal.returns-else-is_none
returns-else-is_none c =
    let bs = c.args.a.now.bases.now in
    let n = c.args.a.now.instance in
    let d = datum c.args.v.now in
    let some : is_some (find (base_at bs (named bs n c.args.b)) d) ≡ true =
    ap (λ i. is_some (find (base_at bs i) d)) (sym c.named-base.ensures) ∙ ap (λ b. is_some (find b d)) (sym c.at.ensures.base) ∙ ap is_some (sym c.find.ensures.handle) ∙ c.is_none.ensures ∙ ap not c.if-is_none.false
    in
    gains_member c.instances_are_read.ensures.names bs n c.args.b d c.args.found.now.items some
