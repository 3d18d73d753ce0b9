use Rattle.std.proofs.Common.{◌∙◌, ap, sym, Some}
use Rattle.std.specs.Ordering.{is_eq}
use Rattle.setl_value.specs.code.Body.{Members}
use Rattle.setl_value.specs.code.DatumOf.{datum}
use Rattle.setl_value.specs.OrderLaws.{same_if_eq}
use Rattle.setl_value.specs.code.Places.{rank}
use Rattle.setl_value.proofs.Bodies.{set_facts}
use Rattle.setl_value.proofs.Halving.{absent_there}
use Rattle.setl_value.proofs.SetBody.search.Goals as goal

pub returns-then-is_eq-clause-found : goal.returns-then-is_eq-clause-found
returns-then-is_eq-clause-found c =
    sym c.in-Some.ensures ∙ ap Some (same_if_eq (datum c.in-Some.w.now) (datum c.args.v.now) (sym (c.is_eq.ensures ∙ ap is_eq c.compare.ensures) ∙ c.if-is_eq.true))

pub returns-else-is_eq-clause-absent : goal.returns-else-is_eq-clause-absent
returns-else-is_eq-clause-absent c =
    let b = c.args.self.now in
    absent_there (datum c.args.v.now) (Members b) (rank b c.bound-place.result) (datum c.in-Some.w.now) (set_facts (Members b) c.learn.ensures).1 c.bound-place.ensures.bound (sym c.in-Some.ensures)
    (sym (c.is_eq.ensures ∙ ap is_eq c.compare.ensures) ∙ c.if-is_eq.false)
