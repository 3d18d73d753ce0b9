use Rattle.std.proofs.Common.{rules, ◌≡◌, ◌∙◌, FitsSigned, ap, w32}
use Rattle.std.specs.Int.{w128}
use Rattle.std.specs.Prelude.{int_lt}
use Rattle.setl_value.specs.Datum.{int}
use Rattle.setl_value.proofs.Leads.{int_is_lt}
use Rattle.std.proofs.lemmas.Int.{to_z-of_z}
use Rattle.std.specs.Ordering.{is_lt}
use Rattle.setl_value.specs.code.DatumOf.{datum}
use Rattle.setl_value.proofs.Halving.{starts_with, starts_without}
use Rattle.setl_value.proofs.order.starts_below.Goals as goal

pub returns-in-Some : goal.returns-in-Some
returns-in-Some c = c.is_lt.ensures ∙ ap is_lt c.compare.ensures ∙ starts_with c.args.t.now (datum c.in-Some.v.now) (datum c.args.x.now) c.in-Some.ensures

pub returns-in-None : goal.returns-in-None
returns-in-None c = starts_without c.args.t.now (datum c.args.x.now) c.in-None.ensures

pub returns-in-Some-Int : goal.returns-in-Some-Int
returns-in-Some-Int c =
    let n = c.in-Some-Int.n in
    let z = c.in-Some-Int.z in
    let fits : FitsSigned w32 n = search rules in
    let fits-n : FitsSigned w128 c.from.result = search rules in
    let fits-z : FitsSigned w128 z = search rules in
    let same : c.from.result ≡ n = simp to_z-of_z at c.from.ensures in
    rw (c.in-Some-Int.is-1)
    ((λ i. int_lt ((to_z-of_z w128 c.from.result fits-n ∙ same) i) (to_z-of_z w128 z fits-z i))
    ∙ int_is_lt n z ∙ starts_with c.args.t.now (int n) (int z) c.in-Some-Int.ensures)
