use Rattle.std.proofs.Common.{rules, ◌≡◌, ◌∙◌, FitsSigned, ap, w32, to_z, of_z}
use Rattle.std.proofs.lemmas.Int.{to_z-of_z}
use Rattle.setl_value.proofs.Leads.{leads_decide}
use Rattle.setl_value.proofs.TupleBody.compare_leads.Goals as goal

pub returns-else-a-b : goal.returns-else-a-b
returns-else-a-b c =
    let a = c.in_ok-a.a in
    let b = c.in_ok-b.b in
    let fits-a : FitsSigned w32 a = search rules in
    let fits-b : FitsSigned w32 b = search rules in
    simp to_z-of_z at c.cmp.ensures ∙ leads_decide c.args.self.now c.args.other.now a b c.in_ok-a.ensures c.in_ok-b.ensures (λ e. c.if-a-b.false (ap (of_z w32) e))
