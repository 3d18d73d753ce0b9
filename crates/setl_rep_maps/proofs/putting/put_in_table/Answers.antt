use Rattle.std.proofs.Common.{ap, sym, ◌∙◌, subst}
use Rattle.std.specs.Prelude.{is_ok}
use Rattle.std.proofs.lemmas.Result.{IfErr-at_err}
use Rattle.std.specs.Option.{option_map}
use Rattle.setl_rep_forms.specs.FormOf.{form}
use Rattle.setl_rep_maps.specs.code.Entries.{sparse_entries, PutsEntry}
use Rattle.setl_rep_maps.proofs.Entries.{at_err, sparse_put, sparse_cloned}
use Rattle.setl_rep_maps.proofs.putting.put_in_table.Goals as goal

pub returns-in_err-table-clause-refused : goal.returns-in_err-table-clause-refused
returns-in_err-table-clause-refused c =
    at_err c.from_residual.result (sparse_cloned c.args.shared.now.value _ (IfErr-at_err _ c.in_err-table.was c.make_mut.follows.holds-at-none))

pub returns-in_err-put-clause-refused : goal.returns-in_err-put-clause-refused
returns-in_err-put-clause-refused c =
    let old = c.in_ok-table.table.now in
    let left = c.make_mut.follows.holds c.put.new.self (ap is_ok c.in_ok-table.was) in
    at_err c.from_residual-in_err-put.result (ap sparse_entries (left ∙ c.in_err-put.ensures.err) ∙ sparse_cloned c.args.shared.now.value old c.in_ok-table.ensures.value)

pub returns-clause-put : goal.returns-clause-put
returns-clause-put c =
    let old = c.in_ok-table.table.now in
    let left = c.make_mut.follows.holds c.put.new.self (ap is_ok c.in_ok-table.was) in
    let same = sparse_cloned c.args.shared.now.value old c.in_ok-table.ensures.value in
    subst (λ es. PutsEntry c.args.block (option_map form c.args.content) es (sparse_entries (c.make_mut.follows.lender c.put.new.self).value)) same
    (subst (λ cs. PutsEntry c.args.block (option_map form c.args.content) (sparse_entries old) (sparse_entries cs)) (sym left)
    (sparse_put old c.put.new.self c.args.block c.args.content c.in_ok-put.ensures.ok))
