use Rattle.std.proofs.Common.{ap, sym, ◌∙◌, subst}
use Rattle.std.specs.Prelude.{is_ok}
use Rattle.std.proofs.lemmas.Result.{IfErr-at_err}
use Rattle.std.specs.Option.{option_map}
use Rattle.setl_rep_forms.specs.FormOf.{form}
use Rattle.setl_rep_maps.specs.code.Entries.{remote_entries, PutsEntry}
use Rattle.setl_rep_maps.proofs.Entries.{at_err, remote_put, remote_cloned}
use Rattle.setl_rep_maps.proofs.putting.put_in_slots.Goals as goal

pub returns-in_err-slots-clause-refused : goal.returns-in_err-slots-clause-refused
returns-in_err-slots-clause-refused c =
    at_err c.from_residual.result (remote_cloned c.args.shared.now.value _ (IfErr-at_err _ c.in_err-slots.was c.make_mut.follows.holds-at-none))

pub returns-in_err-put-clause-refused : goal.returns-in_err-put-clause-refused
returns-in_err-put-clause-refused c =
    let old = c.in_ok-slots.slots.now in
    let left = c.make_mut.follows.holds c.put.new.self (ap is_ok c.in_ok-slots.was) in
    at_err c.from_residual-in_err-put.result (ap remote_entries (left ∙ c.in_err-put.ensures.err) ∙ remote_cloned c.args.shared.now.value old c.in_ok-slots.ensures.value)

pub returns-clause-put : goal.returns-clause-put
returns-clause-put c =
    let old = c.in_ok-slots.slots.now in
    let left = c.make_mut.follows.holds c.put.new.self (ap is_ok c.in_ok-slots.was) in
    let same = remote_cloned c.args.shared.now.value old c.in_ok-slots.ensures.value in
    subst (λ es. PutsEntry c.args.block (option_map form c.args.content) es (remote_entries (c.make_mut.follows.lender c.put.new.self).value)) same
    (subst (λ cs. PutsEntry c.args.block (option_map form c.args.content) (remote_entries old) (remote_entries cs)) (sym left)
    (remote_put c.slots_are_keyed.ensures old c.put.new.self c.args.block c.args.content c.in_ok-put.ensures.ok))
