use Rattle.std.proofs.Common.{ap, sym, ◌∙◌, subst}
use Rattle.std.specs.Prelude.{is_ok, is_some}
use Rattle.std.proofs.lemmas.Result.{IfErr-at_err}
use Rattle.setl_sparse.specs.Entries.{content_at}
use Rattle.setl_rep_maps.specs.code.Changing.{ChangesEntry}
use Rattle.setl_rep_maps.specs.code.Entries.{sparse_entries}
use Rattle.setl_rep_maps.proofs.Entries.{at_err, sparse_cloned}
use Rattle.setl_rep_maps.proofs.Changes.{no_content, content_is_there, content_formed, content_changed}
use Rattle.setl_rep_maps.proofs.changing.change_in_table.Goals as goal

pub returns-then-not-test-clause-nothing : goal.returns-then-not-test-clause-nothing
returns-then-not-test-clause-nothing g c =
    let n = c.args.block in
    no_content c.args.shared.now.value n (ap (λ es. is_some (content_at es n)) (sym c.deref.ensures) ∙ sym c.test.ensures ∙ c.if-not-test.true)

pub returns-in_err-table-clause-refused : goal.returns-in_err-table-clause-refused
returns-in_err-table-clause-refused g c =
    at_err c.from_residual.result (sparse_cloned c.args.shared.now.value _ (IfErr-at_err _ c.in_err-table.was c.make_mut.follows.holds-at-none))

pub change_entry-requires-clause-there : goal.change_entry-requires-clause-there
change_entry-requires-clause-there g c =
    let n = c.args.block in
    let old = c.in_ok-table.table.now in
    content_is_there c.args.shared.now.value old n (sparse_cloned c.args.shared.now.value old c.in_ok-table.ensures.value)
    (ap (λ es. is_some (content_at es n)) (sym c.deref.ensures) ∙ sym c.test.ensures ∙ c.if-not-test.false)

pub change_entry-requires-clause-callable : goal.change_entry-requires-clause-callable
change_entry-requires-clause-callable g c = λ h is.
    let old = c.in_ok-table.table.now in
    c.requires.callable h (content_formed c.args.shared.now.value old c.args.block h (sparse_cloned c.args.shared.now.value old c.in_ok-table.ensures.value) is)

pub returns-clause-changed : goal.returns-clause-changed
returns-clause-changed g c =
    let n = c.args.block in
    let r = c.change_entry.result in
    let old = c.in_ok-table.table.now in
    let new = c.change_entry.new.table in
    let e = c.change_entry.ensures.changed in
    subst (λ es. ChangesEntry g.F.FnOnce c.args.change n r (sparse_entries c.args.shared.now.value) (sparse_entries es)) (sym (c.make_mut.follows.holds new (ap is_ok c.in_ok-table.was)))
    (content_changed g.F.FnOnce c.args.change n r c.args.shared.now.value old new e.0 e.1 c.change_entry.ensures.places c.change_entry.ensures.distinct (sparse_cloned c.args.shared.now.value old c.in_ok-table.ensures.value) e.2 e.3 e.4)
