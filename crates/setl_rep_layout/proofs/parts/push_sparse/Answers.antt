use Rattle.std.proofs.Common.{◌∙◌, ◌++◌, ap}
use Rattle.setl_modes_dump.specs.Dump.{listed, numbers_from}
use Rattle.setl_modes.specs.Modes.{mode_of}
use Rattle.setl_rep_bases.specs.Bases.{base_at}
use Rattle.setl_rep_forms.specs.Stands.{members_at}
use Rattle.setl_rep_layout.specs.Members.{values_of}
use Rattle.setl_rep_layout.specs.Texts.{after_blanks}
use Rattle.setl_rep_layout.proofs.Modes.{of_sparse_set}
use Rattle.setl_rep_layout.proofs.Words.{on_ok, two_parts}
use Rattle.setl_rep_layout.proofs.parts.push_sparse.Goals as goal

pub returns : goal.returns
returns c =
    let bs = c.args.bases.now in
    let is = ap (λ x. after_blanks (listed (numbers_from 1 (members_at x c.args.table.now) (values_of x)))) c.at.ensures.base in
    on_ok c.push_numbers.result
    (λ e. two_parts _ _ _ _ (after_blanks (listed (numbers_from 1 (members_at (base_at bs c.args.b) c.args.table.now) (values_of (base_at bs c.args.b))))) _
    c.in_ok-push_word.ensures (of_sparse_set bs (mode_of c.args.mode.now) c.args.b c.args.table.now c.requires.form) (e ∙ ap (λ l. c.push_word.new.into.items ++ l) is))
    c.push_numbers.ensures
