use Rattle.std.proofs.Common.{◌∙◌, ◌++◌, ap}
use Rattle.setl_modes_dump.specs.Dump.{digits_or_none}
use Rattle.setl_modes.specs.Modes.{mode_of}
use Rattle.setl_rep_bases.specs.Bases.{base_at}
use Rattle.setl_rep_forms.specs.Stands.{members_at}
use Rattle.setl_rep_layout.specs.Members.{values_of}
use Rattle.setl_rep_layout.proofs.Modes.{of_remote_set}
use Rattle.setl_rep_layout.proofs.Words.{on_ok, three_parts}
use Rattle.setl_rep_layout.proofs.parts.push_remote.Goals as goal

pub returns : goal.returns
returns c =
    let bs = c.args.bases.now in
    let is = ap (λ x. digits_or_none (members_at x c.args.bits.now) (values_of x)) c.at.ensures.base in
    on_ok c.push_digits.result
    (λ e. three_parts _ _ _ _ _ (digits_or_none (members_at (base_at bs c.args.b) c.args.bits.now) (values_of (base_at bs c.args.b))) _
    c.in_ok-push_word.ensures c.in_ok-push.ensures.items (of_remote_set bs (mode_of c.args.mode.now) c.args.b c.args.bits.now c.requires.form) (e ∙ ap (λ l. c.push.new.self.items ++ l) is))
    c.push_digits.ensures
