use Rattle.std.proofs.Common.{◌++◌, ◌∷◌, ap}
use Rattle.setl_value.specs.code.Body.{Members}
use Rattle.setl_modes_dump.specs.Dump.{form_word}
use Rattle.setl_rep_layout.proofs.ByModes.{digits_of_set}
use Rattle.setl_rep_layout.proofs.Words.{on_ok, three_parts}
use Rattle.setl_rep_layout.proofs.values.push_remote_set.Goals as goal

pub returns : goal.returns
returns c =
    let text = ap (λ d. form_word c.args.form ++ 32 ∷ d) (digits_of_set c.numbers_stand_for_members.ensures.tested c.args.base.now c.in_ok-numbers.numbers (Members c.args.s.now) c.learn.ensures c.in_ok-numbers.ensures) in
    on_ok c.push_digits.result (λ e. three_parts _ _ _ _ (form_word c.args.form) _ _ c.in_ok-push_form.ensures c.in_ok-push.ensures.items text e) c.push_digits.ensures
