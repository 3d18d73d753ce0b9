use Rattle.std.proofs.Common.{◌∙◌, ◌++◌, ◌+◌, drop, ap, sym}
use Rattle.setl_rep_layout.specs.Members.{member_list, values_of}
use Rattle.setl_rep_layout.specs.Texts.{after_blanks, inner_texts}
use Rattle.setl_rep_layout.proofs.Members.{members_next}
use Rattle.setl_rep_layout.proofs.Words.{inner_split, next_part}
use Rattle.setl_rep_layout.proofs.lines.push_members.Goals as goal

pub loop-n-preserved : goal.loop-n-preserved
loop-n-preserved c =
    let b = c.args.base.now in
    let n = c.loop-n.n in
    next_part _ _ (after_blanks (inner_texts (member_list b (n + 1)))) (after_blanks (inner_texts (drop (n + 1) (values_of b)))) _ c.in_ok-push_member.ensures
    (ap (λ l. c.loop-n.into.items ++ l) (sym (inner_split (member_list b (n + 1)) (drop (n + 1) (values_of b))) ∙ ap (λ l. after_blanks (inner_texts l)) (sym (members_next b n))) ∙ c.loop-n.invariant)
