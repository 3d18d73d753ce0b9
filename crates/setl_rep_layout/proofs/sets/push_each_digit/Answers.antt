use Rattle.std.proofs.Common.{◌≡◌, ◌∙◌, ◌+◌, ◌++◌, ◌∷◌, [], suc, drop, if◌then◌else◌, ap, sym, arith}
use Rattle.std.specs.FinSet as set
use Rattle.setl_modes_dump.specs.Dump.{digits_of}
use Rattle.setl_rep_based.specs.Numbers.{numbers_in}
use Rattle.setl_rep_forms.specs.Stands.{members_at}
use Rattle.setl_rep_layout.specs.Members.{values_of}
use Rattle.setl_rep_layout.proofs.Members.{count_of, digit_next, tested}
use Rattle.setl_rep_layout.proofs.Words.{next_part}
use Rattle.setl_rep_layout.proofs.sets.push_each_digit.Goals as goal

pub loop-n-preserved : goal.loop-n-preserved
loop-n-preserved c =
    let b = c.args.base.now in
    let ns = numbers_in c.args.numbers in
    let s = members_at b ns in
    let n = c.loop-n.n in
    let e : n + 1 ≡ suc n = omega arith in
    next_part _ _ (c.digit.result ∷ []) (digits_of s (drop (n + 1) (values_of b))) _ c.in_ok-push.ensures.items
    (
    ap (λ l. c.loop-n.into.items ++ l) (
    ap (λ d. d ∷ digits_of s (drop (n + 1) (values_of b))) c.digit.ensures
    ∙ ap (λ k. (if c.test.result then 49 else 48) ∷ digits_of s (drop k (values_of b))) e
    ∙ sym (digit_next s (values_of b) n c.test.result (omega (arith, c.loop-n-test.true, c.mark-count.ensures, count_of b)) (λ d h. tested c.numbers_stand_for_members.ensures.tested b ns c.learn.ensures n d h ∙ ap (set.contains ns) (sym e) ∙ sym c.test.ensures))
    )
    ∙ c.loop-n.invariant
    )
