use Rattle.std.proofs.Common.{◌≢◌, ◌≤◌, ◌∙◌, ℕ, decimal, sym, arith}
use Rattle.std.proofs.lemmas.Fmt.{decimal_injective}
use Rattle.setl_top_words.proofs.Order.{always}
use Rattle.setl_top_words.proofs.trial.read_nodes.Goals as goal

pub returns-in_err-nodes-clause-none : goal.returns-in_err-nodes-clause-none
returns-in_err-nodes-clause-none c =
    let none : (n : ℕ) → 1 ≤ n → n ≤ 2000 → c.args.word.now ≢ decimal n = λ n some few spelled. c.in_err-nodes.ensures.none n (omega (arith, few)) spelled in
    always _ none

pub returns-else-nodes-ge1-clause-none : goal.returns-else-nodes-ge1-clause-none
returns-else-nodes-ge1-clause-none c n some few spelled =
    let read = c.in_ok-nodes.ensures.number in
    let same = decimal_injective c.in_ok-nodes.nodes n (omega (arith, read.1)) (omega (arith, few)) (sym read.0 ∙ spelled) in
    omega (arith, same, some, few)
