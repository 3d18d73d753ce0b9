use Rattle.std.proofs.Common.{◌≡◌, ap, ◌∙◌, map, ◌++◌, ◌∷◌, [], take, drop}
use Rattle.std.proofs.lemmas.List.{append-nil, take-append-drop}
use Rattle.std.proofs.lemmas.Result.{IfOk-weaker}
use Rattle.setl_value_pages.specs.Pages.{items, joined}
use Rattle.setl_value_pages.proofs.page_list.halves.Goals as goal

pub returns-clause-all : goal.returns-clause-all
returns-clause-all g c =
    let all = c.insert.new.self.items in
    let left = c.shrink_to_fit.new.self.items in
    let right = c.in_ok-right.right.items in
    let old = c.args.full.now in
    let copied : c.extend.new.list.items ≡ old = c.in_ok-extend.ensures.appended ∙ ap (λ l. l ++ old) c.in_ok-left.ensures.items in
    let whole : left ++ right ≡ all = (λ k. (c.shrink_to_fit.ensures.items ∙ c.in_ok-right.ensures.items) k ++ c.in_ok-right.ensures.tail k) ∙ take-append-drop 32 all in
    IfOk-weaker c.two_pages.result (λ two. map items two.items ≡ left ∷ right ∷ []) (λ two. joined (map items two.items) ≡ take c.args.i old ++ c.args.v ∷ drop c.args.i old) (λ two e.
    ap joined e ∙ ap (λ m. left ++ m) (append-nil right) ∙ whole ∙ c.in_ok-insert.ensures.items
    ∙ ap (λ m. take c.args.i m ++ c.args.v ∷ drop c.args.i m) copied) c.two_pages.ensures
