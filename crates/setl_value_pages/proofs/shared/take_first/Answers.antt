use Rattle.std.proofs.Common.{ap, ◌∙◌, sym, ◌∷◌, None}
use Rattle.setl_value_pages.specs.ListLaws.{front_there, left_behind}
use Rattle.setl_value_pages.proofs.shared.take_first.Goals as goal

pub returns-clause-taken : goal.returns-clause-taken
returns-clause-taken g c =
    let s = c.args.start.now in
    let xs = c.args.items.now.value.items in
    let first = c.in_ok-first.first in
    front_there s xs first c.in_ok-first.ensures.taken ∙ ap (λ l. first ∷ l) (sym (left_behind xs c.take_part.new.items.value.items s None c.take_part.ensures.left))
