use Rattle.std.proofs.Common.{◌∙◌, [], ◌∷◌, ◌++◌, map, ap, sym, subst}
use Rattle.std.specs.List.Sorted.{IsStrictlySortedBy}
use Rattle.setl_value.specs.Order.{IsRising}
use Rattle.setl_value.specs.code.DatumOf.{datum}
use Rattle.setl_rep_images.proofs.selecting.set_of_image.Goals as goal

pub from_rising-requires-clause-rising : goal.from_rising-requires-clause-rising
unfolding IsStrictlySortedBy
from_rising-requires-clause-rising c =
    subst (λ l. IsRising (map datum l)) (sym (c.push_reserved.ensures.items ∙ ap (λ l. l ++ c.in-Some.value ∷ []) c.in_ok-members.ensures.items)) (tt, tt)
