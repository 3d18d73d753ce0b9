use Rattle.std.proofs.Common.{◌≡◌, sym, subst, ◌∙◌, inl, inr, Some, slice_get, slice_set}
use Rattle.setl_value.specs.code.Body.{Members}
use Rattle.setl_value.specs.Order.{IsRising}
use Rattle.setl_value.specs.code.Places.{rank}
use Rattle.setl_value.proofs.SetBody.change_second.Goals as goal

pub change_second-requires-clause-grows : goal.change_second-requires-clause-grows
change_second-requires-clause-grows g c =
    let same : c.in_ok-pages.pages.now ≡ c.args.self.now = elim c.in_ok-pages.ensures.value [ inl e ↦ e ∙ c.self.view_is | inr e ↦ e ∙ c.self.view_is ] in
    λ m h. c.requires.grows m (subst (λ b. slice_get (Members b) (rank b c.args.c) ≡ Some m) same h)

pub change_second-requires-clause-rising : goal.change_second-requires-clause-rising
change_second-requires-clause-rising g c =
    let same : c.in_ok-pages.pages.now ≡ c.args.self.now = elim c.in_ok-pages.ensures.value [ inl e ↦ e ∙ c.self.view_is | inr e ↦ e ∙ c.self.view_is ] in
    λ m h r n w. subst (λ b. IsRising (slice_set (Members b) (rank b c.args.c) n)) (sym same) (c.requires.rising m (subst (λ b. slice_get (Members b) (rank b c.args.c) ≡ Some m) same h) r n w)
