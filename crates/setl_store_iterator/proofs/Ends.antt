-- When nothing is left.
use Rattle.std.specs.Prelude.{◌≡◌, ◌⊎◌, ℕ, ◌==◌, nat_le, length}
use Rattle.std.proofs.Common.{ap, sym, ◌∙◌, subst, inl, inr}
use Rattle.setl_value.specs.code.Body.{Body, Members}
use Rattle.setl_value.specs.declared.TupleBody.{TupleBody}
use Rattle.setl_value.specs.declared.string.Text.{Text}
use Rattle.setl_store_iterator.specs.Rests.{IsSound, left_of}
use Rattle.setl_store_iterator.specs.declared.rests.MemberAt.{MemberAt}
use Rattle.setl_store_iterator.specs.declared.rests.Rest.{Rest}
use Rattle.setl_store_iterator.specs.declared.rests.Rest.TheVariants as rest
use Rattle.setl_store_iterator.proofs.Lists.{no_members, no_components, no_letters, no_places, no_letter_places}
use Rattle.setl_store_iterator.proofs.PointSteps.{no_points}

pub set_ends : (r : Rest) (s : Body) (at : MemberAt) (n : ℕ) → IsSound r → n ≡ length (Members s) → (r ≡ rest.Members s at) ⊎ (r ≡ rest.Points s at) → nat_le n at.index ≡ (length (left_of r) == 0)
set_ends r s at n h e (inl is) = no_members (Members s) n at.index e ∙ ap (λ x. length (left_of x) == 0) (sym is)
set_ends r s at n h e (inr is) = no_points (Members s) n at.index (subst IsSound is h).0 e ∙ ap (λ x. length (left_of x) == 0) (sym is)

pub tuple_ends : (r : Rest) (t : TupleBody) (at n : ℕ) → n ≡ length t → (r ≡ rest.Components t at) ⊎ (r ≡ rest.Places t at) → nat_le n at ≡ (length (left_of r) == 0)
tuple_ends r t at n e (inl is) = no_components t n at e ∙ ap (λ x. length (left_of x) == 0) (sym is)
tuple_ends r t at n e (inr is) = no_places t n at _ e ∙ ap (λ x. length (left_of x) == 0) (sym is)

pub text_ends : (r : Rest) (t : Text) (at n : ℕ) → n ≡ length t → (r ≡ rest.Letters t at) ⊎ (r ≡ rest.LetterPlaces t at) → nat_le n at ≡ (length (left_of r) == 0)
text_ends r t at n e (inl is) = no_letters t n at e ∙ ap (λ x. length (left_of x) == 0) (sym is)
text_ends r t at n e (inr is) = no_letter_places t n at _ e ∙ ap (λ x. length (left_of x) == 0) (sym is)
