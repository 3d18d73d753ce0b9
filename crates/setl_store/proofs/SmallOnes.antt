-- What was looked at before it was taken out.
use Rattle.std.proofs.Common.{◌≡◌, ◌∙◌, Bool, true, Option, Some, sym, ap}
use Rattle.std.specs.Option.{unwrap_or}

pub still : {A : Type 0} (f : A → Bool) (x y : A) (there : Option A) (seen : Bool) → Some x ≡ there → Some y ≡ there → seen ≡ f y → seen ≡ true → f x ≡ true
still f x y there seen e h is was = ap (λ o. f (unwrap_or o x)) (e ∙ sym h) ∙ sym is ∙ was
