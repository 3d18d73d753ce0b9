-- Lists whose codec rests on what was read before.
use Rattle.std.proofs.Common.{◌≡◌, ℕ, List, map, Option, Some, sym, ap, ◌∙◌, subst}
use Rattle.std.specs.Prelude.{Result, Ok, Err}
use Rattle.std.specs.Borrow.{Bor}
use Rattle.setl_modes.specs.declared.mode.NamedMode.{NamedMode}
use Rattle.setl_code.specs.declared.code.Step.{Step}
use Rattle.setl_code.specs.declared.code.Body.{Body}
use Rattle.setl_image_codec.specs.Codec.{pair}
use Rattle.setl_image_codec.specs.Given.{Gives}
use Rattle.setl_image_codec.specs.Numbers.{listed}
use Rattle.setl_image_codec.specs.Texts.{name}
use Rattle.setl_image_codec.specs.declared.fault.ImageFault.{ImageFault}
use Rattle.setl_image_format.specs.Steps.{step}
use Rattle.setl_image_format.specs.ModeCodec.{mode}
use Rattle.setl_image_format.specs.ImageCodec.{body}
use Rattle.setl_image.specs.Views.{modes_of, named_of}
use Rattle.setl_image.proofs.Decoding.{same_items}

-- a list whose items stand for themselves
pub plain_items : {X : Type 0} (r : Result (List X × Bor (List ℕ)) ImageFault) (o : Option (List X × List ℕ)) → Gives (λ x. (map (λ y. y) x.0, x.1.now)) r o → Gives (λ x. (x.0, x.1.now)) r o
plain_items (Ok x) o is = is ∙ ap (λ t. Some (t, x.1.now)) (same_items x.0)
plain_items (Err e) o is = is

-- ---- steps

pub steps_seen : (globals o p : ℕ) (bytes : List ℕ) (r : Result (List Step × Bor (List ℕ)) ImageFault) → o ≡ p → Gives (λ x. (map (λ y. y) x.0, x.1.now)) r ((listed (step globals o)).read bytes) → Gives (λ x. (x.0, x.1.now)) r ((listed (step globals p)).read bytes)
steps_seen globals o p bytes (Ok x) same is = subst (λ n. (listed (step globals n)).read bytes ≡ Some (x.0, x.1.now)) same (is ∙ ap (λ t. Some (t, x.1.now)) (same_items x.0))
steps_seen globals o p bytes (Err e) same is = subst (λ n. Gives {X = List Step × Bor (List ℕ)} (λ x. (x.0, x.1.now)) (Err e) ((listed (step globals n)).read bytes)) same is

pub steps_fit : (globals o p : ℕ) (xs ys : List Step) → o ≡ p → ys ≡ xs → (listed (step globals p)).Fits xs → (listed (step globals o)).Fits (map (λ y. y) ys)
steps_fit globals o p xs ys same are fits = subst (λ n. (listed (step globals n)).Fits (map (λ y. y) ys)) (sym same) (subst (listed (step globals p)).Fits (sym (same_items ys ∙ are)) fits)

pub steps_written : (globals o p : ℕ) (xs ys : List Step) → o ≡ p → ys ≡ xs → (listed (step globals o)).write (map (λ y. y) ys) ≡ (listed (step globals p)).write xs
steps_written globals o p xs ys same are = ap (λ n. (listed (step globals n)).write (map (λ y. y) ys)) same ∙ ap (listed (step globals p)).write (same_items ys ∙ are)

-- ---- bodies

pub bodies_seen : (o p : ℕ) (bytes : List ℕ) (r : Result (List Body × Bor (List ℕ)) ImageFault) → o ≡ p → Gives (λ x. (map (λ y. y) x.0, x.1.now)) r ((listed (body o)).read bytes) → Gives (λ x. (x.0, x.1.now)) r ((listed (body p)).read bytes)
bodies_seen o p bytes (Ok x) same is = subst (λ n. (listed (body n)).read bytes ≡ Some (x.0, x.1.now)) same (is ∙ ap (λ t. Some (t, x.1.now)) (same_items x.0))
bodies_seen o p bytes (Err e) same is = subst (λ n. Gives {X = List Body × Bor (List ℕ)} (λ x. (x.0, x.1.now)) (Err e) ((listed (body n)).read bytes)) same is

pub bodies_fit : (o p : ℕ) (xs ys : List Body) → o ≡ p → ys ≡ xs → (listed (body p)).Fits xs → (listed (body o)).Fits (map (λ y. y) ys)
bodies_fit o p xs ys same are fits = subst (λ n. (listed (body n)).Fits (map (λ y. y) ys)) (sym same) (subst (listed (body p)).Fits (sym (same_items ys ∙ are)) fits)

pub bodies_written : (o p : ℕ) (xs ys : List Body) → o ≡ p → ys ≡ xs → (listed (body o)).write (map (λ y. y) ys) ≡ (listed (body p)).write xs
bodies_written o p xs ys same are = ap (λ n. (listed (body n)).write (map (λ y. y) ys)) same ∙ ap (listed (body p)).write (same_items ys ∙ are)

-- ---- declared variables

pub vars_fit : (bs bases ys xs : List NamedMode) → bs ≡ bases → ys ≡ xs → (listed (pair name (mode (modes_of bases)))).Fits (map named_of xs) → (listed (pair name (mode (modes_of bs)))).Fits (map named_of ys)
vars_fit bs bases ys xs same are fits = subst (λ t. (listed (pair name (mode (modes_of t)))).Fits (map named_of ys)) (sym same) (subst (λ t. (listed (pair name (mode (modes_of bases)))).Fits (map named_of t)) (sym are) fits)

pub vars_written : (bs bases ys xs : List NamedMode) → bs ≡ bases → ys ≡ xs → (listed (pair name (mode (modes_of bs)))).write (map named_of ys) ≡ (listed (pair name (mode (modes_of bases)))).write (map named_of xs)
vars_written bs bases ys xs same are = ap (λ t. (listed (pair name (mode (modes_of t)))).write (map named_of ys)) same ∙ ap (λ t. (listed (pair name (mode (modes_of bases)))).write (map named_of t)) are
