-- What is known where `clap` refuses the words.
use Rattle.std.proofs.Common.{◌≡◌, ◌≢◌, ◌∙◌, ℕ, true, List, [], ◌∷◌, Result, Ok, Err, IfOk, length, arith, inl, inr, refl, ap, subst}
use Rattle.clap.specs.Words.{App, HasKind, Kinds, fault_of, is_simple_and_free, kind_of}
use Rattle.clap.specs.declared.error.Error.{Error}
use Rattle.clap.specs.declared.error.ErrorKind.TheVariants.{OutOfMemory}
use Rattle.clap.proofs.OnLiterals.{clap_on_literals}
use Rattle.setl_top_words.specs.Line.{setl_app}
use Rattle.setl_top_words.specs.Told.{TellsFaulty}

pub is_simple : is_simple_and_free setl_app ≡ true
unfolding clap_on_literals
is_simple = refl

no_kind : (kinds : Kinds) (e : Error) → kinds ≡ [] → HasKind kinds e → kind_of e ≡ OutOfMemory
no_kind [] e none (inl k) = k
no_kind [] e none (inr k) = absurd k
no_kind (x ∷ xs) e none k = absurd (omega (arith, ap length none))

pub tells_refusal : {S T : Type 0} → (bytes : S → List ℕ) (a : App) (words : List (List ℕ)) (e : Error) (r : Result S T) → a ≡ setl_app → (is_simple_and_free a ≡ true → HasKind (fault_of a words) e) → IfOk r (λ t. bytes t ≢ []) → IfOk r (λ t. kind_of e ≢ OutOfMemory) → IfOk r (λ t. TellsFaulty words (bytes t))
tells_refusal bytes a words e (Err x) is kinds some other = tt
tells_refusal bytes a words e (Ok t) is kinds some other =
    let kind = subst (λ x. HasKind (fault_of x words) e) is (kinds (ap is_simple_and_free is ∙ is_simple)) in
    record { taken = λ none. absurd (other (no_kind (fault_of setl_app words) e none kind)); some = some }
