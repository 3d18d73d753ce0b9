-- The claims.
use Rattle.std.proofs.Common.{◌≡◌, refl, sym, subst, true, false, Option}
use Rattle.setl_value.specs.Datum.{Datum}
use Rattle.setl_modes.specs.Modes.{Mode}
use Rattle.setl_modes.specs.Fits.{is_taken}
use Rattle.setl_model.specs.Step.{declared_mode}
use Rattle.setl_advise_flows.specs.Flow.{Flow}
use Rattle.setl_advise_flows.specs.Has.{HasAt}
use Rattle.setl_advise_flows.specs.Advice.{Bases}
use Rattle.setl_advise_flows.specs.Claims.{ReachedInFlows, HasAdvice, IsUndeclared, IsAdvised, AdviceFits}
use Rattle.setl_advise_flows.proofs.Moving.{read_in}
use Rattle.setl_advise_flows.proofs.Taking.{takes}
use Rattle.setl_advise_flows.proofs.Collected.{items_in, collects}
use Rattle.setl_advise_flows.proofs.Table.{operators}
use Rattle.setl_advise_flows.proofs.Fitting.{advised_takes}
use Rattle.setl_advise_flows.proofs.Whole.{reached_in, no_end_unfit}

pub reached_in_flows : ReachedInFlows
reached_in_flows p s solves input turns a h x = read_in p s x a.core (reached_in p s solves operators takes (items_in s) collects input turns false (λ x v k. refl) a h)

taken : (m : Option Mode) (b : Bases) (f : Flow) → HasAdvice m b f → (v : Option Datum) → HasAt f v → is_taken m v ≡ true
taken m b f (IsUndeclared e) v h = subst (λ m. is_taken m v ≡ true) (sym e) refl
taken m b f (IsAdvised e) v h = subst (λ m. is_taken m v ≡ true) (sym e) (advised_takes b f v h)

pub advice_fits : AdviceFits
advice_fits p s b solves has input turns n e a h =
    no_end_unfit p s solves operators takes (items_in s) collects input turns true (λ x v k. taken (declared_mode p.modes x) b (s.of x) (has x) v k) n e a h
